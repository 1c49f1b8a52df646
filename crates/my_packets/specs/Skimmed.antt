-- What a skim holds.
use Rattle.std.specs.Prelude.{ℕ, List}
use Rattle.my_packets.specs.declared.skim.Stage.{Stage}

-- what a skim knows of the message that it reads
pub record Skimmed : Type 0 where
  -- the first 1,024 payload bytes, or all where there were fewer
  pub kept : List ℕ
  -- where the message is read, and the bytes of the header so far
  pub stage : Stage
  pub header : List ℕ
  -- how many payload bytes were announced, with the packet that is being read
  pub total : ℕ
  -- the sequence id that the packet has to have, and the most bytes that the message may have
  pub id : ℕ
  pub limit : ℕ
