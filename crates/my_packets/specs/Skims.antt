-- What the bytes are that a skim was fed.
use Rattle.std.specs.Prelude.{ℕ, ◌≡◌, ◌<◌, ◌≤◌, ◌+◌, ◌-◌, List, [], ◌++◌, length, take, Option, Some, None, Result, Err, MatchResult, OnOk, OnErr, IfErr}
use Rattle.my_packets.specs.Begins.{IsWrong}
use Rattle.my_packets.specs.Front.{HasFull, HasMessage}
use Rattle.wire_forms.specs.Packet.{packet_header, full_size, id_after}
use Rattle.my_packets.specs.Skimmed.{Skimmed}
use Rattle.my_packets.specs.declared.frames.FrameFault.{FrameFault}
use Rattle.my_packets.specs.declared.skim.Stage.{Stage}
use Rattle.my_packets.specs.declared.skim.Stage.TheVariants.{Header, Packet, Whole, Wrong}

-- full packets, and less than the next header
pub record IsInHeader (seq limit : ℕ) (fed : List ℕ) (skim : Skimmed) : Type 0 where
  pub count : ℕ
  pub payload : List ℕ
  pub full : HasFull limit seq count payload fed skim.header
  pub less : length skim.header < 4
  pub kept : skim.kept ≡ take 1024 payload
  pub total : skim.total ≡ length payload
  pub id : skim.id ≡ id_after count seq

-- full packets, the header of a packet of so many payload bytes, and all but so many of these
pub record IsInPacket (seq limit size left : ℕ) (fed : List ℕ) (skim : Skimmed) : Type 0 where
  pub count : ℕ
  pub payload : List ℕ
  pub part : List ℕ
  pub full : HasFull limit seq count payload fed (packet_header size skim.id ++ part)
  pub small : size ≤ full_size
  pub fits : length payload + size ≤ limit
  pub there : length part + left ≡ size
  pub some : 0 < left
  pub kept : skim.kept ≡ take 1024 (payload ++ part)
  pub total : skim.total ≡ length payload + size
  pub id : skim.id ≡ id_after count seq

-- a whole message, and no more
pub record IsReadWhole (seq limit : ℕ) (fed : List ℕ) (skim : Skimmed) : Type 0 where
  pub message : List ℕ
  pub whole : HasMessage limit seq message fed []
  pub kept : skim.kept ≡ take 1024 message

-- full packets, and a header that is wrong
pub record IsBroken (seq limit : ℕ) (fault : FrameFault) (fed : List ℕ) : Type 0 where
  pub why : IsWrong limit seq fed fault
  pub count : ℕ
  pub payload : List ℕ
  pub header : List ℕ
  pub full : HasFull limit seq count payload fed header
  pub ends : length header ≡ 4

-- what the bytes are at each stage
abbrev pub IsAt : ℕ → ℕ → List ℕ → Skimmed → Stage → Type 0
IsAt seq limit fed skim Header = IsInHeader seq limit fed skim
IsAt seq limit fed skim (Packet size left) = IsInPacket seq limit size left fed skim
IsAt seq limit fed skim Whole = IsReadWhole seq limit fed skim
IsAt seq limit fed skim (Wrong fault) = IsBroken seq limit fault fed

-- a skim that awaited this sequence id first, with this limit, was fed these bytes
pub record Skims (seq limit : ℕ) (fed : List ℕ) (skim : Skimmed) : Type 0 where
  pub limit_is : skim.limit ≡ limit
  pub at : IsAt seq limit fed skim skim.stage

-- how many bytes a skim wants at a stage: those that are missing of the header or the packet
abbrev pub wanted_at : Stage → List ℕ → ℕ
wanted_at Header header = 4 - length header
wanted_at (Packet size left) header = left
wanted_at Whole header = 0
wanted_at (Wrong fault) header = 0

-- how many bytes a skim wants
abbrev pub wanted : Skimmed → ℕ
wanted skim = wanted_at skim.stage skim.header

-- the fault of a stage, where a packet was wrong
abbrev pub skim_fault : Stage → Option FrameFault
skim_fault Header = None
skim_fault (Packet size left) = None
skim_fault Whole = None
skim_fault (Wrong fault) = Some fault

-- the fault that a skim answers from now on, where a packet was wrong
abbrev pub fault_of : Skimmed → Option FrameFault
fault_of skim = skim_fault skim.stage

-- what feeding does to a skim: the bytes follow those that it was fed before, and a fault comes exactly where a packet is wrong
pub record Feeds (old : Skimmed) (piece : List ℕ) (result : Result (Unit {0}) FrameFault)
    (new : Skimmed) : Type 0 where
  pub follows : (seq limit : ℕ) (fed : List ℕ) → Skims seq limit fed old →
      Skims seq limit (fed ++ piece) new
  pub right : OnOk result
      ((seq limit : ℕ) (fed : List ℕ) → Skims seq limit fed old → (fault : FrameFault) →
      ¬ IsWrong limit seq (fed ++ piece) fault)
  pub wrong : IfErr result
      (λ fault. (seq limit : ℕ) (fed : List ℕ) → Skims seq limit fed old →
      IsWrong limit seq (fed ++ piece) fault)
  -- from a fault on nothing is wanted, and the same fault is answered again
  pub stands : MatchResult result (λ _. fault_of new ≡ None) (λ fault. fault_of new ≡ Some fault)
  pub spent : OnErr result (wanted new ≡ 0)
  pub again : (fault : FrameFault) → fault_of old ≡ Some fault → (result ≡ Err fault) × (new ≡ old)
