use Rattle.std.proofs.Common.{ap, ◌∙◌}
use Rattle.my_packets.proofs.Skimming.{kept_of}
use Rattle.my_packets.specs.Skimmed.{Skimmed}
use Rattle.my_packets.proofs.skim.Skim.kept.Goals as goal

pub returns-clause-message : goal.returns-clause-message
returns-clause-message c seq limit fed message skims fed_is = ap (λ (s : Skimmed). s.kept) c.self.view_is ∙ kept_of seq limit fed message c.args.self.now skims fed_is
