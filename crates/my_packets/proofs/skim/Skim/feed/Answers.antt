use Rattle.std.proofs.Common.{◌≡◌, ap, sym, ◌∙◌, arith}
use Rattle.my_packets.proofs.Skimming.{feeds_whole, feeds_broken}
use Rattle.my_packets.specs.Skimmed.{Skimmed}
use Rattle.my_packets.specs.Skims.{wanted, wanted_at}
use Rattle.my_packets.specs.declared.skim.Stage.{Stage}
use Rattle.my_packets.proofs.skim.Skim.feed.Goals as goal

pub returns-in-Whole : goal.returns-in-Whole
returns-in-Whole c =
    let skim = c.args.self.now in
    let stage = sym (ap (λ (s : Skimmed). s.stage) c.self.view_is) ∙ c.in-Whole.is in
    let none : wanted skim ≡ 0 = ap (λ (s : Stage). wanted_at s skim.header) stage in
    feeds_whole skim c.args.piece.now stage (omega arith)

pub returns-in-Wrong : goal.returns-in-Wrong
returns-in-Wrong c =
    let skim = c.args.self.now in
    let stage = sym (ap (λ (s : Skimmed). s.stage) c.self.view_is) ∙ c.in-Wrong.is in
    let none : wanted skim ≡ 0 = ap (λ (s : Stage). wanted_at s skim.header) stage in
    feeds_broken skim c.args.piece.now c.in-Wrong.fault stage (omega arith)
