use Rattle.std.proofs.Common.{ap, drop, ◌∙◌, arith}
use Rattle.std.proofs.lemmas.Bool.{eqb-true}
use Rattle.metadata_ini.proofs.CutTexts.{cut_at, lacks_whole}
use Rattle.metadata_ini.proofs.cuts.cut.Goals as goal

pub returns-in-Some : goal.returns-in-Some
returns-in-Some c = let h = c.in-Some.ensures in
    cut_at c.args.byte c.args.text.now c.split_at.result.0.now c.split_at-in-Some.result.1.now c.in-Some.at h.0.high (λ k low. h.0.before k (omega arith) low) (eqb-true _ _ h.1)
    c.split_at.ensures.front (c.split_at-in-Some.ensures.back ∙ ap (drop 1) c.split_at.ensures.back)

pub returns-in-None : goal.returns-in-None
returns-in-None c = lacks_whole c.args.byte c.args.text.now (λ k low. c.in-None.ensures k (omega arith) low)
