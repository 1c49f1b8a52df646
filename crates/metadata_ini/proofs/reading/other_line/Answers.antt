use Rattle.std.proofs.Common.{◌+◌, ◌≤◌, ◌++◌, ◌∷◌, length, arith, ap, sym, ◌∙◌, length-append}
use Rattle.metadata_ini.proofs.CutTexts.{same_cut}
use Rattle.metadata_ini.proofs.FileFronts.{other_found, line_compared, none_compared, ended_cons}
use Rattle.metadata_ini.proofs.reading.other_line.Goals as goal

pub lines-init : goal.lines-init
lines-init c = (omega arith, λ lines all is. none_compared lines c.args.wanted.now c.args.text.now is)

pub returns-then-not-is_same-clause-lines : goal.returns-then-not-is_same-clause-lines
returns-then-not-is_same-clause-lines c lines all is =
    other_found lines c.args.text.now c.lines.left.now c.lines.rest.now c.lines.count (c.lines.invariant.1 lines all is) c.in-Some.line.now c.in-Some.further.now all c.in-Some.ensures
    (λ after e. c.is_same.ensures.no c.if-not-is_same.true (same_cut 10 c.in-Some-cut.found.now c.in-Some.line.now c.in-Some-cut.after.now after c.in-Some-cut.ensures.first c.in-Some.ensures.first (sym c.in-Some-cut.ensures.is ∙ e ∙ ended_cons c.in-Some.line.now after)).0)

pub lines-preserved : goal.lines-preserved
lines-preserved c =
    let low : length c.in-Some.further.now + 1 ≤ length c.lines.left.now = omega (arith, ap length c.in-Some.ensures.is, length-append c.in-Some.line.now (10 ∷ c.in-Some.further.now)) in (
      omega (arith, low, c.lines.invariant.0),
      λ lines all is.
          line_compared lines c.args.text.now c.lines.left.now c.lines.rest.now c.lines.count (c.lines.invariant.1 lines all is) c.in-Some.line.now c.in-Some.further.now c.in-Some-cut.after.now all c.in-Some.ensures
          (c.in-Some-cut.ensures.is ∙ ap (λ l. l ++ 10 ∷ c.in-Some-cut.after.now) (c.is_same.ensures.yes c.if-not-is_same.false) ∙ sym (ended_cons c.in-Some.line.now c.in-Some-cut.after.now)),
    )
