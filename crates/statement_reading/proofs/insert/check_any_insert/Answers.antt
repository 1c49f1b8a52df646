use Rattle.std.proofs.Common.{arith, ◌≡◌, Err}
use Rattle.std.proofs.lemmas.Grind.{common_steps}
use Rattle.grammar.proofs.Wholes.{whole_text, refused_more, refused_broken}
use Rattle.statement_reading.proofs.insert.check_any_insert.Goals as goal

pub returns-in_err-size : goal.returns-in_err-size
returns-in_err-size c =
    let is : c.from_residual.result ≡ Err c.in_err-size.field-0.0 = grind (arith, common_steps) in
    rw is (refused_broken _ _ _ c.in_err-size.ensures)

pub returns-then-size-text : goal.returns-then-size-text
returns-then-size-text c = whole_text _ _ _ c.in_ok-size.ensures (omega arith)

pub returns-else-size-text : goal.returns-else-size-text
returns-else-size-text c = refused_more _ _ _ c.in_ok-size.ensures (omega arith)
