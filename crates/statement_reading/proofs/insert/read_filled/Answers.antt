use Rattle.std.proofs.Common.{arith, ◌≡◌, Err}
use Rattle.std.proofs.lemmas.Grind.{common_steps}
use Rattle.statement_reading.proofs.InsertReads.{filled_begun, filled_broken, filled_named, filled_names_broken, filled_values, filled_is}
use Rattle.statement_reading.proofs.insert.read_filled.Goals as goal

pub returns-in_err-begin-clause-reads : goal.returns-in_err-begin-clause-reads
returns-in_err-begin-clause-reads c =
    let is : c.from_residual.result ≡ Err c.in_err-begin.field-0.0 = grind (arith, common_steps) in
    rw is (filled_broken _ _ c.in_err-begin.ensures)

pub returns-in-Err-clause-reads : goal.returns-in-Err-clause-reads
returns-in-Err-clause-reads c = filled_names_broken _ _ _ (filled_begun _ _ c.in_ok-begin.ensures) c.in-Err.ensures.reads

pub returns-in-Ok-read_values-clause-reads : goal.returns-in-Ok-read_values-clause-reads
returns-in-Ok-read_values-clause-reads c = filled_values _ _ c.in-Ok.names.count _ (filled_named _ _ _ _ (filled_begun _ _ c.in_ok-begin.ensures) c.in-Ok.ensures.reads c.in-Ok.ensures.names) c.in-Ok-read_values.ensures.reads

pub returns-in-Ok-read_values-clause-parts : goal.returns-in-Ok-read_values-clause-parts
returns-in-Ok-read_values-clause-parts c = filled_is _ _ _ _ c.in-Ok.names.count _ c.in_ok-begin.ensures c.in-Ok.ensures.reads c.in-Ok.ensures.names c.in-Ok-read_values.ensures.rows

pub returns-in-Err-read_values-clause-reads : goal.returns-in-Err-read_values-clause-reads
returns-in-Err-read_values-clause-reads c = filled_values _ _ c.in-Ok.names.count _ (filled_named _ _ _ _ (filled_begun _ _ c.in_ok-begin.ensures) c.in-Ok.ensures.reads c.in-Ok.ensures.names) c.in-Err-read_values.ensures.reads
