use Rattle.std.proofs.Common.{arith, ◌≡◌, refl, Err}
use Rattle.std.proofs.lemmas.Grind.{common_steps}
use Rattle.grammar.proofs.Repeats.{begins_many}
use Rattle.grammar.proofs.Rows.{reads_then, then_broken}
use Rattle.statement_forms.specs.Insert.{Rows}
use Rattle.statement_reading.proofs.InsertReads.{rows_join, apart_first_row}
use Rattle.statement_reading.proofs.insert.read_rows.Goals as goal

pub returns-in_err-first-clause-reads : goal.returns-in_err-first-clause-reads
unfolding Rows
returns-in_err-first-clause-reads c =
    let is : c.from_residual.result ≡ Err c.in_err-first.field-0.0 = grind (arith, common_steps) in
    rw is (then_broken _ _ _ _ (apart_first_row c.args.more) (begins_many _) c.in_err-first.ensures)

pub returns-in-Ok-clause-reads : goal.returns-in-Ok-clause-reads
unfolding Rows
returns-in-Ok-clause-reads c = reads_then _ _ _ _ _ _ _ (apart_first_row c.args.more) c.read_row.ensures c.in_ok-first.was c.in-Ok.ensures.reads refl

pub returns-in-Ok-clause-rows : goal.returns-in-Ok-clause-rows
returns-in-Ok-clause-rows c = rows_join c.args.more _ _ _ _ c.in_ok-first.ensures c.in-Ok.ensures.rows.0

pub returns-in-Err-clause-reads : goal.returns-in-Err-clause-reads
unfolding Rows
returns-in-Err-clause-reads c = reads_then _ _ _ _ _ _ _ (apart_first_row c.args.more) c.read_row.ensures c.in_ok-first.was c.in-Err.ensures.reads refl
