use Rattle.std.proofs.Common.{arith, ◌≡◌, refl, Err}
use Rattle.std.proofs.lemmas.Grind.{common_steps}
use Rattle.grammar.proofs.Leaves.{fixed_apart}
use Rattle.grammar.proofs.Rows.{reads_then, then_broken}
use Rattle.statement_reading.specs.InsertReading.{Values}
use Rattle.statement_reading.proofs.InsertReads.{values_join, begins_rows}
use Rattle.statement_reading.proofs.insert.read_values.Goals as goal

pub returns-in_err-word-clause-reads : goal.returns-in_err-word-clause-reads
unfolding Values
returns-in_err-word-clause-reads c =
    let is : c.from_residual.result ≡ Err c.in_err-word.field-0.0 = grind (arith, common_steps) in
    rw is (then_broken _ _ _ _ (fixed_apart _ _) (begins_rows c.args.more) c.in_err-word.ensures)

pub returns-in-Ok-clause-reads : goal.returns-in-Ok-clause-reads
unfolding Values
returns-in-Ok-clause-reads c = reads_then _ _ _ _ _ _ _ (fixed_apart _ _) c.read_fixed.ensures c.in_ok-word.was c.in-Ok.ensures.reads refl

pub returns-in-Ok-clause-rows : goal.returns-in-Ok-clause-rows
returns-in-Ok-clause-rows c = values_join c.args.more _ _ _ _ c.in_ok-word.ensures c.in-Ok.ensures.rows

pub returns-in-Err-clause-reads : goal.returns-in-Err-clause-reads
unfolding Values
returns-in-Err-clause-reads c = reads_then _ _ _ _ _ _ _ (fixed_apart _ _) c.read_fixed.ensures c.in_ok-word.was c.in-Err.ensures.reads refl
