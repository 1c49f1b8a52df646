use Rattle.std.proofs.Common.{arith, ◌≡◌, subst, ◌∙◌}
use Rattle.grammar.specs.Language.{Refused}
use Rattle.statement_forms.specs.Statement.{Statements}
use Rattle.statement_reading.proofs.KindList.{nat_max, kind_read, kind_passed, kind_some}
use Rattle.statement_reading.proofs.Rows.{Passed, passed_all}
use Rattle.statement_reading.proofs.read.statement_read.Goals as goal

pub returns-in-Ok-clause-ok : goal.returns-in-Ok-clause-ok
returns-in-Ok-clause-ok c = kind_read _ _ _ _ (omega arith) c.loop-kind.invariant _ c.in-Ok.ensures

pub returns-in-Err-OutOfMemory-clause-out_of_memory : goal.returns-in-Err-OutOfMemory-clause-out_of_memory
returns-in-Err-OutOfMemory-clause-out_of_memory c = λ is. kind_some _ _ _ _ (omega arith) c.loop-kind.invariant (rw c.in-Err-OutOfMemory.field-0-is at c.in-Err-OutOfMemory.ensures)

pub loop-kind-preserved : goal.loop-kind-preserved
loop-kind-preserved c = kind_passed _ _ _ _ (omega arith) c.loop-kind.invariant c.in-Err-BadStatement.refused _ (c.max-place.ensures ∙ nat_max c.loop-kind.place c.in-Err-BadStatement.refused) (rw c.in-Err-BadStatement.field-0-is at c.in-Err-BadStatement.ensures)

pub returns-clause-bad : goal.returns-clause-bad
returns-clause-bad c = λ place is.
    let same : c.loop-kind.place ≡ place = cc is in
    subst (Refused Statements c.args.text.now) same (passed_all _ _ (subst (λ n. Passed n c.args.text.now c.loop-kind.place) (omega arith) c.loop-kind.invariant))
