use Rattle.std.proofs.Common.{arith, ◌≡◌, refl, Err}
use Rattle.std.proofs.lemmas.Grind.{common_steps}
use Rattle.grammar.proofs.Repeats.{begins_many}
use Rattle.grammar.proofs.Rows.{reads_then, then_broken}
use Rattle.statement_reading.specs.Parts.{Names}
use Rattle.statement_reading.proofs.InsertReads.{names_join}
use Rattle.statement_reading.proofs.NameReads.{apart_first_name}
use Rattle.statement_reading.proofs.insert.read_all_names.Goals as goal

pub returns-in_err-first-clause-reads : goal.returns-in_err-first-clause-reads
unfolding Names
returns-in_err-first-clause-reads c =
    let is : c.from_residual.result ≡ Err c.in_err-first.field-0.0 = grind (arith, common_steps) in
    rw is (then_broken _ _ _ _ apart_first_name (begins_many _) c.in_err-first.ensures)

pub returns-in-Ok-clause-reads : goal.returns-in-Ok-clause-reads
unfolding Names
returns-in-Ok-clause-reads c = reads_then _ _ _ _ _ _ _ apart_first_name c.read_name.ensures c.in_ok-first.was c.in-Ok.ensures.reads refl

pub returns-in-Ok-clause-names : goal.returns-in-Ok-clause-names
returns-in-Ok-clause-names c = names_join _ _ _ _ c.in_ok-first.ensures c.in-Ok.ensures.names.0

pub returns-in-Err-clause-reads : goal.returns-in-Err-clause-reads
unfolding Names
returns-in-Err-clause-reads c = reads_then _ _ _ _ _ _ _ apart_first_name c.read_name.ensures c.in_ok-first.was c.in-Err.ensures.reads refl
