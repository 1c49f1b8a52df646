use Rattle.std.proofs.Common.{◌≡◌, vec_len}
use Rattle.ticket_tests.proofs.threads.marks_for.Given as goal

abbrev pub invariant-loop : goal.invariant-loop
invariant-loop l = vec_len l.marks ≡ l.counter
