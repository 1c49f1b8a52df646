use Rattle.std.proofs.Common.{◌≡◌, ◌≤◌, ◌-◌, length}
use Rattle.ticket_tests.proofs.threads.work.Given as goal

abbrev pub invariant-loop-number : goal.invariant-loop-number
invariant-loop-number l = (l.seat.deal ≡ l.deal.deal) × (length l.seat.drawn ≤ length l.marks)

abbrev pub decreases-loop-number : goal.decreases-loop-number
decreases-loop-number l = length l.marks - length l.seat.drawn
