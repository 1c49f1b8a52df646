use Rattle.std.proofs.Common.{◌≡◌}
use Rattle.ticket_tests.proofs.in_order.draw_some.Given as goal

abbrev pub invariant-loop : goal.invariant-loop
invariant-loop l = l.seat.deal ≡ l.deal.deal
