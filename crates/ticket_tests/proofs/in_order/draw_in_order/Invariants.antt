use Rattle.std.proofs.Common.{◌≡◌, ◌+◌, length, All}
use Rattle.ticket_tests.proofs.in_order.draw_in_order.Given as goal

abbrev pub invariant-loop-seat : goal.invariant-loop-seat
invariant-loop-seat l =
    (length l.seats + length l.back ≡ l.deal.seats)
    × All (λ seat. seat.deal ≡ l.deal.deal) l.seats
    × All (λ seat. seat.deal ≡ l.deal.deal) l.back

abbrev pub decreases-loop-seat : goal.decreases-loop-seat
decreases-loop-seat l = length l.seats
