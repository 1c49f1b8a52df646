use Rattle.std.proofs.Common.{◌≡◌, ◌+◌, ◌-◌, [], replicate}
use Rattle.job_tickets.specs.Seats.{fresh_seat}
use Rattle.job_tickets.specs.Shares.{StandsFor}
use Rattle.job_tickets.proofs.deal.Deal.seats_of.Given as goal

abbrev pub invariant-loop : goal.invariant-loop
invariant-loop l =
    StandsFor l.fn.self.deal (l.fn.count + 1 - l.counter) [] l.rest
    × (l.seats ≡ replicate (l.counter - 1) (fresh_seat l.fn.self.deal))
