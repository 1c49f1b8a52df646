use Rattle.std.proofs.Common.{◌≡◌, ℕ, ◌+◌, length, map, sum_by, All}
use Rattle.job_tickets.specs.Dealt.{times}
use Rattle.job_tickets.specs.Shares.{StandsFor}
use Rattle.job_tickets.proofs.deal.Deal.all_as_one.Given as goal

abbrev pub invariant-loop-seat : goal.invariant-loop-seat
invariant-loop-seat l =
    StandsFor l.self.deal l.all.me.0.share l.all.me.0.drawn l.all
    × (l.all.me.0.share + length l.seats ≡ length l.fn.seats)
    × All (λ seat. seat.deal ≡ l.self.deal) l.seats
    × ((number : ℕ) → times number l.all.me.0.drawn + sum_by (times number) (map (λ seat. seat.drawn) l.seats)
    ≡ sum_by (times number) (map (λ seat. seat.drawn) l.fn.seats))

abbrev pub decreases-loop-seat : goal.decreases-loop-seat
decreases-loop-seat l = length l.seats
