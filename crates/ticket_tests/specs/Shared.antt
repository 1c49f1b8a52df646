-- Jobs that seats shared out among them.
use Rattle.std.specs.Prelude.{◌≡◌, ℕ, List, length, All}
use Rattle.job_tickets.specs.Dealt.{AreDealt, IsPast, JobsStandOnce}
use Rattle.job_tickets.specs.Seats.{DealId, DealState, SeatState}

-- the seat is of the deal, and drew a number past the last job
pub record WentPast (deal : DealId) (jobs : ℕ) (seat : SeatState) : Type 0 where
  pub of_deal : seat.deal ≡ deal
  pub past : IsPast jobs seat.drawn

-- the seats are as many as those of the deal, and each went past the last job
pub record AllWentPast (deal : DealState) (jobs : ℕ) (seats : List SeatState) : Type 0 where
  pub all_there : length seats ≡ deal.seats
  pub each : All (WentPast deal.deal jobs) seats

-- so many seats drew the numbers below the count, each once, and among them the number of each job
pub record AreSharedOut (seats jobs count : ℕ) : Type 0 where
  pub lists : List (List ℕ)
  pub as_many : length lists ≡ seats
  pub dealt : AreDealt count lists
  pub jobs_once : JobsStandOnce jobs lists
