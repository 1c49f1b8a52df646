-- What callers see of a deal and of its seats.
use Rattle.std.specs.Prelude.{◌≡◌, ℕ, List, [], ◌∷◌, ◌++◌, length, map, replicate, All, Option, MatchOption}
use Rattle.atomic_table.specs.Seated.{TableId}
use Rattle.job_tickets.specs.Dealt.{AreDealt}

-- which deal it is
abbrev pub DealId : Type 0
DealId = TableId

-- which deal it is, and how many seats it was made for
pub record DealState : Type 0 where
  pub deal : DealId
  pub seats : ℕ

-- of which deal the seat is, and the numbers that it drew, in their order
pub record SeatState : Type 0 where
  pub deal : DealId
  pub drawn : List ℕ

-- a seat of this deal that drew nothing
abbrev pub fresh_seat : DealId → SeatState
fresh_seat deal = record { deal = deal; drawn = [] }

-- a deal that was made for so many seats, and its seats, which drew nothing yet
pub record IsFresh (count : ℕ) (deal : DealState) (seats : List SeatState) : Type 0 where
  pub for_seats : deal.seats ≡ count
  pub seats_are : seats ≡ replicate count (fresh_seat deal.deal)

-- the seats are as many as those of the deal, and each is of the deal
pub record AreOf (deal : DealState) (seats : List SeatState) : Type 0 where
  pub all_there : length seats ≡ deal.seats
  pub of_deal : All (λ seat. seat.deal ≡ deal.deal) seats

-- the seats drew the numbers below the count, each once
abbrev pub DrewEach : ℕ → List SeatState → Type 0
DrewEach count seats = AreDealt count (map (λ seat. seat.drawn) seats)

-- the seat after it drew this number
abbrev pub after_draw : SeatState → ℕ → SeatState
after_draw seat number = record { deal = seat.deal; drawn = seat.drawn ++ number ∷ [] }

-- the last seat is taken out of the list, and none where there is none
abbrev pub TakesLast : List SeatState → List SeatState → Option SeatState → Type 0
TakesLast old new taken =
    MatchOption taken ((old ≡ []) × (new ≡ [])) (λ seat. old ≡ new ++ seat ∷ [])
