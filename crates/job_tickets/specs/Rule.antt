-- What holds of a deal's word and its seats between any two steps, and what each step does.
use Rattle.std.specs.Prelude.{◌≡◌, ℕ, ◌+◌, ◌-◌, ◌*◌, ◌^◌, ◌<◌, ◌≤◌, List, [], ◌∷◌, ◌++◌, length, sum_by, slice_index, All}
use mathlib.Core.Option.{some}
use lib.ListN.{get_elem?}
use Rattle.atomic_table.specs.Table.{State, Me, Step}
use Rattle.job_tickets.specs.Dealt.{times, once_below}
use Rattle.job_tickets.specs.declared.holding.Holding.{Holding}

-- a seat with this share, which drew these numbers
abbrev pub holding_of : ℕ → List ℕ → Holding
holding_of share drawn = record { share = share; drawn = drawn }

-- the first seat: it stands for all, and drew nothing
abbrev pub opening_holding : ℕ → Holding
opening_holding seats = holding_of seats []

-- the next number
abbrev pub word_of : State (Unit {0}) Holding → ℕ
word_of state = slice_index state.words 0

-- each number below the word was drawn by one seat, once, and no other number was drawn by any; the
-- shares add up to the seats that were asked for; a seat draws at most 2^32 numbers for each of its
-- shares, so one without a share drew nothing
pub record KeepsTickets (seats : ℕ) (state : State (Unit {0}) Holding) : Type 0 where
  pub few : seats ≤ 64
  pub one_word : length state.words ≡ 1
  pub once : (number : ℕ) →
      sum_by (λ (seat : Holding). times number seat.drawn) state.views
      ≡ once_below (word_of state) number
  pub counted : sum_by (λ (seat : Holding). length seat.drawn) state.views ≡ word_of state
  pub shares : sum_by (λ (seat : Holding). seat.share) state.views ≡ seats
  pub room : (place : ℕ) (seat : Holding) → get_elem? state.views place ≡ some seat
      → length seat.drawn ≤ 2 ^ 32 * seat.share

-- a draw: the number that was found is added to the seat's own, and is greater than all of them
pub record HasDrawn (step : Step (Unit {0})) (before : Me (Unit {0}) Holding) (found : ℕ)
    (after : Me (Unit {0}) Holding) : Type 0 where
  pub added : after ≡ (holding_of before.0.share (before.0.drawn ++ found ∷ []), before.1)
  pub greater : All (λ number. number < found) before.0.drawn
  pub at_least : length before.0.drawn ≤ found
  pub below : found < 2 ^ 38

-- the seat after one share is cut off
abbrev pub without_one : Holding → Holding
without_one seat = holding_of (seat.share - 1) seat.drawn

-- the seat that is cut off
abbrev pub one_share : Holding → Holding
one_share seat = holding_of 1 []

-- two seats as one
abbrev pub both_holdings : Holding → Holding → Holding
both_holdings one other = holding_of (one.share + other.share) (one.drawn ++ other.drawn)

-- a seat that was put together with another
abbrev pub spent : Holding
spent = holding_of 0 []
