-- The seats of the table that a deal is made of.
use Rattle.std.specs.Prelude.{◌≡◌, ℕ, List, []}
use Rattle.atomic_table.specs.Seated.{TableId}
use Rattle.atomic_table.specs.declared.shared.Seat.{Seat}
use Rattle.job_tickets.specs.declared.holding.Holding.{Holding}

-- a seat of a table for tickets
abbrev pub TicketSeat : Type 0
TicketSeat = Seat (Unit {0}) Holding

-- the table has one word and no slot
pub record HasOneWord (table : TableId) : Type 0 where
  pub one_word : table.words ≡ 1
  pub no_slot : table.slots ≡ 0

-- the seat is of the table, stands for so many seats of the deal, and drew these numbers
pub record StandsFor (table : TableId) (share : ℕ) (drawn : List ℕ) (seat : TicketSeat)
    : Type 0 where
  pub of_table : seat.table_id ≡ table
  pub has_share : seat.me.0.share ≡ share
  pub has_drawn : seat.me.0.drawn ≡ drawn
  pub has_no_slot : seat.me.1 ≡ []
