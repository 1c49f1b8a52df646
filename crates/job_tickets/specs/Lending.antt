-- A list lends its seats as a slice.
use Rattle.std.specs.Prelude.{List}
use Rattle.std.specs.Borrow.{Lends, MutBor, Fml, Array}
use Rattle.plain_data.specs.Lending.{written_over}
use Rattle.job_tickets.specs.Seats.{SeatState}
use Rattle.job_tickets.specs.contracts.seat_list.DealSeatList.{the_row}
use Rattle.job_tickets.specs.contracts.seat.DealSeat.{the_row as seat_row}

-- the list ends as what was last written through the slice
abbrev pub lends_seats : MutBor (List SeatState) → MutBor (List SeatState) → Fml
lends_seats list slice = Lends the_row (Array seat_row 0) list slice (written_over list.now)
