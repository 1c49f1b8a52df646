-- the payload is so many cells exactly where the bytes that are left are those that are left
use Rattle.std.proofs.Common.{◌≡◌, ◌-◌, is_some}
use Rattle.wire_forms.specs.Row.{cells_of}
use Rattle.result_rows.proofs.row.are_cells.Given as goal

abbrev pub invariant-loop : goal.invariant-loop
invariant-loop l = is_some (cells_of (l.columns - l.counter) l.rest) ≡ is_some (cells_of l.fn.columns l.fn.payload)
