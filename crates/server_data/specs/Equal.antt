-- When kinds, cells and rows are equal.
use Rattle.std.specs.Prelude.{ℕ, ◌==◌, Bool, true, false, List, bytes_eq}
use Rattle.std.specs.Cmp.Lexicographic.{pointwise}
use Rattle.object_forms.specs.declared.kind.Kind.{Kind}
use Rattle.object_forms.specs.declared.kind.Kind.TheVariants.{Schema, Table, Procedure, Function, View, Trigger, Event}
use Rattle.sql_cells.specs.declared.cell.Cell.{Cell}
use Rattle.sql_cells.specs.declared.cell.Cell.TheVariants.{Null, Value}

-- a number for each kind; different ones for different kinds
abbrev pub kind_number : Kind → ℕ
kind_number Schema = 0
kind_number Table = 1
kind_number Procedure = 2
kind_number Function = 3
kind_number View = 4
kind_number Trigger = 5
kind_number Event = 6

-- two kinds are the same
abbrev pub kind_eq : Kind → Kind → Bool
kind_eq one other = kind_number one == kind_number other

-- two cells are NULL, or have the same bytes
abbrev pub cell_eq : Cell → Cell → Bool
cell_eq Null Null = true
cell_eq (Value bytes) (Value others) = bytes_eq bytes others
cell_eq cell other = false

-- two rows have the same cells
abbrev pub row_eq : List Cell → List Cell → Bool
row_eq = pointwise cell_eq
