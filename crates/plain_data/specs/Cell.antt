-- A cell of a row.
use Rattle.std.specs.Prelude.{ℕ, List, Option}

-- a cell of a row: NULL, or its bytes
abbrev pub Cell : Type 0
Cell = Option (List ℕ)
