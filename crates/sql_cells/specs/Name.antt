-- Quoted names (MySQL 8.0 Reference Manual, 11.2 "Schema Object Names").
use Rattle.std.specs.Prelude.{ℕ, ◌==◌, if◌then◌else◌, List, [], ◌∷◌, ◌++◌}
use Rattle.std.specs.List.{flat_map}

-- a backquote is doubled
abbrev pub name_byte : ℕ → List ℕ
name_byte byte = if byte == 96 then 96 ∷ 96 ∷ [] else byte ∷ []

-- the name between backquotes
abbrev pub quoted_name : List ℕ → List ℕ
quoted_name name = 96 ∷ flat_map name_byte name ++ 96 ∷ []
