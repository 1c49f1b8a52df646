-- Tables, as they are kept.
use Rattle.std.specs.Prelude.{ℕ, List, map}
use Rattle.std.specs.Borrow.{Bor}
use Rattle.folder_forms.specs.Metadata.{TableNames}

-- the names of tables, which are lent, as lists of bytes
abbrev pub plain_tables : List ((Bor (List ℕ) × Bor (List ℕ)) × ℕ) → List (TableNames × ℕ)
plain_tables entries = map (λ entry. ((entry.0.0.now, entry.0.1.now), entry.1)) entries
