-- The lists of databases and tables.
use Rattle.std.specs.Prelude.{ℕ, ◌==◌, if◌then◌else◌, Bool, List, [], ◌∷◌, length, Option, Some, None, Result, Ok, Err, ok_or}
use Rattle.std.specs.List.{list_any, slice_split}
use Rattle.server_data.specs.declared.data.Need.{Need}
use Rattle.command_words.specs.Meant.{each}
use Rattle.command_words.specs.declared.fault.WordsFault.{WordsFault}
use Rattle.command_words.specs.declared.fault.WordsFault.TheVariants.{BadEntry}

-- the text has no byte
abbrev pub is_empty_text : List ℕ → Bool
is_empty_text text = length text == 0

-- what stands between these bytes of a text
abbrev pub parts_at : ℕ → List ℕ → List (List ℕ)
parts_at divider text = slice_split (λ byte. byte == divider) text

-- the entries of a list that is given: what stands between its commas (44); none where no list is
abbrev pub entries_of : Option (List ℕ) → List (List ℕ)
entries_of None = []
entries_of (Some list) = parts_at 44 list

-- an entry names a database, unless it is empty
abbrev pub database_of : List ℕ → Result (List ℕ) WordsFault
database_of entry = if is_empty_text entry then Err (BadEntry entry) else Ok entry

-- the databases of a list that is given, or the first entry that names none
abbrev pub databases_of : Option (List ℕ) → Result (List (List ℕ)) WordsFault
databases_of list = each database_of (entries_of list)

-- the table that the parts of an entry between its dots name: a database and its table, or a table of the only
-- database that is named
abbrev pub need_of_parts : List (List ℕ) → List (List ℕ) → Option Need
need_of_parts databases (schema ∷ name ∷ []) = Some (record { schema = schema; name = name })
need_of_parts (database ∷ []) (name ∷ []) = Some (record { schema = database; name = name })
need_of_parts databases parts = None

-- no part may be empty
abbrev pub need_of_filled : List (List ℕ) → List (List ℕ) → Option Need
need_of_filled databases parts =
    if list_any is_empty_text parts then None else need_of_parts databases parts

-- the table that an entry names: its parts stand between its dots (46)
abbrev pub need_of : List (List ℕ) → List ℕ → Result Need WordsFault
need_of databases entry =
    ok_or (need_of_filled databases (parts_at 46 entry)) (BadEntry entry)

-- the tables of a list that is given, or the first entry that names none
abbrev pub needs_of : List (List ℕ) → Option (List ℕ) → Result (List Need) WordsFault
needs_of databases list = each (need_of databases) (entries_of list)
