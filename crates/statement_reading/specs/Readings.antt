-- What readers answer.
use Rattle.std.specs.Prelude.{◌≡◌, ℕ, ◌<◌, ◌≤◌, length, ◌==◌, Bool, List, Result, Ok, Err}
use Rattle.std.specs.List.{flat_map, list_any}
use Rattle.grammar.specs.Language.{Language, Refused}
use Rattle.sql_cells.specs.Literal.{text_literal}
use Rattle.sql_cells.specs.Name.{name_byte, quoted_name}
use Rattle.statement_forms.specs.Statement.{IsTextOf, list_row}
use Rattle.statement_forms.specs.Text.{names}
use Rattle.statement_reading.specs.declared.fault.StatementFault.{StatementFault}
use Rattle.statement_reading.specs.declared.fault.StatementFault.TheVariants.{BadStatement, OutOfMemory}
use Rattle.statement_reading.specs.declared.reading.numbers.Number.{Number}
use Rattle.statement_reading.specs.declared.reading.values.KeyPath.{KeyPath}
use Rattle.statement_reading.specs.declared.reading.values.KeyedSource.{KeyedSource}
use Rattle.statement_reading.specs.declared.reading.values.Path.{Path}
use Rattle.statement_reading.specs.declared.reading.values.Source.{Source}
use Rattle.statement_reading.specs.declared.reading.values.WideSource.{WideSource}
use Rattle.statement_forms.specs.declared.statement.Statement.{Statement}

-- the reading without the number
abbrev pub number_size : Result Number ℕ → Result ℕ ℕ
number_size (Ok number) = Ok number.size
number_size (Err place) = Err place

-- whether the byte is among the bytes
abbrev pub has_byte : ℕ → List ℕ → Bool
has_byte byte bytes = list_any (λ other. other == byte) bytes

-- the bytes of some name, with each backquote doubled
pub record IsDoubled (bytes : List ℕ) : Type 0 where
  pub name : List ℕ
  pub is : bytes ≡ flat_map name_byte name

-- the schema and the name for which these quoted names are written
abbrev pub IsPath : Path → List ℕ → List ℕ → Type 0
IsPath path schema name = (quoted_name path.schema ≡ schema) × (quoted_name path.name ≡ name)

-- the schema and the name for which these text literals are written
abbrev pub IsPathOfTexts : Path → List ℕ → List ℕ → Type 0
IsPathOfTexts path schema name =
    (text_literal path.schema ≡ schema) × (text_literal path.name ≡ name)

-- the key and its table for which these are written
abbrev pub IsKeyPath : KeyPath → List ℕ → List ℕ → List ℕ → Type 0
IsKeyPath made key schema table =
    (quoted_name made.key ≡ key)
    × (quoted_name made.path.schema ≡ schema) × (quoted_name made.path.name ≡ table)

-- the columns, some, and their table for which these are written
abbrev pub IsSource : Source → List ℕ → List ℕ → List ℕ → Type 0
IsSource made columns schema table =
    (names made.columns ≡ columns) × (0 < length made.columns)
    × (quoted_name made.path.schema ≡ schema) × (quoted_name made.path.name ≡ table)

-- the columns, some, their table and its key for which these are written
abbrev pub IsKeyedSource : KeyedSource → List ℕ → List ℕ → List ℕ → List ℕ → Type 0
IsKeyedSource made columns schema table key =
    (names made.source.columns ≡ columns) × (0 < length made.source.columns)
    × (quoted_name made.source.path.schema ≡ schema) × (quoted_name made.source.path.name ≡ table)
    × (quoted_name made.key ≡ key)

-- the columns, the table and the key's columns for which these are written, some of each
abbrev pub IsWideSource : WideSource → List ℕ → List ℕ → List ℕ → List ℕ → Type 0
IsWideSource made columns schema table keys =
    (names made.source.columns ≡ columns) × (0 < length made.source.columns)
    × (quoted_name made.source.path.schema ≡ schema) × (quoted_name made.source.path.name ≡ table)
    × (names made.keys ≡ keys) × (0 < length made.keys)

-- the texts of all values
unfoldable pub TextOfSome : {V : Type 0} → (V → Language) → Language
TextOfSome {V} F text = (value : V) × F value text

-- the text is that of the value, and of no other
pub record IsOnly {V : Type 0} (F : V → Language) (text : List ℕ) (value : V) : Type 0 where
  pub text_of : F value text
  pub only : (other : V) → F other text → other ≡ value

-- What a reader of whole texts answers: the only value with this text, or the place where it leaves the texts of all values. Memory runs out only for a text of some value.
abbrev pub IsRead : {V : Type 0} → (V → Language) → List ℕ → Result V StatementFault → Type 0
IsRead F text (Ok value) = IsOnly F text value
IsRead F text (Err (BadStatement place)) = Refused (TextOfSome F) text place
IsRead F text (Err OutOfMemory) = TextOfSome F text

-- the statement stands in this row and has this text
abbrev pub InRow : ℕ → Statement → Language
InRow row statement text = (list_row statement ≡ row) × IsTextOf statement text

-- the statement stands in this row or a later one and has this text
abbrev pub FromRow : ℕ → Statement → Language
FromRow row statement text = (row ≤ list_row statement) × IsTextOf statement text
