-- The shapes of tables' texts as SHOW CREATE TABLE gives them (MySQL 8.0 Reference Manual, 15.1.20 "CREATE TABLE", 15.7.7.10 "SHOW CREATE TABLE").
use Rattle.std.specs.Prelude.{ℕ, ◌+◌, ◌-◌, ◌*◌, ◌^◌, ◌==◌, ◌&&◌, ◌||◌, not, nat_le, min, if◌then◌else◌, Bool, true, false, List, [], ◌∷◌, length, map, codes, bytes_eq, Option, Some, None, is_some}
use Rattle.std.specs.List.{filter_map, fold, list_any, list_all, onto_first, position, take_while}
use Rattle.std.specs.Option.{option_map, option_or, option_and_then}
use Rattle.std.specs.Char.{to_ascii_lowercase}
use Rattle.std.specs.Str.{is_utf8}
use Rattle.plain_data.specs.Byte.{is_digit}
use Rattle.object_forms.specs.Token.{Token, is_word, is_mark, past_gaps, past_spaces}
use Rattle.object_forms.specs.Token.Token.{word, quoted_name}
use Rattle.object_forms.specs.Head.{Found, Making, after_token, after_word, head, is_table}
use Rattle.object_forms.specs.declared.shape.Column.{Column}
use Rattle.object_forms.specs.declared.shape.Shape.{Shape}

-- how deep in parentheses what follows a token stands
abbrev pub depth_after : Token → ℕ → ℕ
depth_after token depth =
    if is_mark 40 token then depth + 1 else (if is_mark 41 token then depth - 1 else depth)

-- the tokens up to a mark, and those after it
pub record Enclosed : Type 0 where
  pub inner : List Token
  pub after : List Token

-- one more token in front of those up to the mark, where the mark was found
abbrev pub onto_inner : Token → Option Enclosed → Option Enclosed
onto_inner token found =
    option_map (λ found. record { inner = token ∷ found.inner; after = found.after }) found

-- what stands up to the first such mark outside parentheses, where so many are open, and after it
abbrev pub up_to : ℕ → ℕ → List Token → Option Enclosed
up_to byte depth [] = None
up_to byte depth (token ∷ rest) =
    if is_mark byte token && depth == 0 then Some (record { inner = []; after = rest })
    else onto_inner token (up_to byte (depth_after token depth) rest)

-- what stands in the parenthesis that opens past white space and comments
abbrev pub enclosed_in : List Token → Option Enclosed
enclosed_in tokens = option_and_then (up_to 41 0) (after_token (is_mark 40) (past_gaps tokens))

-- the parts between commas outside parentheses, where so many are open
abbrev pub parts : ℕ → List Token → List (List Token)
parts depth [] = [] ∷ []
parts depth (token ∷ rest) =
    if is_mark 44 token && depth == 0 then [] ∷ parts 0 rest
    else onto_first token (parts (depth_after token depth) rest)

-- a name with each doubled backquote as one
abbrev pub name_value : List ℕ → List ℕ
name_value [] = []
name_value (byte ∷ []) = byte ∷ []
name_value (byte ∷ next ∷ bytes) =
    if byte == 96 && next == 96 then 96 ∷ name_value bytes else byte ∷ name_value (next ∷ bytes)

-- a letter of ASCII
abbrev pub is_letter : ℕ → Bool
is_letter byte = (nat_le 65 byte && nat_le byte 90) || (nat_le 97 byte && nat_le byte 122)

-- the type with this word, in lower case: `integer` is another word for `int`
abbrev pub type_named : List ℕ → List ℕ
type_named lower = if bytes_eq lower (codes "integer") then codes "int" else lower

-- the type word at the front: the letters of a word, in lower case, and what stands after that word
abbrev pub type_at : List Token → Found (List ℕ)
type_at (word bytes ∷ rest) =
    record { value = type_named (map to_ascii_lowercase (take_while is_letter bytes)); rest = rest }
type_at tokens = record { value = []; rest = tokens }

-- the word, which is given in lower case, stands somewhere, in any case
abbrev pub has_word : List ℕ → List Token → Bool
has_word lower tokens = list_any (is_word lower) tokens

-- the tokens after the words GENERATED ALWAYS AS at the front
abbrev pub after_generated : List Token → Option (List Token)
after_generated tokens =
    option_and_then (after_word (codes "as"))
    (option_and_then (after_word (codes "always"))
    (after_token (is_word (codes "generated")) tokens))

-- the words GENERATED ALWAYS AS stand somewhere
abbrev pub has_generated : List Token → Bool
has_generated [] = false
has_generated (token ∷ rest) = is_some (after_generated (token ∷ rest)) || has_generated rest

-- a column as its item tells it, and what stands after its type word
pub record ColumnItem : Type 0 where
  pub column : Column
  pub rest : List Token

-- the column with the name that is spelled so, and what was found at its type word
abbrev pub column_item : List ℕ → Found (List ℕ) → ColumnItem
column_item name kind = record {
  column = record {
    name = name_value name;
    data_type = kind.value;
    unsigned = has_word (codes "unsigned") kind.rest;
    generated = has_generated kind.rest;
  };
  rest = kind.rest;
}

-- a column that begins at the very front, with its name between backquotes
abbrev pub column_at : List Token → Option ColumnItem
column_at (quoted_name bytes ∷ rest) = Some (column_item bytes (type_at (past_spaces rest)))
column_at tokens = None

-- an item whose first byte past white space is a backquote is a column
abbrev pub column_of : List Token → Option ColumnItem
column_of item = column_at (past_spaces item)

-- the tokens after the words PRIMARY KEY
abbrev pub after_primary : List Token → Option (List Token)
after_primary item =
    option_and_then (after_word (codes "key"))
    (after_token (is_word (codes "primary")) (past_spaces item))

-- the parts of the item PRIMARY KEY (..)
abbrev pub key_parts : List Token → Option (List (List Token))
key_parts item =
    option_map (λ found. parts 0 found.inner) (option_and_then enclosed_in (after_primary item))

-- a word of digits alone
abbrev pub is_number_token : Token → Bool
is_number_token (word bytes) = list_all is_digit bytes
is_number_token token = false

-- the tokens after a length in parentheses
abbrev pub after_length : List Token → Option (List Token)
after_length tokens =
    option_and_then (λ rest. after_token (is_mark 41) (past_gaps rest))
    (option_and_then (λ rest. after_token is_number_token (past_gaps rest))
    (after_token (is_mark 40) (past_gaps tokens)))

-- what was found, or else the tokens as they were
abbrev pub or_same : List Token → Option (List Token) → List Token
or_same tokens None = tokens
or_same tokens (Some rest) = rest

-- the tokens without a direction in front
abbrev pub past_direction : List Token → List Token
past_direction tokens =
    or_same tokens (option_or (after_word (codes "asc") tokens) (after_word (codes "desc") tokens))

-- no token is left
abbrev pub is_ended : List Token → Bool
is_ended [] = true
is_ended (token ∷ rest) = false

-- the name of a part of a key: between backquotes, then maybe a length, then maybe ASC or DESC
abbrev pub part_at : List Token → Option (List ℕ)
part_at (quoted_name bytes ∷ rest) =
    if is_ended (past_gaps (past_direction (or_same rest (after_length rest))))
    then Some (name_value bytes) else None
part_at tokens = None

-- the name of a part of a key, past white space and comments
abbrev pub part_name : List Token → Option (List ℕ)
part_name part = part_at (past_gaps part)

-- the name of the only part
abbrev pub only_name : List (List Token) → Option (List ℕ)
only_name (part ∷ []) = part_name part
only_name parts = None

-- the word of an integer type, in lower case
abbrev pub is_integer : List ℕ → Bool
is_integer kind =
    bytes_eq kind (codes "tinyint") || bytes_eq kind (codes "smallint") || bytes_eq kind
    (codes "mediumint") || bytes_eq kind (codes "int") || bytes_eq kind (codes "bigint")

-- a key's column is plain and an integer
abbrev pub is_key : List ℕ → Column → Bool
is_key name column =
    bytes_eq column.name name && not column.generated && is_integer column.data_type

-- the parts of the first PRIMARY KEY item
abbrev pub primary : List (List Token) → Option (List (List Token))
primary [] = None
primary (item ∷ items) = option_or (key_parts item) (primary items)

-- which column is the key: the only one of PRIMARY KEY, where it is plain and an integer.
abbrev pub key_of : List (List Token) → List Column → Option ℕ
key_of items columns =
    option_and_then (λ name. position (is_key name) columns)
    (option_and_then only_name (primary items))

-- a part that is a name between backquotes and nothing else
abbrev pub bare_at : List Token → Option (List ℕ)
bare_at (quoted_name bytes ∷ rest) =
    if is_ended (past_gaps rest) then Some (name_value bytes) else None
bare_at tokens = None

-- the name of a part that is a name between backquotes and nothing else, past white space and comments
abbrev pub bare_name : List Token → Option (List ℕ)
bare_name part = bare_at (past_gaps part)

-- the index among the columns of the first one with that name
abbrev pub column_index : List Column → List ℕ → Option ℕ
column_index columns name = position (λ column. bytes_eq column.name name) columns

-- the index of the column that a part names
abbrev pub part_index : List Column → List Token → Option ℕ
part_index columns part = option_and_then (column_index columns) (bare_name part)

-- one more index in front
abbrev pub onto_indices : Option ℕ → Option (List ℕ) → Option (List ℕ)
onto_indices index indices =
    option_and_then (λ first. option_map (λ others. first ∷ others) indices) index

-- the indices of the columns that the parts name, in their order, where each names one
abbrev pub part_indices : List Column → List (List Token) → Option (List ℕ)
part_indices columns [] = Some []
part_indices columns (part ∷ rest) =
    onto_indices (part_index columns part) (part_indices columns rest)

-- which columns are the key: those that PRIMARY KEY names, where each of its parts is a bare name of a column.
abbrev pub key_columns_of : List (List Token) → List Column → Option (List ℕ)
key_columns_of items columns = option_and_then (part_indices columns) (primary items)

-- the word after `WORD=` at the front
abbrev pub option_at : List ℕ → List Token → Option (List Token)
option_at lower tokens =
    option_and_then (after_token (is_mark 61)) (after_token (is_word lower) tokens)

-- the word at the very front
abbrev pub word_at : List Token → Option (List ℕ)
word_at (word bytes ∷ rest) = Some bytes
word_at tokens = None

-- the word after `ENGINE=` at the front
abbrev pub engine_at : List Token → Option (List ℕ)
engine_at tokens = option_and_then word_at (option_at (codes "engine") tokens)

-- the first word after an `ENGINE=` with one
abbrev pub engine_in : List Token → Option (List ℕ)
engine_in [] = None
engine_in (token ∷ rest) = option_or (engine_at (token ∷ rest)) (engine_in rest)

-- a table's columns as they are told, its key, the columns of PRIMARY KEY, and its engine
pub record TableShape : Type 0 where
  pub columns : List ColumnItem
  pub key : Option ℕ
  pub key_columns : Option (List ℕ)
  pub engine : List ℕ
  pub after : List Token

-- there are from 1 to 65,535 columns, and all their names are UTF-8
abbrev pub columns_are : List Column → Bool
columns_are columns =
    nat_le 1 (length columns) && nat_le (length columns) 65535 && list_all
    (λ column. is_utf8 column.name) columns

-- a shape without what only its counter needs
abbrev pub plain_shape : TableShape → Shape
plain_shape shape =
    record {
      columns = map (λ column_item. column_item.column) shape.columns;
      key = shape.key;
      engine = shape.engine;
    }

-- the shape of a table with these items and columns, where the columns may be and an engine is told after the parenthesis
abbrev pub shape_of_items : List (List Token) → List ColumnItem → List Token → Option TableShape
shape_of_items items columns after =
    if columns_are (map (λ column_item. column_item.column) columns)
    then option_map (λ engine. record {
      columns = columns;
      key = key_of items (map (λ column_item. column_item.column) columns);
      key_columns = key_columns_of items (map (λ column_item. column_item.column) columns);
      engine = engine;
      after = after;
    }) (engine_in after)
    else None

-- the shape of a table with this in its parenthesis and after it
abbrev pub shape_in : Enclosed → Option TableShape
shape_in found =
    shape_of_items (parts 0 found.inner) (filter_map column_of (parts 0 found.inner)) found.after

-- what stands in the parenthesis after the head of a table's text
abbrev pub items_after : Found Making → Option Enclosed
items_after found = if is_table found.value.kind then enclosed_in found.rest else None

-- the shape of a table's text: the items in the parenthesis after its head, and the engine after that.
abbrev pub shape : List ℕ → Option TableShape
shape text = option_and_then shape_in (option_and_then items_after (head text))

-- the indices of the columns that PRIMARY KEY of a table's text names, in its order; none where a part is more than a bare name of a column
abbrev pub key_columns : List ℕ → Option (List ℕ)
key_columns text = option_and_then (λ shape. shape.key_columns) (shape text)

-- the number that digits at the front of a word spell
abbrev pub leading_number : List ℕ → ℕ
leading_number bytes = fold (λ n digit. n * 10 + (digit - 48)) 0 (take_while is_digit bytes)

-- the number at the front, which is at most 2^64, and 1 where there is none
abbrev pub counter_at : List Token → ℕ
counter_at (word bytes ∷ rest) =
    if nat_le 1 (length (take_while is_digit bytes)) then min (leading_number bytes) (2 ^ 64) else 1
counter_at tokens = 1

-- the number that was found, or else the later one
abbrev pub counter_or : Option ℕ → ℕ → ℕ
counter_or (Some found) later = found
counter_or None later = later

-- the number after `AUTO_INCREMENT=` at the front
abbrev pub counter_found : List Token → Option ℕ
counter_found tokens = option_map counter_at (option_at (codes "auto_increment") tokens)

-- the number after the first `AUTO_INCREMENT=`, and 1 where there is none
abbrev pub counter_in : List Token → ℕ
counter_in [] = 1
counter_in (token ∷ rest) = counter_or (counter_found (token ∷ rest)) (counter_in rest)

-- the word AUTO_INCREMENT stands in what is said of the column
abbrev pub is_auto : ColumnItem → Bool
is_auto column_item = has_word (codes "auto_increment") column_item.rest

-- a table's AUTO_INCREMENT column, and the number that its counter stands at
pub record TableCounter : Type 0 where
  pub column : ℕ
  pub next : ℕ

-- the counter of a table with this shape; none where no column has AUTO_INCREMENT
abbrev pub counter_of : TableShape → Option TableCounter
counter_of shape =
    option_map (λ column. record { column = column; next = counter_in shape.after })
    (position is_auto shape.columns)

-- the counter of a table's text; none where the text has no shape or no column has AUTO_INCREMENT
abbrev pub counter : List ℕ → Option TableCounter
counter text = option_and_then counter_of (shape text)
