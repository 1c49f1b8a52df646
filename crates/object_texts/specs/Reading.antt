-- What the code reads, as the definitions have it.
use Rattle.std.specs.Prelude.{◌≡◌, ℕ, Bool, [], ◌∷◌, ◌==◌, ◌&&◌, if◌then◌else◌, List, Option, None, Some, MatchOption, option_and_then, option_copied, option_map, map, true, false}
use Rattle.std.specs.Borrow.{Bor}
use Rattle.std.specs.Char.{to_ascii_lowercase}
use Rattle.std.specs.Option.{option_or}
use Rattle.std.specs.List.{filter_map, list_all}
use Rattle.std.specs.Str.{is_utf8}
use Rattle.object_forms.specs.Token.{Token, tokens}
use Rattle.object_texts.specs.declared.head.Head as read_head
use Rattle.object_texts.specs.declared.head.Path as read_path
use Rattle.object_forms.specs.Head.{Found, Path, Making, after_exists, after_on, path_in}
use Rattle.object_texts.specs.declared.column.Declared as read_column
use Rattle.object_texts.specs.declared.table.Table as read_table
use Rattle.object_texts.specs.declared.counter.Counter as read_counter
use Rattle.object_forms.specs.declared.shape.Column.{Column}
use Rattle.object_forms.specs.Shape.{Enclosed, TableCounter, TableShape, ColumnItem, column_of, is_auto, key_columns_of, key_of, name_value, parts, column_item, type_named}

-- what was found, and the tokens of the text after it
abbrev pub found_before : {A : Type 0} → A → List ℕ → Found A
found_before value text = record { value = value; rest = tokens text }

-- the path that was read
abbrev pub path_of : read_path.Path → Path
path_of path = record { schema = option_copied path.schema; name = path.name.now }

-- what the head that was read makes
abbrev pub making_of : read_head.Head → Making
making_of head =
    record {
      kind = head.kind;
      path = record { schema = option_copied head.schema; name = head.name.now };
    }

-- a table's name, and the schema that was named with it
abbrev pub table_path : (Option (Bor (List ℕ)) × Bor (List ℕ)) → Path
table_path table = record { schema = option_copied table.0; name = table.1.now }

-- what was found, told as the definition has it, and the tokens of the text after it
abbrev pub found_by : {A B : Type 0} → (A → B) → Option (A × Bor (List ℕ)) → Option (Found B)
found_by told found = option_map (λ pair. found_before (told pair.0) pair.1.now) found

-- a path after the words IF NOT EXISTS
abbrev pub path_after_exists : List Token → Option (Found Path)
path_after_exists tokens = option_and_then path_in (after_exists tokens)

-- the path after a kind: after the words IF NOT EXISTS, where these stand there and a name after them
abbrev pub named_path : List Token → Option (Found Path)
named_path tokens = option_or (path_after_exists tokens) (path_in tokens)

-- the path after the first word ON
abbrev pub path_after_on : List Token → Option Path
path_after_on tokens = option_map (λ path. path.value) (option_and_then path_in (after_on tokens))

-- the tokens of one text, and those of the text after it
abbrev pub enclosed_texts : List ℕ → List ℕ → Enclosed
enclosed_texts inner after = record { inner = tokens inner; after = tokens after }

-- the same of two texts, if they were found
abbrev pub enclosed_of : Option (Bor (List ℕ) × Bor (List ℕ)) → Option Enclosed
enclosed_of cut = option_map (λ texts. enclosed_texts texts.0.now texts.1.now) cut

-- the parts of a text, if there is one
abbrev pub parts_in : Option (Bor (List ℕ)) → Option (List (List Token))
parts_in inner = option_map (λ text. parts 0 (tokens text.now)) inner

-- the parts that are left of a text, if one is
abbrev pub parts_left : Option (List ℕ) → List (List Token)
parts_left None = []
parts_left (Some text) = parts 0 (tokens text)

-- a part, and those of the text after it, if there is one
abbrev pub with_parts : List Token → Option (List ℕ) → List (List Token)
with_parts part rest = part ∷ parts_left rest

-- the parts of two texts, of which the first is one part
abbrev pub parts_of : (Bor (List ℕ) × Option (Bor (List ℕ))) → List (List Token)
parts_of cut = with_parts (tokens cut.0.now) (option_map (λ rest. rest.now) cut.1)

-- a name with each doubled backquote as one, if there is a name
abbrev pub spelled_name : Option (Bor (List ℕ)) → Option (List ℕ)
spelled_name spelled = option_map (λ name. name_value name.now) spelled

-- the type word of these letters, and what stands after it
abbrev pub type_of : List ℕ → List ℕ → Found (List ℕ)
type_of letters text =
    record { value = type_named (map to_ascii_lowercase letters); rest = tokens text }

-- the item of the column that was read
abbrev pub item_of : read_column.Declared → ColumnItem
item_of column = column_item column.name.now (type_of column.type_word.now column.rest.now)

-- how many bytes stand for the first one of a name
abbrev pub doubled_step : List ℕ → ℕ
doubled_step [] = 1
doubled_step (byte ∷ []) = 1
doubled_step (byte ∷ next ∷ bytes) = if byte == 96 && next == 96 then 2 else 1

-- the columns of the items that a text has
abbrev pub column_items : List ℕ → List ColumnItem
column_items items = filter_map column_of (parts 0 (tokens items))

-- the columns that a text of items has
abbrev pub columns_in : List ℕ → List Column
columns_in items = map (λ column_item. column_item.column) (column_items items)

-- the column of an item, where it has one
abbrev pub columns_of : Option ColumnItem → List Column
columns_of None = []
columns_of (Some column_item) = column_item.column ∷ []

-- the columns of the text of an item: one or none
abbrev pub item_columns : List ℕ → List Column
item_columns item = columns_of (column_of (tokens item))

-- all names of the columns are UTF-8
abbrev pub names_are : List Column → Bool
names_are columns = list_all (λ column. is_utf8 column.name) columns

-- there is a value where the test holds, of which P is true then, and none elsewhere
abbrev pub SomeIf : {A : Type 0} → Bool → (A → Type 0) → Option A → Type 0
SomeIf test P found = MatchOption found (test ≡ false) (λ value. (test ≡ true) × P value)

-- the text that bytes spell, where they are UTF-8, and none where they aren't
abbrev pub IsText : List ℕ → Option (List ℕ) → Type 0
IsText bytes found = SomeIf (is_utf8 bytes) (λ text. text ≡ bytes) found

-- the column of an item, where its name is UTF-8, and none where it isn't
abbrev pub IsColumn : ColumnItem → Option Column → Type 0
IsColumn item found =
    SomeIf (names_are (columns_of (Some item)))
    (λ column. column ∷ [] ≡ columns_of (Some item)) found

-- the columns that a text of items has; none only where a name among them isn't UTF-8
abbrev pub AreColumns : List ℕ → Option (List Column) → Type 0
AreColumns items found =
    MatchOption found (names_are (columns_in items) ≡ false) (λ columns. columns ≡ columns_in items)

-- the shape of a table whose items, engine and rest were found, with its columns, its key and those of PRIMARY KEY
abbrev pub shape_of_table : read_table.Table → TableShape
shape_of_table table = record {
  columns = column_items table.items.now;
  key = key_of (parts 0 (tokens table.items.now)) (columns_in table.items.now);
  key_columns = key_columns_of (parts 0 (tokens table.items.now)) (columns_in table.items.now);
  engine = table.engine.now;
  after = tokens table.after.now;
}

-- whether an item is a column with AUTO_INCREMENT
abbrev pub is_auto_column : Option ColumnItem → Bool
is_auto_column None = false
is_auto_column (Some column_item) = is_auto column_item

-- the counter that was read
abbrev pub table_counter : read_counter.Counter → TableCounter
table_counter counter = record { column = counter.column; next = counter.next }
