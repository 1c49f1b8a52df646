-- Keys of two to four integer columns, and what queries over them are answered (MySQL 8.0 Reference Manual, 14.4.2 "Comparison Functions and Operators", on row comparisons).
use Rattle.std.specs.Prelude.{ℕ, ◌≡◌, ◌≢◌, ◌&&◌, ◌||◌, not, nat_le, if◌then◌else◌, Bool, true, false, List, [], ◌∷◌, length, map, filter, filter_map, take, drop, slice_get, Option, Some, None, option_map, option_and_then, All, AllPairs, IfSome, ℤ, int_lt, int_le}
use Rattle.std.specs.List.{list_all}
use Rattle.object_forms.specs.Shape.{is_integer, key_columns}
use Rattle.object_forms.specs.declared.shape.Column.{Column}
use Rattle.server_data.specs.Bag.{IsSameBag}
use Rattle.server_data.specs.Fold.{rows_of, db}
use Rattle.server_data.specs.declared.data.Database.{Database}
use Rattle.server_data.specs.declared.data.Object.{Object}
use Rattle.server_data.specs.declared.data.Transaction.{Transaction}
use Rattle.sql_cells.specs.declared.cell.Cell.{Cell}
use Rattle.honest_server.specs.Columns.{cell_at, integer_at, is_in_type, plain_names}

-- the values where each is there
abbrev pub all_of : {X : Type 0} → List (Option X) → Option (List X)
all_of [] = Some []
all_of (None ∷ others) = None
all_of (Some first ∷ others) = option_map (λ rest. first ∷ rest) (all_of others)

-- the columns of these indices
abbrev pub columns_at : List Column → List ℕ → Option (List Column)
columns_at columns indices = all_of (map (slice_get columns) indices)

-- a plain column of an integer type
abbrev pub is_plain_integer : Column → Bool
is_plain_integer column = not column.generated && is_integer column.data_type

-- two to four plain columns of integer types
abbrev pub are_wide : Option (List Column) → Bool
are_wide None = false
are_wide (Some columns) =
    nat_le 2 (length columns) && (nat_le (length columns) 4 && list_all is_plain_integer columns)

-- these indices, where they are of two to four plain columns of integer types
abbrev pub wide_where : List Column → List ℕ → Option (List ℕ)
wide_where columns indices = if are_wide (columns_at columns indices) then Some indices else None

-- a table's wide key: which of its columns its primary key has, in the key's order, where these are two to four plain columns of integer types
abbrev pub wide_key : Object → Option (List ℕ)
wide_key object = option_and_then (wide_where object.columns) (key_columns object.text)

-- the integers of a row in the columns of these indices
abbrev pub integers_at : List Column → List ℕ → List Cell → Option (List ℤ)
integers_at columns indices row = all_of (map (λ index. integer_at columns index row) indices)

-- one list of numbers comes before another: at the first place where they differ the number is less, or it ends there
abbrev pub comes_first : List ℤ → List ℤ → Bool
comes_first numbers [] = false
comes_first [] (next ∷ others) = true
comes_first (number ∷ numbers) (next ∷ others) =
    int_lt number next || (int_le number next && comes_first numbers others)

-- bounds that a wide key is above, and at most
pub record WideBounds : Type 0 where
  pub above : Option (List ℤ)
  pub up_to : Option (List ℤ)

-- no bounds: every key whose cells are integers is within
abbrev pub no_bounds : WideBounds
no_bounds = record { above = None; up_to = None }

-- the key comes after the bound, or there is no bound
abbrev pub is_after : Option (List ℤ) → List ℤ → Bool
is_after None numbers = true
is_after (Some bound) numbers = comes_first bound numbers

-- the key is the bound or comes before it, or there is no bound
abbrev pub is_not_after : Option (List ℤ) → List ℤ → Bool
is_not_after None numbers = true
is_not_after (Some bound) numbers = not (comes_first bound numbers)

-- the key is of integers, comes after the one bound and not after the other, as far as there are bounds
abbrev pub is_within : WideBounds → Option (List ℤ) → Bool
is_within bounds None = false
is_within bounds (Some numbers) = is_after bounds.above numbers && is_not_after bounds.up_to numbers

-- each key comes before the next
abbrev pub wide_keys_rise : List (Option (List ℤ)) → Bool
wide_keys_rise [] = true
wide_keys_rise (one ∷ []) = true
wide_keys_rise (Some one ∷ Some next ∷ keys) =
    comes_first one next && wide_keys_rise (Some next ∷ keys)
wide_keys_rise (None ∷ next ∷ keys) = false
wide_keys_rise (Some one ∷ None ∷ keys) = false

-- these names are the table's wide key, in its order
pub record HasWideKey (object : Object) (keys : List (List ℕ)) : Type 0 where
  pub indices : List ℕ
  pub key_is : wide_key object ≡ Some indices
  pub columns : List Column
  pub columns_are : columns_at object.columns indices ≡ Some columns
  pub names : map (λ column. column.name) columns ≡ keys

-- the rows of the table whose wide key is inside the bounds, in the order of the key
pub record AreInWideOrder (database : Database) (object : Object) (indices : List ℕ)
    (bounds : WideBounds) (rows : List (List Cell)) : Type 0 where
  pub same : IsSameBag rows
      (filter (λ row. is_within bounds (integers_at object.columns indices row))
      (rows_of database object.schema object.name))
  pub rise : wide_keys_rise (map (integers_at object.columns indices) rows) ≡ true

-- what a query for rows in the order of a wide key asks for
pub record WideRowsAsked : Type 0 where
  pub columns : List (List ℕ)
  pub keys : List (List ℕ)
  pub bounds : WideBounds

-- all plain columns were asked for, and the rows inside the bounds came
pub record ShowsWideRows (database : Database) (object : Object) (asked : WideRowsAsked)
    (rows : List (List Cell)) : Type 0 where
  pub all_columns : asked.columns ≡ plain_names object.columns
  pub has_key : HasWideKey object asked.keys
  pub in_order : AreInWideOrder database object has_key.indices asked.bounds rows

-- what a query for one wide key asks for: the key above a bound, after so many others
pub record WideKeyAsked : Type 0 where
  pub keys : List (List ℕ)
  pub above : Option (List ℤ)
  pub skipped : ℕ

-- the cells of a row in the columns of a key
abbrev pub key_cells : List Column → List ℕ → List Cell → Option (List Cell)
key_cells columns indices row = all_of (map (λ index. cell_at columns index row) indices)

-- the key after so many others that are above the bound, or none
pub record ShowsWideKey (database : Database) (object : Object) (asked : WideKeyAsked)
    (rows : List (List Cell)) : Type 0 where
  pub has_key : HasWideKey object asked.keys
  pub whole : List (List Cell)
  pub in_order : AreInWideOrder database object has_key.indices
      (record { above = asked.above; up_to = None }) whole
  pub rows_are : rows ≡ filter_map (key_cells object.columns has_key.indices)
      (take 1 (drop asked.skipped whole))

-- each integer is one of its column's type
abbrev pub are_in_types : List Column → List ℤ → Bool
are_in_types [] [] = true
are_in_types [] (number ∷ numbers) = false
are_in_types (column ∷ columns) [] = false
are_in_types (column ∷ columns) (number ∷ numbers) =
    is_in_type column number && are_in_types columns numbers

-- the wide key of each row is integers of their columns' types, and no two rows have the same
pub record HasWideKeys (object : Object) (indices : List ℕ) (rows : List (List Cell)) : Type 0 where
  pub columns : List Column
  pub columns_are : columns_at object.columns indices ≡ Some columns
  pub integers : All (λ row. IfSome (integers_at object.columns indices row)
      (λ numbers. are_in_types columns numbers ≡ true)
      × (integers_at object.columns indices row ≢ None)) rows
  pub distinct : AllPairs
      (λ one other. integers_at object.columns indices one
      ≢ integers_at object.columns indices other) rows

-- the same of a table's rows, where it has a wide key
abbrev pub KeepsWideKey : Database → Object → Type 0
KeepsWideKey database object =
    IfSome (wide_key object)
    (λ indices. HasWideKeys object indices (rows_of database object.schema object.name))

-- all wide keys of the database after a history are such
abbrev pub KeepsWideKeys : List Transaction → Type 0
KeepsWideKeys history =
    IfSome (db history) (λ database. All (KeepsWideKey database) database.objects)
