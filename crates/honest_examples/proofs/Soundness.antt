-- Which of the worked databases are well-formed, and which histories are sound.
use Rattle.std.proofs.Common.{◌≡◌, ◌≢◌, ◌==◌, ◌&&◌, not, ℕ, zero, suc, Bool, true, List, [], ◌∷◌, ◌++◌, Option, Some, None, map, refl, All, IfSome, arith, ap, sym, ◌∙◌, subst, ℤ, pos, codes}
use Rattle.std.proofs.lemmas.Bool.{false≢true}
use Rattle.std.proofs.lemmas.Bool.Decides.{Decides-eqb}
use Rattle.std.proofs.lemmas.List.Sums.{AllPass-from_list_all}
use Rattle.std.specs.List.{list_all}
use Rattle.std.proofs.lemmas.List.Elements.{All-append, All-cons, All-nil}
use Rattle.std.proofs.lemmas.List.Kept.{AllPairs-cons}
use Rattle.object_forms.specs.declared.shape.Column.{Column}
use Rattle.server_data.proofs.Counts.{and_left, and_right}
use Rattle.server_data.specs.Fold.{change_db, db, has_object, may_make, rows_of}
use Rattle.server_data.specs.declared.data.Change.{Change}
use Rattle.server_data.specs.declared.data.Change.TheVariants.{Make}
use Rattle.server_data.specs.declared.data.Database.{Database}
use Rattle.server_data.specs.declared.data.Object.{Object}
use Rattle.server_data.specs.declared.data.Transaction.{Transaction}
use Rattle.sql_cells.specs.declared.cell.Cell.{Cell}
use Rattle.sql_cells.specs.declared.cell.Cell.TheVariants.{Null, Value}
use Rattle.honest_server.specs.Columns.{are_numbers, are_printed, integer_at, is_in_type, is_json, plain_columns}
use Rattle.honest_server.specs.WellFormed.{HasGoodMark, HasGoodRows, HasKeys, IsCountedWhere, IsPrinted, IsSound, IsWellFormed, IsWellFormedObject}
use Rattle.honest_examples.specs.Databases.{AKeyIsAnInteger, APositionHasAFile, NoTwoRowsHaveOneKey, TheHistoryMakesTheDatabase}
use Rattle.honest_examples.specs.Worked.{a, database, history, id, no_rows, one, one_again, put, row, schema_alone, server, the_schema, the_table, three, two, unmarked, with_rows, schema, table}
use Rattle.honest_examples.proofs.Worked.{no_counter, rows_are, schema_head, schema_named, stands, stands_alone, stands_empty, table_head, table_named, table_shape}

pub all_of_one : {X : Type 0} (P : X → Type 0) → (one : X) → P one → All P (one ∷ [])
all_of_one P one holds = All-cons P one [] holds (All-nil P)

-- no column is of JSON texts
abbrev pub no_json : List Column → Bool
no_json columns = list_all (λ column. not (is_json column)) columns

printed_row : (columns : List Column) (cells : List Cell) → no_json columns ≡ true → are_printed server.prints columns cells ≡ true
printed_row [] cells none = refl
printed_row (column ∷ columns) [] none = refl
printed_row (column ∷ columns) (Null ∷ cells) none = printed_row columns cells (and_right (not (is_json column)) (no_json columns) none)
printed_row (column ∷ columns) (Value bytes ∷ cells) none = rw (and_left (not (is_json column)) (no_json columns) none) (printed_row columns cells (and_right (not (is_json column)) (no_json columns) none))

-- rows of objects without such columns are as the server prints them
pub printed_in : (end : Database) (objects : List Object) → list_all (λ object. no_json (plain_columns object.columns)) objects ≡ true → All (IsPrinted server.prints end) objects
printed_in end [] none = All-nil _
printed_in end (object ∷ objects) none = All-cons (IsPrinted server.prints end) object objects (each (rows_of end object.schema object.name)) (printed_in end objects (and_right (no_json (plain_columns object.columns)) (list_all (λ object. no_json (plain_columns object.columns)) objects) none))
  where
    each : (rows : List (List Cell)) → All (λ row. are_printed server.prints (plain_columns object.columns) row ≡ true) rows
    each [] = All-nil _
    each (row ∷ rows) = All-cons (λ row. are_printed server.prints (plain_columns object.columns) row ≡ true) row rows (printed_row (plain_columns object.columns) row (and_left (no_json (plain_columns object.columns)) (list_all (λ object. no_json (plain_columns object.columns)) objects) none)) (each rows)

abbrev differs : ℕ → ℕ → Bool
differs number other = not (number == other)

-- numbers that are keys: each is of the column's type, and no two are the same
abbrev pub are_keys : List ℕ → Bool
are_keys [] = true
are_keys (number ∷ numbers) = (is_in_type id (pos number) && list_all (differs number) numbers) && are_keys numbers

abbrev pub some_key : ℕ → Option ℤ
some_key number = Some (pos number)

-- Keys of tables whose key is their first column, `id`.
module _ (others : List Column) where
  abbrev key_of : List Cell → Option ℤ
  key_of cells = integer_at (id ∷ others) 0 cells

  abbrev HasInteger : Column → List Cell → Type 0
  HasInteger column cells = IfSome (key_of cells) (λ number. is_in_type column number ≡ true) × (key_of cells ≢ None)

  -- the key of the row is another number
  abbrev HasOther : ℤ → List Cell → Type 0
  HasOther number cells = Some number ≢ key_of cells

  -- no rows have good keys
  no_keys : HasKeys (id ∷ others) 0 []
  no_keys = record { column = id; column_is = refl; integers = All-nil _; distinct = λ i j d below within. absurd (omega arith) }

  -- one more row has, whose key is an integer that no other row has
  more_keys : (cells : List Cell) (rows : List (List Cell)) (number : ℤ) → key_of cells ≡ Some number → is_in_type id number ≡ true → All (HasOther number) rows → HasKeys (id ∷ others) 0 rows → HasKeys (id ∷ others) 0 (cells ∷ rows)
  more_keys cells rows number is_number in_type unlike keys = record {
    column = id;
    column_is = refl;
    integers = All-cons (HasInteger id) cells rows (rw is_number (in_type, λ e. cc)) (subst (λ column. All (HasInteger column) rows) same keys.integers);
    distinct = AllPairs-cons (λ one other. key_of one ≢ key_of other) cells rows (rw is_number unlike) keys.distinct;
  }
    where
      same : keys.column ≡ id
      same = cc (keys.column_is)

  have_other : (number : ℕ) (rows : List (List Cell)) (numbers : List ℕ) → map key_of rows ≡ map some_key numbers → list_all (differs number) numbers ≡ true → All (HasOther (pos number)) rows
  have_other number [] numbers read all = All-nil _
  have_other number (cells ∷ rows) [] read all = absurd (cc)
  have_other number (cells ∷ rows) (other ∷ numbers) read all = All-cons (HasOther (pos number)) cells rows first (have_other number rows numbers (cc) (and_right (differs number other) (list_all (differs number) numbers) all))
    where
      unlike : number ≡ other → ⊥
      unlike same = false≢true (sym (ap not ((Decides-eqb number other).1 same)) ∙ and_left (differs number other) (list_all (differs number) numbers) all)

      first : HasOther (pos number) cells
      first same = unlike (cc (same, read))

  -- rows whose keys are read as different numbers of the column's type have good keys
  pub keys_of : (rows : List (List Cell)) (numbers : List ℕ) → map key_of rows ≡ map some_key numbers → are_keys numbers ≡ true → HasKeys (id ∷ others) 0 rows
  keys_of [] numbers read good = no_keys
  keys_of (cells ∷ rows) [] read good = absurd (cc)
  keys_of (cells ∷ rows) (number ∷ numbers) read good =
      let front = and_left (is_in_type id (pos number) && list_all (differs number) numbers) (are_keys numbers) good in
      more_keys cells rows (pos number) (cc) (and_left (is_in_type id (pos number)) (list_all (differs number) numbers) front)
      (have_other number rows numbers (cc) (and_right (is_in_type id (pos number)) (list_all (differs number) numbers) front))
      (keys_of rows numbers (cc) (and_right (is_in_type id (pos number) && list_all (differs number) numbers) (are_keys numbers) good))

-- the schema alone is well-formed
pub good_schema : (end : Database) → IsWellFormedObject end the_schema
good_schema end = record { named = schema_named; in_schema = schema_named; head = schema_head; settings = refl; shape = record { columns = refl; key = refl }; table = tt; rows = tt; needs = All-nil _; rank = omega arith }

-- the table is, in any database where its rows have good keys: it has no counter
pub good_table : (end : Database) (rows : List (List Cell)) → rows_of end schema table ≡ rows → list_all (are_numbers (plain_columns the_table.columns)) rows ≡ true → HasKeys the_table.columns 0 rows → IsWellFormedObject end the_table
good_table end rows of_end numbers keys = record { named = table_named; in_schema = schema_named; head = table_head; settings = refl; shape = table_shape; table = tt; rows = subst (λ (rows : List (List Cell)). HasGoodRows the_table rows) (sym of_end) good; needs = All-nil _; rank = omega arith }
  where
    good : HasGoodRows the_table rows
    good = record { numbers = AllPass-from_list_all _ rows numbers; keys = keys; counted = subst (λ found. IsCountedWhere the_table.columns found rows) (sym no_counter) tt }

-- and so are the two together
pub with_good_rows : (rows : List (List Cell)) → list_all (are_numbers (plain_columns the_table.columns)) rows ≡ true → HasKeys the_table.columns 0 rows → IsWellFormed (with_rows rows)
with_good_rows rows numbers keys = record { objects = All-cons (IsWellFormedObject (with_rows rows)) the_schema (the_table ∷ []) (good_schema (with_rows rows)) (all_of_one (IsWellFormedObject (with_rows rows)) the_table (good_table (with_rows rows) rows (rows_are rows) numbers keys)) }

-- a history that ends there is sound
pub sound_with : (whole : List Transaction) (rows : List (List Cell)) (numbers : List ℕ) → db whole ≡ Some (with_rows rows) → All HasGoodMark whole → list_all (are_numbers (plain_columns the_table.columns)) rows ≡ true → map (integer_at the_table.columns 0) rows ≡ map some_key numbers → are_keys numbers ≡ true → IsSound server whole
sound_with whole rows numbers ends marks are_numbers read keys = record { database = with_rows rows; stands = ends; well_formed = with_good_rows rows are_numbers (keys_of (a ∷ []) rows numbers read keys); printed = printed_in (with_rows rows) (the_schema ∷ the_table ∷ []) refl; marks = marks }

good_marks : All HasGoodMark history
good_marks zero one within = tt
good_marks (suc zero) one within = tt
good_marks (suc (suc zero)) one within = refl
good_marks (suc (suc (suc k))) one within = absurd (omega arith)

no_mark : (changes : List Change) → HasGoodMark (unmarked changes)
no_mark changes = tt

-- the worked history, and with such transactions after it
pub good_marks_with : (after : List (List Change)) → All HasGoodMark (history ++ map unmarked after)
good_marks_with after = All-append HasGoodMark history (map unmarked after) good_marks (without after)
  where
    without : (after : List (List Change)) → All HasGoodMark (map unmarked after)
    without [] = All-nil _
    without (changes ∷ after) = All-cons HasGoodMark (unmarked changes) (map unmarked after) (no_mark changes) (without after)

well_formed : IsWellFormed database
well_formed = with_good_rows (one ∷ two ∷ []) refl (keys_of (a ∷ []) (one ∷ two ∷ []) (1 ∷ 2 ∷ []) refl refl)

pub sound : IsSound server history
sound = sound_with history (one ∷ two ∷ []) (1 ∷ 2 ∷ []) stands good_marks refl refl refl

pub sound_with_three : IsSound server (history ++ unmarked (put three ∷ []) ∷ [])
unfolding change_db has_object may_make
sound_with_three = sound_with (history ++ unmarked (put three ∷ []) ∷ []) (one ∷ two ∷ three ∷ []) (1 ∷ 2 ∷ 3 ∷ []) refl (good_marks_with ((put three ∷ []) ∷ [])) refl refl refl

pub sound_with_none : IsSound server (history ++ unmarked [] ∷ [])
unfolding change_db has_object may_make
sound_with_none = sound_with (history ++ unmarked [] ∷ []) (one ∷ two ∷ []) (1 ∷ 2 ∷ []) refl (good_marks_with ([] ∷ [])) refl refl refl

-- and the schema alone, and with an empty table
pub sound_alone : IsSound server schema_alone
sound_alone = record {
  database = record { objects = the_schema ∷ []; rows = [] };
  stands = stands_alone;
  well_formed = record { objects = All-cons (IsWellFormedObject (record { objects = the_schema ∷ []; rows = [] })) the_schema [] (good_schema _) (All-nil _) };
  printed = printed_in _ (the_schema ∷ []) refl;
  marks = All-cons HasGoodMark (unmarked (Make the_schema ∷ [])) [] tt (All-nil _);
}

pub sound_empty : IsSound server no_rows
sound_empty = sound_with no_rows [] [] stands_empty (All-cons HasGoodMark (unmarked (Make the_schema ∷ [])) (unmarked (Make the_table ∷ []) ∷ []) tt (All-cons HasGoodMark (unmarked (Make the_table ∷ [])) [] tt (All-nil _))) refl refl refl

pub ends : TheHistoryMakesTheDatabase
ends = record { ends = stands }

-- after a wrong row the keys aren't good
pub with_wrong : (rows : List (List Cell)) → IsWellFormed (with_rows rows) → HasKeys the_table.columns 0 rows
with_wrong rows well = subst (λ (rows : List (List Cell)). HasKeys the_table.columns 0 rows) (rows_are rows) (well.objects 1 the_table (omega arith)).rows.keys

pub one_key : NoTwoRowsHaveOneKey
unfolding change_db has_object may_make
one_key = record {
  allowed = well_formed;
  fits = refl;
  refused = λ wrong. (with_wrong (one ∷ two ∷ one_again ∷ []) wrong).distinct 0 2 one (omega arith) (omega arith) refl;
}

pub integers : AKeyIsAnInteger
integers = record { refused = λ wrong. ((with_wrong (one ∷ two ∷ row (codes "x") Null ∷ []) wrong).integers 2 one (omega arith)).1 refl }

pub files : APositionHasAFile
files = record { allowed = sound; refused = λ wrong. false≢true (wrong.marks 3 (unmarked []) (omega arith)) }
