-- Marks: what the texts of a row begin with outside of quoted names, numbers and commas, with an end mark after them.
use Rattle.std.proofs.Common.{◌≡◌, ◌==◌, ℕ, ◌<◌, ◌^◌, arith, Bool, true, false, cond, if◌then◌else◌, List, [], ◌∷◌, ◌++◌, codes, get_or, refl, sym, ◌∙◌, ap, subst, append_assoc}
use Rattle.std.specs.Prelude.{ℤ}
use Rattle.std.proofs.lemmas.Bool.Decides.{nat_tests}
use Rattle.std.specs.List.{All}
use Rattle.grammar.specs.Language.{Then, Fixed}
use Rattle.sql_cells.specs.Name.{quoted_name}
use Rattle.statement_forms.specs.Insert.{AnyInsert, Filled}
use Rattle.statement_forms.specs.Number.{IsI128}
use Rattle.statement_forms.specs.Statement.{CommandHasText, QueryHasText, InRange, IsTextOf, command_row, query_row, list_row}
use Rattle.statement_forms.specs.Text.{command_text, query_text, dotted, rows_from, key_from, by_key, by_keys, one_after, key_above, name_row, number_row, wide_above, wide_up_to}
use Rattle.statement_forms.specs.declared.command.Command.{Command}
use Rattle.statement_forms.specs.declared.command.Command.TheVariants.{SetUp, NamesUtf8mb4, NamesBinary, ForeignKeyChecksOff, TimeZoneUtc, BinaryLogOff, SqlMode, CharacterSetClient, CollationConnection, RepeatableRead, TimeZone, LockInstance, FlushTables, UnlockTables, UnlockInstance, StartSnapshot, Start, Commit, Rollback, Use, Create, CreateProgress, CreateProgressFiles, CreateProgressDump, Insert, InsertProgressFile, InsertProgressDump}
use Rattle.statement_forms.specs.declared.query.Query.{Query}
use Rattle.statement_forms.specs.declared.query.Query.TheVariants.{MasterStatus, BinaryLogStatus, Schemas, Tables, Columns, PrimaryKey, Triggers, Routines, ViewNeeds, Events, CreateDatabase, CreateTable, CreateView, CreateProcedure, CreateFunction, CreateTrigger, CreateEvent, Key, KeyAbove, Rows, RowsByKey, RowsAbove, RowsUpTo, RowsBetween, WideKey, WideKeyAbove, RowsByWideKey, RowsAboveWide, RowsUpToWide, RowsBetweenWide, ProgressDump, ProgressFiles}
use Rattle.statement_forms.specs.declared.statement.Statement.{Statement}
use Rattle.statement_forms.specs.declared.statement.Statement.TheVariants.{Command as SomeCommand, Query as SomeQuery}
use Rattle.statement_reading.proofs.NameValues.{name_of}
use Rattle.statement_laws.proofs.Scans.{scan, is_word_byte, past_name, Adds, both, name_adds, names_add, count_adds, bound_adds, numbers_add}

-- the mark of each row; an object's text has none
abbrev MARKS : List (List ℕ)
MARKS =
    codes "SET SESSION a" ∷
    codes "SET NAMES u" ∷
    codes "SET NAMES b" ∷
    codes "SET F" ∷
    codes "SET T" ∷
    codes "SET SESSION sql_l" ∷
    codes "SET SESSION sql_m" ∷
    codes "SET SESSION ch" ∷
    codes "SET SESSION co" ∷
    codes "SET SESSION T" ∷
    codes "SET T" ∷
    codes "LO" ∷
    codes "F" ∷
    codes "UNLOCK T" ∷
    codes "UNLOCK I" ∷
    codes "START TRANSACTION " ∷
    (codes "START TRANSACTION" ++ 256 ∷ []) ∷
    codes "CO" ∷
    codes "R" ∷
    codes "US" ∷
    [] ∷
    codes "CREATE D" ∷
    codes "CREATE TABLE . ( v" ∷
    codes "CREATE TABLE . ( c" ∷
    codes "INSERT INTO  (" ∷
    codes "INSERT INTO . () VALUES (" ∷
    codes "INSERT INTO . () VALUES (" ∷
    codes "SHOW M" ∷
    codes "SHOW B" ∷
    codes "SELECT SC" ∷
    codes "SELECT TABLE_" ∷
    codes "SELECT COLUMN_NAMED" ∷
    codes "SELECT COLUMN_NAME " ∷
    codes "SELECT TR" ∷
    codes "SELECT R" ∷
    codes "SELECT V" ∷
    codes "SELECT E" ∷
    codes "SHOW CREATE D" ∷
    codes "SHOW CREATE TA" ∷
    codes "SHOW CREATE V" ∷
    codes "SHOW CREATE P" ∷
    codes "SHOW CREATE F" ∷
    codes "SHOW CREATE TR" ∷
    codes "SHOW CREATE E" ∷
    (codes "SELECT  FROM . ORDER BY  LIMIT " ++ 256 ∷ []) ∷
    (codes "SELECT  FROM . WHERE  >  ORDER BY  LIMIT " ++ 256 ∷ []) ∷
    (codes "SELECT  FROM ." ++ 256 ∷ []) ∷
    (codes "SELECT  FROM . ORDER BY " ++ 256 ∷ []) ∷
    (codes "SELECT  FROM . WHERE  >  ORDER BY " ++ 256 ∷ []) ∷
    (codes "SELECT  FROM . WHERE  <=  ORDER BY " ++ 256 ∷ []) ∷
    (codes "SELECT  FROM . WHERE  >  AND  <=  ORDER BY " ++ 256 ∷ []) ∷
    (codes "SELECT  FROM . ORDER BY  LIMIT " ++ 256 ∷ []) ∷
    (codes "SELECT  FROM . WHERE () > () ORDER BY  LIMIT " ++ 256 ∷ []) ∷
    (codes "SELECT  FROM . ORDER BY " ++ 256 ∷ []) ∷
    (codes "SELECT  FROM . WHERE () > () ORDER BY " ++ 256 ∷ []) ∷
    (codes "SELECT  FROM . WHERE () <= () ORDER BY " ++ 256 ∷ []) ∷
    (codes "SELECT  FROM . WHERE () > () AND () <= () ORDER BY " ++ 256 ∷ []) ∷
    (codes "SELECT  FROM ." ++ 256 ∷ []) ∷
    (codes "SELECT  FROM ." ++ 256 ∷ []) ∷ []

abbrev pub mark : ℕ → List ℕ
mark row = get_or MARKS row []

-- the text begins with the mark of the row
abbrev pub Front : ℕ → List ℕ → Type 0
Front row text = (rest : List ℕ) × (scan is_word_byte false (text ++ 256 ∷ []) ≡ mark row ++ rest)

insert_front : (text : List ℕ) → AnyInsert text → Front 24 text
unfolding AnyInsert Filled Then Fixed
insert_front text (a, b, e, begin, (c, d, split, named, (more, (x, y, parts, opens, rest)))) =
    let (v, is) = name_of c named in
    let tail : b ≡ quoted_name v ++ (codes " (" ++ y) =
    split ∙ ap (λ (l : List ℕ). l ++ d) is ∙ ap (λ (l : List ℕ). quoted_name v ++ l) (parts ∙ ap (λ (l : List ℕ). l ++ y) opens) in
    let whole : text ≡ codes "INSERT INTO " ++ (quoted_name v ++ (codes " (" ++ y)) =
    e ∙ ap (λ (l : List ℕ). l ++ b) begin ∙ ap (λ (l : List ℕ). codes "INSERT INTO " ++ l) tail in
    let ended : text ++ 256 ∷ [] ≡ codes "INSERT INTO " ++ (quoted_name v ++ (codes " (" ++ (y ++ 256 ∷ []))) =
    ap (λ (l : List ℕ). l ++ 256 ∷ []) whole ∙ ap (λ (l : List ℕ). codes "INSERT INTO " ++ l) (append_assoc (quoted_name v) (codes " (" ++ y) (256 ∷ [])) in (
      scan is_word_byte false (y ++ 256 ∷ []),
      ap (λ (l : List ℕ). scan is_word_byte false l) ended
          ∙ ap (λ (l : List ℕ). codes "INSERT INTO " ++ l) (past_name is_word_byte v (codes " (" ++ (y ++ 256 ∷ []))),
    )

pub command_front : (command : Command) → CommandHasText command → Front (command_row command) (command_text command)
unfolding command_text
command_front SetUp has = (_, refl)
command_front NamesUtf8mb4 has = (_, refl)
command_front NamesBinary has = (_, refl)
command_front ForeignKeyChecksOff has = (_, refl)
command_front TimeZoneUtc has = (_, refl)
command_front BinaryLogOff has = (_, refl)
command_front (SqlMode value) has = (_, refl)
command_front (CharacterSetClient value) has = (_, refl)
command_front (CollationConnection value) has = (_, refl)
command_front RepeatableRead has = (_, refl)
command_front (TimeZone value) has = (_, refl)
command_front LockInstance has = (_, refl)
command_front FlushTables has = (_, refl)
command_front UnlockTables has = (_, refl)
command_front UnlockInstance has = (_, refl)
command_front StartSnapshot has = (_, refl)
command_front Start has = (_, refl)
command_front Commit has = (_, refl)
command_front Rollback has = (_, refl)
command_front (Use schema) has = (_, refl)
command_front (Create text) has = (_, refl)
command_front CreateProgress has = (_, refl)
command_front CreateProgressFiles has = (_, refl)
command_front CreateProgressDump has = (_, refl)
command_front (Insert text) has = insert_front text has
command_front (InsertProgressFile name) has = (_, refl)
command_front (InsertProgressDump digest) has = (_, refl)

-- the words of queries

select : Adds (codes "SELECT ") (codes "SELECT ")
select = record { is = λ t. refl }

from : Adds (codes " FROM ") (codes " FROM ")
from = record { is = λ t. refl }

dot : Adds (codes ".") (codes ".")
dot = record { is = λ t. refl }

order : Adds (codes " ORDER BY ") (codes " ORDER BY ")
order = record { is = λ t. refl }

limit : Adds (codes " LIMIT ") (codes " LIMIT ")
limit = record { is = λ t. refl }

where_key : Adds (codes " WHERE ") (codes " WHERE ")
where_key = record { is = λ t. refl }

above_word : Adds (codes " > ") (codes " > ")
above_word = record { is = λ t. refl }

up_to_word : Adds (codes " <= ") (codes " <= ")
up_to_word = record { is = λ t. refl }

and_word : Adds (codes " AND ") (codes " AND ")
and_word = record { is = λ t. refl }

opens : Adds (codes "(") (codes "(")
opens = record { is = λ t. refl }

closes : Adds (codes ")") (codes ")")
closes = record { is = λ t. refl }

only_one : Adds (codes ",1") []
only_one = record { is = λ t. refl }

dotted_adds : (schema name : List ℕ) → Adds (dotted schema name) (codes ".")
dotted_adds schema name = both (both (name_adds schema) dot) (name_adds name)

rows_from_adds : (columns : List (List ℕ)) (schema table : List ℕ) → Adds (rows_from columns schema table) (codes "SELECT  FROM .")
rows_from_adds columns schema table = both (both (both select (names_add columns)) from) (dotted_adds schema table)

key_from_adds : (key schema table : List ℕ) → Adds (key_from key schema table) (codes "SELECT  FROM .")
key_from_adds key schema table = both (both (both select (name_adds key)) from) (dotted_adds schema table)

by_key_adds : (key : List ℕ) → Adds (by_key key) (codes " ORDER BY ")
by_key_adds key = both order (name_adds key)

by_keys_adds : (keys : List (List ℕ)) → Adds (by_keys keys) (codes " ORDER BY ")
by_keys_adds keys = both order (names_add keys)

one_after_adds : (skipped : ℕ) → skipped < 2 ^ 64 → Adds (one_after skipped) (codes " LIMIT ")
one_after_adds skipped small = both (both limit (count_adds skipped small)) only_one

key_above_adds : (key : List ℕ) (bound : ℤ) → IsI128 bound → Adds (key_above key bound) (codes " WHERE  > ")
key_above_adds key bound range = both (both (both where_key (name_adds key)) above_word) (bound_adds bound range)

name_row_adds : (keys : List (List ℕ)) → Adds (name_row keys) (codes "()")
name_row_adds keys = both (both opens (names_add keys)) closes

number_row_adds : (row : List ℤ) → All IsI128 row → Adds (number_row row) (codes "()")
number_row_adds row ranges = both (both opens (numbers_add row ranges)) closes

wide_above_adds : (keys : List (List ℕ)) (bound : List ℤ) → All IsI128 bound → Adds (wide_above keys bound) (codes "() > ()")
wide_above_adds keys bound ranges = both (both (name_row_adds keys) above_word) (number_row_adds bound ranges)

wide_up_to_adds : (keys : List (List ℕ)) (bound : List ℤ) → All IsI128 bound → Adds (wide_up_to keys bound) (codes "() <= ()")
wide_up_to_adds keys bound ranges = both (both (name_row_adds keys) up_to_word) (number_row_adds bound ranges)

-- A text whose words are a mark begins with it.
ends_there : (row : ℕ) (text words : List ℕ) → Adds text words → words ++ 256 ∷ [] ≡ mark row ++ [] → Front row text
ends_there row text words adds is = ([], adds.is (256 ∷ []) ∙ is)

pub query_front : (query : Query) → QueryHasText query → InRange query → Front (query_row query) (query_text query)
unfolding query_text
query_front MasterStatus has range = (_, refl)
query_front BinaryLogStatus has range = (_, refl)
query_front Schemas has range = (_, refl)
query_front (Tables schema) has range = (_, refl)
query_front (Columns schema table) has range = (_, refl)
query_front (PrimaryKey schema table) has range = (_, refl)
query_front (Triggers schema) has range = (_, refl)
query_front (Routines schema) has range = (_, refl)
query_front (ViewNeeds schema) has range = (_, refl)
query_front (Events schema) has range = (_, refl)
query_front (CreateDatabase schema) has range = (_, refl)
query_front (CreateTable schema name) has range = (_, refl)
query_front (CreateView schema name) has range = (_, refl)
query_front (CreateProcedure schema name) has range = (_, refl)
query_front (CreateFunction schema name) has range = (_, refl)
query_front (CreateTrigger schema name) has range = (_, refl)
query_front (CreateEvent schema name) has range = (_, refl)
query_front (Key key schema table skipped) has range =
    ends_there 44 _ _ (both (both (key_from_adds key schema table) (by_key_adds key)) (one_after_adds skipped range)) refl
query_front (KeyAbove key schema table above skipped) has range =
    ends_there 45 _ _ (both (both (both (key_from_adds key schema table) (key_above_adds key above range.0)) (by_key_adds key)) (one_after_adds skipped range.1)) refl
query_front (Rows columns schema table) has range =
    ends_there 46 _ _ (rows_from_adds columns schema table) refl
query_front (RowsByKey columns schema table key) has range =
    ends_there 47 _ _ (both (rows_from_adds columns schema table) (by_key_adds key)) refl
query_front (RowsAbove columns schema table key above) has range =
    ends_there 48 _ _ (both (both (rows_from_adds columns schema table) (key_above_adds key above range)) (by_key_adds key)) refl
query_front (RowsUpTo columns schema table key up_to) has range =
    ends_there 49 _ _ (both (both (both (both (both (rows_from_adds columns schema table) where_key) (name_adds key)) up_to_word) (bound_adds up_to range)) (by_key_adds key)) refl
query_front (RowsBetween columns schema table key above up_to) has range =
    ends_there 50 _ _ (both (both (both (both (both (both (rows_from_adds columns schema table) (key_above_adds key above range.0)) and_word) (name_adds key)) up_to_word) (bound_adds up_to range.1)) (by_key_adds key)) refl
query_front (WideKey keys schema table skipped) has range =
    ends_there 51 _ _ (both (both (rows_from_adds keys schema table) (by_keys_adds keys)) (one_after_adds skipped range)) refl
query_front (WideKeyAbove keys schema table above skipped) has range =
    ends_there 52 _ _ (both (both (both (both (rows_from_adds keys schema table) where_key) (wide_above_adds keys above range.0)) (by_keys_adds keys)) (one_after_adds skipped range.1)) refl
query_front (RowsByWideKey columns schema table keys) has range =
    ends_there 53 _ _ (both (rows_from_adds columns schema table) (by_keys_adds keys)) refl
query_front (RowsAboveWide columns schema table keys above) has range =
    ends_there 54 _ _ (both (both (both (rows_from_adds columns schema table) where_key) (wide_above_adds keys above range)) (by_keys_adds keys)) refl
query_front (RowsUpToWide columns schema table keys up_to) has range =
    ends_there 55 _ _ (both (both (both (rows_from_adds columns schema table) where_key) (wide_up_to_adds keys up_to range)) (by_keys_adds keys)) refl
query_front (RowsBetweenWide columns schema table keys above up_to) has range =
    ends_there 56 _ _ (both (both (both (both (both (rows_from_adds columns schema table) where_key) (wide_above_adds keys above range.0)) and_word) (wide_up_to_adds keys up_to range.1)) (by_keys_adds keys)) refl
query_front ProgressDump has range = (_, refl)
query_front ProgressFiles has range = (_, refl)

pub front : (s : Statement) (text : List ℕ) → IsTextOf s text → Front (list_row s) text
front (SomeCommand command) text is = subst (λ (l : List ℕ). Front (command_row command) l) (sym is.1) (command_front command is.0)
front (SomeQuery query) text is = subst (λ (l : List ℕ). Front (query_row query) l) (sym is.2) (query_front query is.0 is.1)

-- neither of the two begins with the other
abbrev pub apart : List ℕ → List ℕ → Bool
apart [] m = false
apart (a ∷ l) [] = false
apart (a ∷ l) (b ∷ m) = if a == b then apart l m else true

same_tail : (a b : ℕ) (l m x y : List ℕ) (q : Bool) → (a == b) ≡ q → cond q (apart l m) true ≡ true → (a ∷ l) ++ x ≡ (b ∷ m) ++ y → (apart l m ≡ true) × (l ++ x ≡ m ++ y)
same_tail a b l m x y true is e same = (e, cc)
same_tail a b l m x y false is e same = absurd (other (let head : a ≡ b = cc in sym is ∙ ap (λ (k : ℕ). a == k) (sym head) ∙ self a)) where
  other : false ≡ true → ⊥
  other h = cc

  self : (k : ℕ) → (k == k) ≡ true
  self k = grind (arith, nat_tests)

apart_differ : (l m x y : List ℕ) → apart l m ≡ true → l ++ x ≡ m ++ y → ⊥
apart_differ [] m x y e same = cc
apart_differ (a ∷ l) [] x y e same = cc
apart_differ (a ∷ l) (b ∷ m) x y e same = let rest = same_tail a b l m x y (a == b) refl e same in apart_differ l m x y rest.0 rest.1

-- Statements of rows whose marks are apart have no text in common.
pub told_apart : (s other : Statement) (text : List ℕ) → IsTextOf s text → IsTextOf other text → apart (mark (list_row s)) (mark (list_row other)) ≡ true → ⊥
told_apart s other text is also e =
    let (x, one) = front s text is in
    let (y, two) = front other text also in
    apart_differ (mark (list_row s)) (mark (list_row other)) x y e (sym one ∙ two)
