-- INSERTs into the worked table.
use Rattle.std.proofs.Common.{◌≡◌, ◌<◌, ◌≤◌, ℕ, zero, suc, Bool, true, false, cond, List, [], ◌∷◌, ◌++◌, length, take, Option, Some, None, map, refl, ap, sym, ◌∙◌, subst, arith, append_assoc, inl, codes, length-append, bytes_eq, slice_index, ◌||◌}
use Rattle.std.specs.Prelude.{IfSome, option_and_then, option_map}
use Rattle.hex.specs.Hex.{IsBytes}
use Rattle.std.proofs.Math.Seq.{take-append_seam}
use Rattle.std.proofs.lemmas.Bool.{false≢true}
use Rattle.std.proofs.lemmas.List.{append_cancel_left}
use Rattle.std.proofs.lemmas.List.Elements.{All-cons}
use Rattle.std.proofs.lemmas.Slice.Eq.{bytes_eq-Decides}
use Rattle.grammar.specs.Language.{Longest}
use Rattle.grammar.proofs.Choices.{neither}
use Rattle.object_forms.specs.declared.kind.Kind.TheVariants.{Table}
use Rattle.server_data.specs.Fold.{change_db, changes_db, db, has_object, may_make, rows_of, with_row}
use Rattle.server_data.specs.declared.data.Change.{Change}
use Rattle.server_data.specs.declared.data.Database.{Database}
use Rattle.server_data.specs.History.{Interleaves, here, none_left, takes}
use Rattle.server_data.specs.declared.data.Need.{Need}
use Rattle.server_data.specs.declared.data.Object.{Object}
use Rattle.sql_cells.specs.Cell.{bytes_of}
use Rattle.sql_cells.specs.Literal.{has_literal, literal}
use Rattle.sql_cells.specs.Name.{quoted_name}
use Rattle.sql_cells.specs.Number.{is_number}
use Rattle.sql_cells.specs.Spelling.{Literal, Spells, cell_of}
use Rattle.sql_cells.specs.declared.cell.Cell.{Cell}
use Rattle.sql_cells.specs.declared.cell.Cell.TheVariants.{Null, Value}
use Rattle.sql_cells.specs.declared.cell_kind.CellKind.TheVariants.{Number, Text}
use Rattle.sql_cells.specs.declared.cell_kind.CellKind.{CellKind}
use Rattle.sql_literals.proofs.CellKinds.{read_back}
use Rattle.sql_literals.proofs.ConvertedReads.{no_empty_converted}
use Rattle.sql_literals.proofs.HexReads.{no_empty_hex}
use Rattle.sql_literals.proofs.LiteralReads.{no_empty_null}
use Rattle.sql_literals.proofs.NumberReads.{no_empty_number}
use Rattle.sql_literals.proofs.TextReads.{no_empty_text}
use Rattle.statement_forms.specs.Text.{names}
use Rattle.statement_forms.specs.declared.command.Command.TheVariants.{Insert}
use Rattle.honest_server.specs.Answer.{has_bytes, object_at}
use Rattle.honest_server.specs.Catalogue.{a_row, no_more}
use Rattle.honest_server.specs.Columns.{are_numbers, plain_columns, plain_names}
use Rattle.honest_server.specs.Effect.{Effect, GoesInto}
use Rattle.honest_server.specs.Insert.{Inserts, Insertion, SpelledCell, SpellsCell, SpellsCells, SpellsInsert, SpellsRows, StandAmong, are_spelled_for, plain_cells, last_cell, last_row, next_cell, next_row}
use Rattle.honest_server.specs.Moves.{MayFollow, plainly}
use Rattle.honest_server.specs.Serve.{FitsNowhere, Handles, done, rows, refused}
use Rattle.honest_server.specs.State.{State, database_found_by, open_changes, with_others, with_own}
use Rattle.honest_server.specs.WellFormed.{HasKeys, HasKeysWhere, IsSound}
use Rattle.honest_examples.proofs.Soundness.{all_of_one, keys_of, sound_with_three}
use Rattle.honest_examples.proofs.Worked.{rows_are, stands}
use Rattle.honest_examples.specs.Effects.{insert, with_three, worked}
use Rattle.honest_examples.specs.Worked.{a, database, one, put, row, schema, server, table, the_table, three, two, unmarked, with_rows}
use Rattle.plain_data.proofs.Options.{same_some}

pub no_empty_literal : Literal [] → ⊥
unfolding Literal
no_empty_literal = neither _ _ no_empty_null (neither _ _ no_empty_number (neither _ _ no_empty_text (neither _ _ no_empty_hex no_empty_converted)))

-- the rows of the second INSERT, without the first parenthesis
abbrev inside : List ℕ
inside = codes "1,'b')"

pub one_byte : (byte : ℕ) → byte < 256 → (i : ℕ) → slice_index (byte ∷ []) i < 256
one_byte byte small zero = small
one_byte byte small (suc i) = omega arith

-- the only literal in front is `1`
longest : Longest Literal inside 1
longest = (read_back Number (Some (codes "1")) refl (one_byte 49 (omega arith))).whole (codes ",'b')") (inl refl)

first_literal : (bytes rest : List ℕ) → Literal bytes → bytes ++ rest ≡ inside → bytes ≡ codes "1"
first_literal [] rest literal whole = absurd (no_empty_literal literal)
first_literal (byte ∷ []) rest literal whole = cc
first_literal (byte ∷ next ∷ bytes) rest literal whole = absurd (longest.longer (length (byte ∷ next ∷ bytes)) (omega arith) within (subst Literal front literal))
  where
    within : length (byte ∷ next ∷ bytes) ≤ length inside
    within = omega (arith, length-append (byte ∷ next ∷ bytes) rest, ap length whole)

    front : byte ∷ next ∷ bytes ≡ take (length (byte ∷ next ∷ bytes)) inside
    front = sym (take-append_seam (byte ∷ next ∷ bytes) rest) ∙ ap (take (length (byte ∷ next ∷ bytes))) whole

is_one : (bytes : List ℕ) (cell : Cell) → bytes ≡ codes "1" → Spells bytes (bytes_of cell) → cell ≡ Value (codes "1")
is_one bytes Null same spells = absurd (cc (spells.cell_is ∙ ap cell_of same))
is_one bytes (Value found) same spells = cc (spells.cell_is ∙ ap cell_of same)

-- a row that begins with 1
record BeginsWithOne (cells : List SpelledCell) : Type 0 where
  first : SpelledCell
  others : List SpelledCell
  cells_are : cells ≡ first ∷ others
  first_is : first.cell ≡ Value (codes "1")

first_cell : {spelled : List ℕ} {cells : List SpelledCell} → SpellsCells spelled cells → (rest : List ℕ) → spelled ++ rest ≡ inside → BeginsWithOne cells
first_cell (last_cell {bytes} {cell} spells) rest whole = record { first = cell; others = []; cells_are = refl; first_is = is_one bytes cell.cell (first_literal bytes rest spells.spells.literal whole) spells.spells }
first_cell (next_cell {bytes} {rest = after} {whole = spelled} {cell} {cells} spells others is_whole) rest whole = record { first = cell; others = cells; cells_are = refl; first_is = is_one bytes cell.cell (first_literal bytes (codes "," ++ (after ++ rest)) spells.spells.literal joined) spells.spells }
  where
    joined : bytes ++ (codes "," ++ (after ++ rest)) ≡ inside
    joined = sym (append_assoc bytes (codes ",") (after ++ rest)) ∙ (sym (append_assoc (bytes ++ codes ",") after rest) ∙ (ap (λ (front : List ℕ). front ++ rest) (sym is_whole) ∙ whole))

-- rows of which the first begins with 1
record BeginWithOne (found : List (List SpelledCell)) : Type 0 where
  first : List SpelledCell
  others : List (List SpelledCell)
  rows_are : found ≡ first ∷ others
  begins : BeginsWithOne first

first_row : {body : List ℕ} {found : List (List SpelledCell)} → SpellsRows body found → body ≡ codes "(1,'b')" → BeginWithOne found
first_row (last_row {cells} {whole} {row} spells is_whole) same = record { first = row; others = []; rows_are = refl; begins = first_cell spells (codes ")") (cc (sym is_whole ∙ same)) }
first_row (next_row {cells} {rest} {whole} {row} {rows = others} spells after is_whole) same = record { first = row; others = others; rows_are = refl; begins = first_cell spells (codes "),\n" ++ rest) (sym (append_assoc cells (codes "),\n") rest) ∙ cc (sym is_whole ∙ same)) }

-- the only table is the worked one
pub record IsTheTable (name : List ℕ) (object : Object) : Type 0 where
  pub named : name ≡ table
  pub is : object ≡ the_table

pub only_table : (name : List ℕ) (object : Object) → object_at database Table schema name ≡ Some object → IsTheTable name object
only_table name object found = by_test (bytes_eq table name) (bytes_eq-Decides table name).0 found
  where
    by_test : (same : Bool) → (same ≡ true → table ≡ name) → cond same (Some the_table) None ≡ Some object → IsTheTable name object
    by_test true named found = record { named = sym (named refl); is = cc }
    by_test false named found = absurd (cc)

-- such rows have a key that is there
clash : (found : List (List SpelledCell)) → BeginWithOne found → HasKeys the_table.columns 0 (one ∷ two ∷ map plain_cells found) → ⊥
clash found begins keys = (subst (λ (found : List (List Cell)). HasKeys the_table.columns 0 (one ∷ two ∷ found)) is keys).distinct 0 2 one (omega arith) (omega arith) refl
  where
    is : map plain_cells found ≡ (Value (codes "1") ∷ plain_cells begins.begins.others) ∷ map plain_cells begins.others
    is = ap (λ (found : List (List SpelledCell)). map plain_cells found) begins.rows_are
        ∙ (ap (λ (first : List SpelledCell). plain_cells first ∷ map plain_cells begins.others) begins.begins.cells_are
        ∙ ap (λ (cell : Cell). (cell ∷ plain_cells begins.begins.others) ∷ map plain_cells begins.others) begins.begins.first_is)

abbrev pub text_of : List ℕ → List ℕ
text_of spelled = codes "INSERT INTO `t` (`id`,`a`) VALUES\n" ++ spelled

-- the body of an INSERT into the worked table
pub body_of : (spelled name : List ℕ) (says : Insertion) → (spells : SpellsInsert (text_of spelled) name says) → name ≡ table → says.columns ≡ plain_names the_table.columns → spelled ≡ spells.body
body_of spelled name says spells is_table all_columns = append_cancel_left (codes "INSERT INTO `t` (`id`,`a`) VALUES\n") spelled spells.body text
  where
    text : text_of spelled ≡ text_of spells.body
    text = spells.text_is ∙ (ap (λ (name : List ℕ). codes "INSERT INTO " ++ quoted_name name ++ codes " (" ++ names says.columns ++ codes ") VALUES\n" ++ spells.body) is_table ∙ ap (λ (columns : List (List ℕ)). codes "INSERT INTO " ++ quoted_name table ++ codes " (" ++ names columns ++ codes ") VALUES\n" ++ spells.body) all_columns)

-- a table of the schema
abbrev pub in_schema : List ℕ → Need
in_schema name = record { schema = schema; name = name }

-- and so a row of the key 1 can't be put
taken : (name : List ℕ) (says : Insertion) (changes : List Change) → SpellsInsert (text_of (codes "(1,'b')")) name says → Inserts server database (in_schema name) says changes → ⊥
taken name says changes spells inserts = clash says.rows (first_row spells.spells (sym (body_of (codes "(1,'b')") name says spells is.named named))) keys
  where
    is : IsTheTable name inserts.object
    is = only_table name inserts.object inserts.is_there

    named : says.columns ≡ plain_names the_table.columns
    named = inserts.all_columns ∙ ap (λ (object : Object). plain_names object.columns) is.is

    of_rows : HasKeysWhere inserts.object.columns inserts.object.key (rows_of database schema table ++ map plain_cells says.rows)
    of_rows = subst (λ (rows : List (List Cell)). HasKeysWhere inserts.object.columns inserts.object.key (rows_of database schema table ++ rows)) inserts.rows_are (subst (λ (name : List ℕ). HasKeysWhere inserts.object.columns inserts.object.key (rows_of database schema name ++ inserts.rows)) is.named inserts.keys)

    keys : HasKeys the_table.columns 0 (one ∷ two ∷ map plain_cells says.rows)
    keys = subst (λ (rows : List (List Cell)). HasKeys the_table.columns 0 (rows ++ map plain_cells says.rows)) (rows_are (one ∷ two ∷ [])) (subst (λ (object : Object). HasKeysWhere object.columns object.key (rows_of database schema table ++ map plain_cells says.rows)) is.is of_rows)

-- an INSERT into a table of the current schema of a link that finds this database
pub inserts_there : (found_in : Database) (current name : List ℕ) (says : Insertion) (changes : List Change) (end : Database) → found_in ≡ end → current ≡ schema → Inserts server found_in (record { schema = current; name = name }) says changes → Inserts server end (in_schema name) says changes
inserts_there found_in current name says changes end same_database same_schema inserts =
    subst (λ (current : List ℕ). Inserts server end (record { schema = current; name = name }) says changes) same_schema (subst (λ (found_in : Database). Inserts server found_in (record { schema = current; name = name }) says changes) same_database inserts)

pub found_worked : database_found_by worked ≡ Some database
unfolding change_db has_object may_make
found_worked = refl

pub taken_key : FitsNowhere plainly worked (insert (codes "(1,'b')")) []
taken_key done new effect = taken effect.table effect.says effect.inserts.changes effect.spells
    (inserts_there effect.inserts.database effect.schema effect.table effect.says effect.inserts.changes database (same_some (sym effect.inserts.found ∙ found_worked)) (same_some (sym effect.is_current)) effect.inserts.inserts)
taken_key (rows found) new effect = effect
taken_key (refused found refusal) new effect = effect

-- no row follows where no such bytes are

or_right : (a b : Bool) → b ≡ true → (a || b) ≡ true
or_right true b e = refl
or_right false b e = e

has_next : (cells rest : List ℕ) → has_bytes (codes "),\n") (cells ++ (codes "),\n" ++ rest)) ≡ true
has_next [] rest = refl
has_next (byte ∷ cells) rest = or_right (bytes_eq (codes "),\n") (take 3 (byte ∷ (cells ++ (codes "),\n" ++ rest))))) _ (has_next cells rest)

pub record IsOneRow (found : List (List SpelledCell)) : Type 0 where
  pub only : List SpelledCell
  pub rows_are : found ≡ only ∷ []

pub one_row : {body : List ℕ} {found : List (List SpelledCell)} → SpellsRows body found → has_bytes (codes "),\n") body ≡ false → IsOneRow found
one_row (last_row {row} spells is_whole) none = record { only = row; rows_are = refl }
one_row (next_row {cells} {rest} {whole} {row} {rows = others} spells after is_whole) none = absurd (false≢true (sym none ∙ (ap (λ (body : List ℕ). has_bytes (codes "),\n") body) (is_whole ∙ append_assoc (codes "(" ++ cells) (codes "),\n") rest) ∙ has_next (codes "(" ++ cells) rest)))

-- what is written for a cell spells it, as its kind
pub spelled_back : (kind : CellKind) (cell : Cell) → has_literal kind (bytes_of cell) ≡ true → IfSome (bytes_of cell) IsBytes → SpellsCell (literal kind (bytes_of cell)) (record { cell = cell; kind = option_map (λ _. kind) (bytes_of cell) })
spelled_back kind cell has bytes = record { spells = (read_back kind (bytes_of cell) has bytes).spells; kind = sym (read_back kind (bytes_of cell) has bytes).kind_is }

-- what spells rows of one digit

abbrev pub number : List ℕ → SpelledCell
number digits = record { cell = Value digits; kind = Some Number }

-- a row of the worked table, with the kind of the literal of its second cell
abbrev pub spelled_row : List ℕ → Cell → Option CellKind → List SpelledCell
spelled_row key cell kind = number key ∷ record { cell = cell; kind = kind } ∷ []

pub spells_digit : (digit : ℕ) → is_number (digit ∷ []) ≡ true → digit < 256 → SpellsCell (digit ∷ []) (number (digit ∷ []))
spells_digit digit is small = spelled_back Number (Value (digit ∷ [])) is (one_byte digit small)

pub spells_null : (digit : ℕ) → is_number (digit ∷ []) ≡ true → digit < 256 → SpellsRows (codes "(" ++ (digit ∷ codes ",NULL)")) (spelled_row (digit ∷ []) Null None ∷ [])
spells_null digit is small = last_row {cells = digit ∷ codes ",NULL"} (next_cell {bytes = digit ∷ []} {rest = codes "NULL"} (spells_digit digit is small) (last_cell (spelled_back Text Null refl tt)) refl) refl

pub spells_three : SpellsRows (codes "(3,'c')") (spelled_row (codes "3") (Value (codes "c")) (Some Text) ∷ [])
spells_three = last_row {cells = codes "3,'c'"} (next_cell {bytes = codes "3"} {rest = codes "'c'"} (spells_digit 51 refl (omega arith)) (last_cell (spelled_back Text (Value (codes "c")) refl (one_byte 99 (omega arith)))) refl) refl

-- changes stand among themselves
pub alone_among : (changes : List Change) → StandAmong changes changes
alone_among changes = ([], all changes)
  where
    all : (changes : List Change) → Interleaves (changes ∷ [] ∷ []) changes
    all [] = none_left (All-cons (λ (list : List Change). list ≡ []) [] ([] ∷ []) refl (all_of_one (λ (list : List Change). list ≡ []) [] refl))
    all (change ∷ changes) = takes here (all changes)

-- a row that is spelled can be put into the table, where its key is new and the history stays sound
pub put_row : (state : State) (before : List (List Cell)) (key : List ℕ) (cell : Cell) (kind : Option CellKind) (spelled : List ℕ) → state.schema ≡ Some schema → state.pending ≡ None → db state.seen ≡ Some (with_rows before) → SpellsRows spelled (spelled_row key cell kind ∷ [])
    → are_numbers (plain_columns the_table.columns) (row key cell) ≡ true → are_spelled_for state.terms.server.prints (plain_columns the_table.columns) (spelled_row key cell kind) ≡ true → HasKeys the_table.columns 0 (before ++ row key cell ∷ [])
    → MayFollow state (unmarked (put (row key cell) ∷ []) ∷ []) → IsSound state.terms.server (state.seen ++ unmarked (put (row key cell) ∷ []) ∷ []) → Effect state (Insert (text_of spelled)) (with_own state (unmarked (put (row key cell) ∷ [])))
unfolding change_db
put_row state before key cell kind spelled current none stands spells numbers good keys follows sound = record {
  schema = schema;
  is_current = current;
  table = table;
  says = record { columns = plain_names the_table.columns; rows = spelled_row key cell kind ∷ [] };
  spells = record { body = spelled; text_is = refl; spells = spells };
  inserts = record {
    database = with_rows before;
    found = ap (λ (found : Option Database). option_and_then (λ (database : Database). changes_db database (open_changes state.pending)) found) stands ∙ ap (λ (pending : Option (List Change)). changes_db (with_rows before) (open_changes pending)) none;
    changes = put (row key cell) ∷ [];
    inserts = record {
      object = the_table;
      is_there = refl;
      all_columns = refl;
      rows = row key cell ∷ [];
      rows_are = refl;
      numbers = all_of_one (λ cells. are_numbers (plain_columns the_table.columns) cells ≡ true) (row key cell) numbers;
      spelled = all_of_one (λ cells. are_spelled_for state.terms.server.prints (plain_columns the_table.columns) cells ≡ true) (spelled_row key cell kind) good;
      keys = subst (λ (rows : List (List Cell)). HasKeys the_table.columns 0 (rows ++ row key cell ∷ [])) (sym (rows_are before)) keys;
      puts = alone_among (put (row key cell) ∷ []);
      plain = λ p. refl;
      new = with_row (with_rows before) schema table (row key cell);
      of_rows = a_row tt refl no_more;
    };
    goes = subst (λ (pending : Option (List Change)). GoesInto state pending (put (row key cell) ∷ []) (with_own state (unmarked (put (row key cell) ∷ [])))) (sym none) (record { one = unmarked (put (row key cell) ∷ []); changes_are = refl; follows = follows; sound = sound; new_is = refl });
  };
}

-- the row (3,'c') after the worked history
pub put_three : (guarded : Bool) → MayFollow (record worked { guarded = guarded }) (unmarked (put three ∷ []) ∷ []) → Handles (with_others (record worked { guarded = guarded }) []) (insert (codes "(3,'c')")) done (with_three (record worked { guarded = guarded }))
put_three guarded follows = put_row (with_others (record worked { guarded = guarded }) []) (one ∷ two ∷ []) (codes "3") (Value (codes "c")) (Some Text) (codes "(3,'c')") refl refl stands spells_three refl refl (keys_of (a ∷ []) (one ∷ two ∷ three ∷ []) (1 ∷ 2 ∷ 3 ∷ []) refl refl) follows sound_with_three
