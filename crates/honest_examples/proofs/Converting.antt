-- INSERTs of JSON texts.
use lib.Utf8.{encode}
use Rattle.std.proofs.Common.{◌≡◌, ◌<◌, ◌≤◌, ◌==◌, ◌&&◌, ◌||◌, not, ℕ, zero, suc, Bool, true, false, cond, List, [], ◌∷◌, ◌++◌, length, take, drop, get_or, Option, Some, None, refl, ap, sym, ◌∙◌, subst, arith, append_assoc, inl, inr, codes, length-append, bytes_eq, slice_index, All}
use Rattle.std.specs.List.{list_all}
use Rattle.std.specs.Str.{chars, is_utf8}
use Rattle.std.proofs.Math.Seq.{take-append_seam}
use Rattle.std.proofs.lemmas.Bool.{false≢true}
use Rattle.std.proofs.lemmas.List.{append_cancel_left}
use Rattle.std.proofs.lemmas.List.Elements.{All-cons, All-nil}
use Rattle.std.proofs.lemmas.List.Sums.{AllPass-from_list_all}
use Rattle.std.proofs.lemmas.Slice.Eq.{bytes_eq-Decides}
use Rattle.grammar.specs.Language.{Fixed, Longest, Or, Then}
use Rattle.grammar.proofs.Sets.{Starts}
use Rattle.object_forms.specs.Shape.{TableCounter, counter}
use Rattle.object_forms.specs.Token.{tokens}
use Rattle.object_forms.specs.declared.kind.Kind.TheVariants.{Table}
use Rattle.object_forms.specs.declared.shape.Column.{Column}
use Rattle.server_data.proofs.Counts.{and_left, and_right}
use Rattle.server_data.specs.Fold.{change_db, db, has_object, may_make, rows_of}
use Rattle.server_data.specs.declared.data.Change.{Change}
use Rattle.server_data.specs.declared.data.Change.TheVariants.{Make}
use Rattle.server_data.specs.declared.data.Database.{Database}
use Rattle.server_data.specs.declared.data.Object.{Object}
use Rattle.sql_cells.specs.Cell.{bytes_of}
use Rattle.sql_cells.specs.Name.{quoted_name}
use Rattle.sql_cells.specs.Number.{is_number}
use Rattle.sql_cells.specs.Spelling.{Converted, Literal, Null as NoCell, inside, text_value}
use Rattle.sql_cells.specs.declared.cell.Cell.{Cell}
use Rattle.sql_cells.specs.declared.cell.Cell.TheVariants.{Null, Value}
use Rattle.sql_cells.specs.declared.cell_kind.CellKind.{CellKind}
use Rattle.sql_cells.specs.declared.cell_kind.CellKind.TheVariants as Kind
use Rattle.sql_literals.proofs.CellKinds.{read_back}
use Rattle.sql_literals.proofs.HexReads.{starts_hex}
use Rattle.sql_literals.proofs.NumberReads.{IsNumberStart, starts_number}
use Rattle.sql_literals.proofs.TextReads.{starts_text}
use Rattle.statement_forms.specs.Text.{names}
use Rattle.honest_server.specs.Answer.{object_at}
use Rattle.honest_server.specs.Catalogue.{a_row, no_more}
use Rattle.honest_server.specs.Columns.{are_numbers, are_printed, is_printed, is_null, plain_columns, plain_names}
use Rattle.honest_server.specs.Insert.{Inserts, Insertion, SpelledCell, SpellsCell, SpellsCells, SpellsInsert, SpellsRows, are_spelled_for, is_converted, is_spelled_for, last_cell, last_row, next_cell, next_row}
use Rattle.honest_server.specs.Moves.{plainly}
use Rattle.honest_server.specs.Serve.{FitsNowhere, Handles, done, rows, refused}
use Rattle.honest_server.specs.State.{database_found_by, with_others, with_own}
use Rattle.honest_server.specs.WellFormed.{HasGoodMark, HasGoodRows, HasItsHead, HasKeys, IsCountedWhere, IsPrinted, IsShaped, IsSound, IsWellFormedObject, is_name}
use Rattle.honest_examples.specs.Effects.{insert, worked}
use Rattle.honest_examples.specs.JsonColumns.{AJsonCellIsSpelledAsItIsPrinted, JsonTextsAreAsTheyArePrinted, NoOtherCellIsSpelledAsJson, document, empty, holding, insert_cell, json_link, puts, row, table, table_text, the_table, unprinted, with_rows}
use Rattle.honest_examples.specs.Worked.{a, database, history, id, printed, schema, server, the_schema, unmarked}
use Rattle.honest_examples.proofs.Commanding.{free, inserts as worked_inserts, may_follow}
use Rattle.honest_examples.proofs.Inserting.{IsTheTable, alone_among, body_of, found_worked, in_schema, inserts_there, no_empty_literal, number, one_byte, only_table, spelled_back, spells_digit, text_of}
use Rattle.honest_examples.proofs.Serving.{IsAlone, refuses, serves_done}
use Rattle.honest_examples.proofs.Soundness.{all_of_one, good_schema, keys_of}
use Rattle.honest_examples.proofs.Worked.{schema_named}
use Rattle.plain_data.proofs.Options.{same_some}

-- the cell after a first one of one digit

-- the first of these cells, as the bytes spell it that some others follow
record BeginsSo (cells : List SpelledCell) (after : List ℕ) : Type 0 where
  first : SpelledCell
  others : List SpelledCell
  bytes : List ℕ
  rest : List ℕ
  cells_are : cells ≡ first ∷ others
  spells : SpellsCell bytes first
  whole : bytes ++ rest ≡ after

begins_so : {spelled : List ℕ} {cells : List SpelledCell} → SpellsCells spelled cells → (rest after : List ℕ) → spelled ++ rest ≡ after → BeginsSo cells after
begins_so (last_cell {bytes} {cell} spells) rest after whole = record { first = cell; others = []; bytes = bytes; rest = rest; cells_are = refl; spells = spells; whole = whole }
begins_so (next_cell {bytes} {rest = next} {whole = spelled} {cell} {cells} spells others is_whole) rest after whole = record { first = cell; others = cells; bytes = bytes; rest = codes "," ++ (next ++ rest); cells_are = refl; spells = spells; whole = joined }
  where
    joined : bytes ++ (codes "," ++ (next ++ rest)) ≡ after
    joined = sym (append_assoc bytes (codes ",") (next ++ rest)) ∙ (sym (append_assoc (bytes ++ codes ",") next rest) ∙ (ap (λ (front : List ℕ). front ++ rest) (sym is_whole) ∙ whole))

-- a digit that a comma follows is the only literal in front
longest_digit : (digit : ℕ) (after : List ℕ) → is_number (digit ∷ []) ≡ true → digit < 256 → Longest Literal (digit ∷ 44 ∷ after) 1
longest_digit digit after is small = (read_back Kind.Number (Some (digit ∷ [])) is (one_byte digit small)).whole (44 ∷ after) (inl refl)

digit_alone : (digit : ℕ) (after bytes rest : List ℕ) → is_number (digit ∷ []) ≡ true → digit < 256 → Literal bytes → bytes ++ rest ≡ digit ∷ 44 ∷ after → bytes ≡ digit ∷ []
digit_alone digit after [] rest is small literal whole = absurd (no_empty_literal literal)
digit_alone digit after (byte ∷ []) rest is small literal whole = cc
digit_alone digit after (byte ∷ next ∷ bytes) rest is small literal whole = absurd ((longest_digit digit after is small).longer (length (byte ∷ next ∷ bytes)) (omega arith) within (subst Literal front literal))
  where
    within : length (byte ∷ next ∷ bytes) ≤ length (digit ∷ 44 ∷ after)
    within = omega (arith, length-append (byte ∷ next ∷ bytes) rest, ap (λ (list : List ℕ). length list) whole)

    front : byte ∷ next ∷ bytes ≡ take (length (byte ∷ next ∷ bytes)) (digit ∷ 44 ∷ after)
    front = sym (take-append_seam (byte ∷ next ∷ bytes) rest) ∙ ap (take (length (byte ∷ next ∷ bytes))) whole

-- a row of which the second cell is spelled so
record HasSecond (cells : List SpelledCell) (after : List ℕ) : Type 0 where
  first : SpelledCell
  more : List SpelledCell
  cells_are : cells ≡ first ∷ more
  begins : BeginsSo more after

second_cell : {spelled : List ℕ} {cells : List SpelledCell} → SpellsCells spelled cells → (digit : ℕ) (after more : List ℕ) → is_number (digit ∷ []) ≡ true → digit < 256 → spelled ++ 41 ∷ more ≡ digit ∷ 44 ∷ after → HasSecond cells after
second_cell (last_cell {bytes} {cell} spells) digit after more is small whole = absurd (omega (arith, ap (λ (list : List ℕ). get_or list 1 0) (ap (λ (front : List ℕ). front ++ 41 ∷ more) (sym (digit_alone digit after bytes (41 ∷ more) is small spells.spells.literal whole)) ∙ whole)))
second_cell (next_cell {bytes} {rest = next} {whole = spelled} {cell} {cells} spells others is_whole) digit after more is small whole = record { first = cell; more = cells; cells_are = refl; begins = begins_so others (41 ∷ more) after left }
  where
    joined : bytes ++ (codes "," ++ (next ++ 41 ∷ more)) ≡ digit ∷ 44 ∷ after
    joined = sym (append_assoc bytes (codes ",") (next ++ 41 ∷ more)) ∙ (sym (append_assoc (bytes ++ codes ",") next (41 ∷ more)) ∙ (ap (λ (front : List ℕ). front ++ 41 ∷ more) (sym is_whole) ∙ whole))

    left : next ++ 41 ∷ more ≡ after
    left = ap (λ (list : List ℕ). drop 2 list) (ap (λ (front : List ℕ). front ++ (codes "," ++ (next ++ 41 ∷ more))) (sym (digit_alone digit after bytes (codes "," ++ (next ++ 41 ∷ more)) is small spells.spells.literal joined)) ∙ joined)

-- rows of which the first is such
record FirstHasSecond (found : List (List SpelledCell)) (after : List ℕ) : Type 0 where
  first : List SpelledCell
  others : List (List SpelledCell)
  rows_are : found ≡ first ∷ others
  has : HasSecond first after

first_row : {body : List ℕ} {found : List (List SpelledCell)} → SpellsRows body found → (digit : ℕ) (after : List ℕ) → is_number (digit ∷ []) ≡ true → digit < 256 → body ≡ 40 ∷ digit ∷ 44 ∷ after → FirstHasSecond found after
first_row (last_row {cells} {whole} {row} spells is_whole) digit after is small same = record { first = row; others = []; rows_are = refl; has = second_cell spells digit after [] is small (ap (λ (list : List ℕ). drop 1 list) (sym is_whole ∙ same)) }
first_row (next_row {cells} {rest} {whole} {row} {rows = others} spells later is_whole) digit after is small same = record { first = row; others = others; rows_are = refl; has = second_cell spells digit after (codes ",\n" ++ rest) is small (sym (append_assoc cells (codes "),\n") rest) ∙ ap (λ (list : List ℕ). drop 1 list) (sym is_whole ∙ same)) }

-- a cell that these bytes begin, and that fits into a column
record FitsInto (column : Column) (after : List ℕ) : Type 0 where
  cell : SpelledCell
  bytes : List ℕ
  rest : List ℕ
  spells : SpellsCell bytes cell
  whole : bytes ++ rest ≡ after
  good : is_spelled_for server.prints column cell ≡ true

fits_into : (one column : Column) (found : List (List SpelledCell)) (after : List ℕ) → FirstHasSecond found after → All (λ row. are_spelled_for server.prints (one ∷ column ∷ []) row ≡ true) found → FitsInto column after
fits_into one column found after has all = record { cell = second.first; bytes = second.bytes; rest = second.rest; spells = second.spells; whole = second.whole; good = and_left (is_spelled_for server.prints column second.first) (are_spelled_for server.prints [] second.others) (and_right (is_spelled_for server.prints one has.has.first) (is_spelled_for server.prints column second.first && are_spelled_for server.prints [] second.others) of_first) }
  where
    second : BeginsSo has.has.more after
    second = has.has.begins

    of_first : are_spelled_for server.prints (one ∷ column ∷ []) (has.has.first ∷ has.has.begins.first ∷ has.has.begins.others) ≡ true
    of_first = subst (λ (row : List SpelledCell). are_spelled_for server.prints (one ∷ column ∷ []) row ≡ true) (has.has.cells_are ∙ ap (λ (more : List SpelledCell). has.has.first ∷ more) has.has.begins.cells_are)
        ((subst (λ (found : List (List SpelledCell)). All (λ row. are_spelled_for server.prints (one ∷ column ∷ []) row ≡ true) found) has.rows_are all) 0 [] (omega arith))

-- what a cell is whose literal begins with a quote, or with a C

json_good : (cell : Cell) (kind : Option CellKind) (text : List ℕ) → bytes_of cell ≡ Some text → (is_null cell || (is_converted kind && is_printed server.prints document cell)) ≡ true → (is_converted kind && bytes_eq printed text) ≡ true
json_good Null kind text is good = cc (is)
json_good (Value bytes) kind text is good = subst (λ (bytes : List ℕ). (is_converted kind && bytes_eq printed bytes) ≡ true) (same_some is) good

no_text : (bytes rest after : List ℕ) (cell : SpelledCell) → SpellsCell bytes cell → bytes ++ rest ≡ 39 ∷ after → is_spelled_for server.prints document cell ≡ true → ⊥
no_text [] rest after cell spells whole good = no_empty_literal spells.spells.literal
no_text (byte ∷ bytes) rest after cell spells whole good = let is : byte ≡ 39 = cc in of_quote cell (subst (λ (byte : ℕ). SpellsCell (byte ∷ bytes) cell) is spells) good
  where
    of_quote : (cell : SpelledCell) → SpellsCell (39 ∷ bytes) cell → is_spelled_for server.prints document cell ≡ true → ⊥
    of_quote cell spells good = false≢true (subst (λ (kind : Option CellKind). (is_converted kind && bytes_eq printed (text_value (inside 1 1 (39 ∷ bytes)))) ≡ true) spells.kind (json_good cell.cell cell.kind (text_value (inside 1 1 (39 ∷ bytes))) spells.spells.cell_is good))

no_other : (bytes rest after : List ℕ) (cell : SpelledCell) → SpellsCell bytes cell → bytes ++ rest ≡ 67 ∷ after → is_spelled_for server.prints a cell ≡ true → ⊥
no_other [] rest after cell spells whole good = no_empty_literal spells.spells.literal
no_other (byte ∷ bytes) rest after cell spells whole good = let is : byte ≡ 67 = cc in false≢true (subst (λ (kind : Option CellKind). not (is_converted kind) ≡ true) ((subst (λ (byte : ℕ). SpellsCell (byte ∷ bytes) cell) is spells).kind) good)

-- a literal that begins with a C ends where its text does

abbrev other_than_u : List ℕ → Bool
other_than_u bytes = list_all (λ byte. not (byte == 85)) bytes

no_u : (bytes more rest : List ℕ) → other_than_u rest ≡ true → bytes ++ 85 ∷ more ≡ rest → ⊥
no_u [] more rest none is = false≢true (subst (λ (bytes : List ℕ). other_than_u bytes ≡ true) (sym is) none)
no_u (byte ∷ bytes) more [] none is = cc (is)
no_u (byte ∷ bytes) more (other ∷ rest) none is = no_u bytes more rest (and_right (not (other == 85)) (other_than_u rest) none) (cc (is))

before_u : (bytes more front rest : List ℕ) → other_than_u front ≡ true → other_than_u rest ≡ true → bytes ++ 85 ∷ more ≡ front ++ 85 ∷ rest → bytes ≡ front
before_u [] more [] rest none later is = refl
before_u [] more (byte ∷ front) rest none later is = let same : 85 ≡ byte = cc (is) in absurd (false≢true (subst (λ (byte : ℕ). not (byte == 85) ≡ true) (sym same) (and_left (not (byte == 85)) (other_than_u front) none)))
before_u (byte ∷ bytes) more [] rest none later is = absurd (no_u bytes more rest later (cc (is)))
before_u (byte ∷ bytes) more (other ∷ front) rest none later is = ap (λ (list : List ℕ). byte ∷ list) (before_u bytes more front rest (and_right (not (other == 85)) (other_than_u front) none) later (cc (is))) ∙ ap (λ (byte : ℕ). byte ∷ front) (cc (is))

no_number : IsNumberStart 67 → ⊥
no_number (inl minus) = omega (arith, minus)
no_number (inr digit) = false≢true digit

is_converted_literal : (bytes : List ℕ) → Literal (67 ∷ bytes) → Converted (67 ∷ bytes)
unfolding Literal Or Fixed Starts NoCell
is_converted_literal bytes (inl null) = absurd (omega (arith, ap (λ (list : List ℕ). get_or list 0 0) null))
is_converted_literal bytes (inr (inl numeral)) = absurd (no_number (starts_number 67 bytes numeral))
is_converted_literal bytes (inr (inr (inl text))) = absurd (omega (arith, starts_text 67 bytes text))
is_converted_literal bytes (inr (inr (inr (inl hex)))) = absurd (omega (arith, starts_hex 67 bytes hex))
is_converted_literal bytes (inr (inr (inr (inr converted)))) = converted

abbrev whole_literal : List ℕ
whole_literal = codes "CONVERT('[1,2]' USING utf8mb4)"

ends_so : (bytes rest : List ℕ) → Converted bytes → bytes ++ rest ≡ whole_literal ++ codes ")" → bytes ≡ whole_literal
unfolding Converted Then Fixed
ends_so bytes rest (opened, close, is, is_opened, is_close) whole = is ∙ (ap (λ (close : List ℕ). opened ++ close) is_close ∙ (sym (append_assoc opened (codes " ") (codes "USING utf8mb4)")) ∙ ap (λ (front : List ℕ). front ++ codes "USING utf8mb4)") front))
  where
    joined : (opened ++ codes " ") ++ 85 ∷ (codes "SING utf8mb4)" ++ rest) ≡ codes "CONVERT('[1,2]' " ++ 85 ∷ codes "SING utf8mb4))"
    joined = append_assoc opened (codes " ") (codes "USING utf8mb4)" ++ rest) ∙ (sym (append_assoc opened (codes " USING utf8mb4)") rest) ∙ (ap (λ (bytes : List ℕ). bytes ++ rest) (sym (is ∙ ap (λ (close : List ℕ). opened ++ close) is_close)) ∙ whole))

    front : opened ++ codes " " ≡ codes "CONVERT('[1,2]' "
    front = before_u (opened ++ codes " ") (codes "SING utf8mb4)" ++ rest) (codes "CONVERT('[1,2]' ") (codes "SING utf8mb4))") refl refl joined

no_unprinted : (bytes rest : List ℕ) (cell : SpelledCell) → SpellsCell bytes cell → bytes ++ rest ≡ whole_literal ++ codes ")" → is_spelled_for server.prints document cell ≡ true → ⊥
no_unprinted [] rest cell spells whole good = no_empty_literal spells.spells.literal
no_unprinted (byte ∷ bytes) rest cell spells whole good = of_whole (subst (λ (bytes : List ℕ). SpellsCell bytes cell) is spells) good
  where
    is_c : byte ≡ 67
    is_c = cc (whole)

    is : byte ∷ bytes ≡ whole_literal
    is = ends_so (byte ∷ bytes) rest (subst (λ (byte : ℕ). Converted (byte ∷ bytes)) (sym is_c) (is_converted_literal bytes (subst (λ (byte : ℕ). Literal (byte ∷ bytes)) is_c spells.spells.literal))) whole

    of_whole : SpellsCell whole_literal cell → is_spelled_for server.prints document cell ≡ true → ⊥
    of_whole spells good = false≢true (and_right (is_converted cell.kind) false (json_good cell.cell cell.kind unprinted spells.spells.cell_is good))

-- the table of JSON is the only one

only_json : (name : List ℕ) (object : Object) → object_at (with_rows []) Table schema name ≡ Some object → (name ≡ table) × (object ≡ the_table)
only_json name object found = by_test (bytes_eq table name) (bytes_eq-Decides table name).0 found
  where
    by_test : (same : Bool) → (same ≡ true → table ≡ name) → cond same (Some the_table) None ≡ Some object → (name ≡ table) × (object ≡ the_table)
    by_test true named found = (sym (named refl), cc)
    by_test false named found = absurd (cc)

abbrev json_text : List ℕ → List ℕ
json_text body = codes "INSERT INTO `j` (`id`,`d`) VALUES\n" ++ body

json_body : (body name : List ℕ) (says : Insertion) → (spells : SpellsInsert (json_text body) name says) → name ≡ table → says.columns ≡ plain_names the_table.columns → body ≡ spells.body
json_body body name says spells is_table all_columns = append_cancel_left (codes "INSERT INTO `j` (`id`,`d`) VALUES\n") body spells.body text
  where
    text : json_text body ≡ json_text spells.body
    text = spells.text_is ∙ (ap (λ (name : List ℕ). codes "INSERT INTO " ++ quoted_name name ++ codes " (" ++ names says.columns ++ codes ") VALUES\n" ++ spells.body) is_table ∙ ap (λ (columns : List (List ℕ)). codes "INSERT INTO " ++ quoted_name table ++ codes " (" ++ names columns ++ codes ") VALUES\n" ++ spells.body) all_columns)

-- the cell that an INSERT of such a row spells has to fit into its column
json_fits : (after name : List ℕ) (says : Insertion) (changes : List Change) → SpellsInsert (json_text (40 ∷ 49 ∷ 44 ∷ after)) name says → Inserts server (with_rows []) (in_schema name) says changes → FitsInto document after
json_fits after name says changes spells inserts = fits_into id document says.rows after (first_row spells.spells 49 after refl (omega arith) (sym (json_body (40 ∷ 49 ∷ 44 ∷ after) name says spells is.0 named))) all
  where
    is : (name ≡ table) × (inserts.object ≡ the_table)
    is = only_json name inserts.object inserts.is_there

    named : says.columns ≡ plain_names the_table.columns
    named = inserts.all_columns ∙ ap (λ (object : Object). plain_names object.columns) is.1

    all : All (λ row. are_spelled_for server.prints (id ∷ document ∷ []) row ≡ true) says.rows
    all = subst (λ (object : Object). All (λ row. are_spelled_for server.prints (plain_columns object.columns) row ≡ true) says.rows) is.1 inserts.spelled

found_json : database_found_by json_link ≡ Some (with_rows [])
unfolding change_db has_object may_make
found_json = refl

refused_cell : (spelled : List ℕ) → (FitsInto document (spelled ++ codes ")") → ⊥) → FitsNowhere plainly json_link (insert_cell spelled) []
refused_cell spelled never done new effect = never (json_fits (spelled ++ codes ")") effect.table effect.says effect.inserts.changes effect.spells
    (inserts_there effect.inserts.database effect.schema effect.table effect.says effect.inserts.changes (with_rows []) (same_some (sym effect.inserts.found ∙ found_json)) (same_some (sym effect.is_current)) effect.inserts.inserts))
refused_cell spelled never (rows found) new effect = effect
refused_cell spelled never (refused found refusal) new effect = effect

-- histories with a row of JSON

head : HasItsHead the_table
unfolding tokens
head = record { found = _; is_making = refl; kind = refl; name = refl; schema = tt; own = λ e. cc }

shape : IsShaped the_table
unfolding tokens is_utf8 chars encode
shape = record { found = _; is_shape = refl; columns = refl; key = refl }

no_counter : counter table_text ≡ None
unfolding tokens is_utf8 chars encode
no_counter = refl

named : is_name table ≡ true
unfolding is_utf8 chars encode
named = refl

rows_are : (found : List (List Cell)) → rows_of (with_rows found) schema table ≡ found
unfolding rows_of
rows_are [] = refl
rows_are (cells ∷ found) = ap (λ (found : List (List Cell)). cells ∷ found) (rows_are found)

keys : (cell : Cell) → HasKeys the_table.columns 0 (row cell ∷ [])
keys cell = keys_of (document ∷ []) (row cell ∷ []) (1 ∷ []) refl refl

good_table : (found : List (List Cell)) → list_all (are_numbers (plain_columns the_table.columns)) found ≡ true → HasKeys the_table.columns 0 found → IsWellFormedObject (with_rows found) the_table
good_table found numbers good_keys = record { named = named; in_schema = schema_named; head = head; settings = refl; shape = shape; table = tt; rows = subst (λ (found : List (List Cell)). HasGoodRows the_table found) (sym (rows_are found)) good; needs = All-nil _; rank = omega arith }
  where
    good : HasGoodRows the_table found
    good = record { numbers = AllPass-from_list_all _ found numbers; keys = good_keys; counted = subst (λ (told : Option TableCounter). IsCountedWhere the_table.columns told found) (sym no_counter) tt }

abbrev HasPrinted : List Cell → Type 0
HasPrinted cells = are_printed server.prints (plain_columns the_table.columns) cells ≡ true

-- the schema has no found
no_rows_of : (found : List (List Cell)) → rows_of (with_rows found) schema schema ≡ []
unfolding rows_of
no_rows_of [] = refl
no_rows_of (cells ∷ found) = no_rows_of found

printed_rows : (found : List (List Cell)) → All HasPrinted found → All (IsPrinted server.prints (with_rows found)) (the_schema ∷ the_table ∷ [])
printed_rows found all = All-cons (IsPrinted server.prints (with_rows found)) the_schema (the_table ∷ []) (subst (λ (found : List (List Cell)). All (λ row. are_printed server.prints [] row ≡ true) found) (sym (no_rows_of found)) (All-nil _))
    (all_of_one (IsPrinted server.prints (with_rows found)) the_table (subst (λ (found : List (List Cell)). All HasPrinted found) (sym (rows_are found)) all))

stands : (cell : Cell) → db (holding cell) ≡ Some (with_rows (row cell ∷ []))
unfolding change_db has_object may_make
stands cell = refl

sound : (cell : Cell) → are_numbers (plain_columns the_table.columns) (row cell) ≡ true → HasPrinted (row cell) → IsSound server (holding cell)
sound cell number_row good = record {
  database = with_rows (row cell ∷ []);
  stands = stands cell;
  well_formed = record { objects = All-cons (IsWellFormedObject (with_rows (row cell ∷ []))) the_schema (the_table ∷ []) (good_schema _) (all_of_one (IsWellFormedObject (with_rows (row cell ∷ []))) the_table (good_table (row cell ∷ []) (rw number_row refl) (keys cell))) };
  printed = printed_rows (row cell ∷ []) (all_of_one HasPrinted (row cell) good);
  marks = All-cons HasGoodMark (unmarked (Make the_schema ∷ [])) (unmarked (Make the_table ∷ []) ∷ unmarked (puts cell) ∷ []) tt (All-cons HasGoodMark (unmarked (Make the_table ∷ [])) (unmarked (puts cell) ∷ []) tt (all_of_one HasGoodMark (unmarked (puts cell)) tt));
}

not_sound : IsSound server (holding (Value unprinted)) → ⊥
not_sound wrong = false≢true (subst (λ (found : List (List Cell)). All HasPrinted found) (rows_are (row (Value unprinted) ∷ [])) of_table_rows 0 [] (omega arith))
  where
    of_end : All (IsPrinted server.prints (with_rows (row (Value unprinted) ∷ []))) (the_schema ∷ the_table ∷ [])
    of_end = subst (λ (end : Database). All (IsPrinted server.prints end) end.objects) (same_some (sym wrong.stands ∙ stands (Value unprinted))) wrong.printed

    of_table_rows : All HasPrinted (rows_of (with_rows (row (Value unprinted) ∷ [])) schema table)
    of_table_rows = of_end 1 the_table (omega arith)

pub as_printed : JsonTextsAreAsTheyArePrinted
as_printed = record { allowed = sound (Value printed) refl refl; null = sound Null refl refl; refused = not_sound }

-- an INSERT that fits
put_cell : (cell : Cell) (kind : Option CellKind) (spelled : List ℕ) → SpellsCell spelled (record { cell = cell; kind = kind }) → are_numbers (plain_columns the_table.columns) (row cell) ≡ true → HasPrinted (row cell) → is_spelled_for server.prints document (record { cell = cell; kind = kind }) ≡ true
    → Handles (with_others json_link []) (insert_cell spelled) done (with_own json_link (unmarked (puts cell)))
unfolding change_db has_object may_make rows_of
put_cell cell kind spelled spells number_row good fits = record {
  schema = schema;
  is_current = refl;
  table = table;
  says = record { columns = plain_names the_table.columns; rows = (number (codes "1") ∷ record { cell = cell; kind = kind } ∷ []) ∷ [] };
  spells = record { body = codes "(1," ++ (spelled ++ codes ")"); text_is = refl; spells = last_row {cells = codes "1," ++ spelled} (next_cell {bytes = codes "1"} {rest = spelled} (spells_digit 49 refl (omega arith)) (last_cell spells) refl) refl };
  inserts = record {
    database = with_rows [];
    found = refl;
    changes = puts cell;
    inserts = record {
      object = the_table;
      is_there = refl;
      all_columns = refl;
      rows = row cell ∷ [];
      rows_are = refl;
      numbers = all_of_one (λ cells. are_numbers (plain_columns the_table.columns) cells ≡ true) (row cell) number_row;
      spelled = all_of_one (λ cells. are_spelled_for server.prints (plain_columns the_table.columns) cells ≡ true) (number (codes "1") ∷ record { cell = cell; kind = kind } ∷ []) (rw fits refl);
      keys = keys cell;
      puts = alone_among (puts cell);
      plain = λ p. refl;
      new = with_rows (row cell ∷ []);
      of_rows = a_row tt refl no_more;
    };
    goes = record { one = unmarked (puts cell); changes_are = refl; follows = may_follow empty (Some schema) None (unmarked (puts cell) ∷ []); sound = sound cell number_row good; new_is = refl };
  };
}

json_alone : IsAlone json_link
json_alone = free empty (Some schema) false None None refl

small : (i : ℕ) → slice_index printed i < 256
small zero = omega arith
small (suc zero) = omega arith
small (suc (suc zero)) = omega arith
small (suc (suc (suc zero))) = omega arith
small (suc (suc (suc (suc zero)))) = omega arith
small (suc (suc (suc (suc (suc zero))))) = omega arith
small (suc (suc (suc (suc (suc (suc i)))))) = omega arith

pub as_it_is_printed : AJsonCellIsSpelledAsItIsPrinted
as_it_is_printed = record {
  allowed = serves_done json_link (insert_cell (codes "CONVERT('[1, 2]' USING utf8mb4)")) (with_own json_link (unmarked (puts (Value printed)))) json_alone (put_cell (Value printed) (Some Kind.Converted) (codes "CONVERT('[1, 2]' USING utf8mb4)") (spelled_back Kind.Converted (Value printed) refl small) refl refl refl);
  null = serves_done json_link (insert_cell (codes "NULL")) (with_own json_link (unmarked (puts Null))) json_alone (put_cell Null None (codes "NULL") (spelled_back Kind.Converted Null refl tt) refl refl refl);
  as_text = refuses json_link (insert_cell (codes "'[1, 2]'")) json_alone (refused_cell (codes "'[1, 2]'") (λ fits. no_text fits.bytes fits.rest (codes "[1, 2]')") fits.cell fits.spells fits.whole fits.good));
  not_printed = refuses json_link (insert_cell whole_literal) json_alone (refused_cell whole_literal (λ fits. no_unprinted fits.bytes fits.rest fits.cell fits.spells fits.whole fits.good));
}

-- in a column of another type

worked_fits : (after name : List ℕ) (says : Insertion) (changes : List Change) → SpellsInsert (text_of (40 ∷ 51 ∷ 44 ∷ after)) name says → Inserts server database (in_schema name) says changes → FitsInto a after
worked_fits after name says changes spells inserts = fits_into id a says.rows after (first_row spells.spells 51 after refl (omega arith) (sym (body_of (40 ∷ 51 ∷ 44 ∷ after) name says spells is.named all_names))) all
  where
    is : IsTheTable name inserts.object
    is = only_table name inserts.object inserts.is_there

    all_names : says.columns ≡ plain_names (id ∷ a ∷ [])
    all_names = inserts.all_columns ∙ ap (λ (object : Object). plain_names object.columns) is.is

    all : All (λ row. are_spelled_for server.prints (id ∷ a ∷ []) row ≡ true) says.rows
    all = subst (λ (object : Object). All (λ row. are_spelled_for server.prints (plain_columns object.columns) row ≡ true) says.rows) is.is inserts.spelled

not_as_json : FitsNowhere plainly worked (insert (codes "(3,CONVERT('c' USING utf8mb4))")) []
not_as_json done new effect = never (worked_fits (codes "CONVERT('c' USING utf8mb4))") effect.table effect.says effect.inserts.changes effect.spells
    (inserts_there effect.inserts.database effect.schema effect.table effect.says effect.inserts.changes database (same_some (sym effect.inserts.found ∙ found_worked)) (same_some (sym effect.is_current)) effect.inserts.inserts))
  where
    never : FitsInto a (codes "CONVERT('c' USING utf8mb4))") → ⊥
    never fits = no_other fits.bytes fits.rest (codes "ONVERT('c' USING utf8mb4))") fits.cell fits.spells fits.whole fits.good
not_as_json (rows found) new effect = effect
not_as_json (refused found refusal) new effect = effect

pub no_other_so : NoOtherCellIsSpelledAsJson
no_other_so = record { allowed = worked_inserts.allowed; refused = refuses worked (insert (codes "(3,CONVERT('c' USING utf8mb4))")) (free history (Some schema) false None None refl) not_as_json }
