-- The queries that texts are read as.
use Rattle.std.proofs.Common.{◌≡◌, ◌==◌, ◌||◌, ◌&&◌, ◌<◌, inl, inr, ℕ, arith, Bool, true, false, cond, if◌then◌else◌, List, [], ◌∷◌, ◌++◌, codes, get_or, length, refl, sym, ◌∙◌, ap, subst, bytes_eq, append_assoc, append-nil}
use Rattle.std.proofs.lemmas.Slice.Eq.{bytes_eq-Decides}
use Rattle.honest_server.specs.Answer.{progress_schema}
use Rattle.sql_cells.specs.Name.{quoted_name}
use Rattle.statement_forms.specs.Statement.{QueryHasText, InRange, IsTextOf, IsReadAs, IsWide, list_row}
use Rattle.statement_forms.specs.Text.{query_text, rows_from, by_key, one_after, names}
use Rattle.statement_forms.specs.declared.query.Query.{Query}
use Rattle.statement_forms.specs.declared.query.Query.TheVariants.{MasterStatus, BinaryLogStatus, Schemas, Tables, Columns, PrimaryKey, Triggers, Routines, ViewNeeds, Events, CreateDatabase, CreateTable, CreateView, CreateProcedure, CreateFunction, CreateTrigger, CreateEvent, Key, KeyAbove, Rows, RowsByKey, RowsAbove, RowsUpTo, RowsBetween, WideKey, WideKeyAbove, RowsByWideKey, RowsAboveWide, RowsUpToWide, RowsBetweenWide, ProgressDump, ProgressFiles}
use Rattle.statement_forms.specs.declared.statement.Statement.{Statement}
use Rattle.statement_forms.specs.declared.statement.Statement.TheVariants.{Query as SomeQuery}
use Rattle.statement_reading.proofs.NameValues.{names_cons, after_name}
use Rattle.statement_reading.proofs.RowValues.{values_of}
use Rattle.statement_reading.proofs.Rows.{made_of}
use Rattle.statement_laws.specs.Readings.{read_query, asks_progress, is_only_name}
use Rattle.statement_laws.proofs.Latest.{read_but, read_plain, is_row, row_is, or_cases, and_left, and_right}
use Rattle.statement_laws.proofs.Same.{one_in_row}
use Rattle.statement_laws.proofs.Scans.{scan, past_name}

-- one column or several in the order of the rows

abbrev every_byte : ℕ → Bool
every_byte byte = true

-- what stands after the first space
abbrev after_space : List ℕ → List ℕ
after_space [] = []
after_space (c ∷ t) = if c == 32 then t else after_space t

-- what stands outside of names after the first space
abbrev after_names : List ℕ → List ℕ
after_names t = after_space (scan every_byte false t)

past_list : (parts : List (List ℕ)) (t : List ℕ) → after_names (names parts ++ t) ≡ after_names t → after_names (after_name parts ++ t) ≡ after_names t
past_list [] t more = refl
past_list (next ∷ parts) t more = more

past_columns : (parts : List (List ℕ)) (t : List ℕ) → after_names (names parts ++ t) ≡ after_names t
past_columns [] t = refl
past_columns (one ∷ parts) t =
    ap (λ (l : List ℕ). after_names (l ++ t)) (names_cons one parts)
    ∙ ap after_names (append_assoc (quoted_name one) (after_name parts) t)
    ∙ ap after_space (past_name every_byte one (after_name parts ++ t))
    ∙ past_list parts t (past_columns parts t)

-- the byte after the words of the order
abbrev next_byte : List ℕ → ℕ
next_byte text = get_or (after_space (after_names text)) 16 0

flat : (w columns f s d n rest : List ℕ) → (((w ++ columns) ++ f) ++ ((s ++ d) ++ n)) ++ rest ≡ w ++ (columns ++ (f ++ (s ++ (d ++ (n ++ rest)))))
flat w columns f s d n rest = simp append_assoc

order_next : (columns : List (List ℕ)) (schema table rest : List ℕ) → next_byte (rows_from columns schema table ++ (codes " ORDER BY " ++ rest)) ≡ get_or (scan every_byte false rest) 0 0
order_next columns schema table rest =
    ap next_byte (flat (codes "SELECT ") (names columns) (codes " FROM ") (quoted_name schema) (codes ".") (quoted_name table) (codes " ORDER BY " ++ rest))
    ∙ ap (λ (l : List ℕ). get_or l 16 0) (past_columns columns (codes " FROM " ++ (quoted_name schema ++ (codes "." ++ (quoted_name table ++ (codes " ORDER BY " ++ rest))))))
    ∙ ap (λ (l : List ℕ). get_or (codes "FROM " ++ l) 16 0) (past_name every_byte schema (codes "." ++ (quoted_name table ++ (codes " ORDER BY " ++ rest))))
    ∙ ap (λ (l : List ℕ). get_or (codes "FROM ." ++ l) 16 0) (past_name every_byte table (codes " ORDER BY " ++ rest))

-- one name is followed by what follows it, and several by a comma
one_next : (key rest : List ℕ) → get_or (scan every_byte false (quoted_name key ++ rest)) 0 0 ≡ get_or (scan every_byte false rest) 0 0
one_next key rest = ap (λ (l : List ℕ). get_or l 0 0) (past_name every_byte key rest)

wide_next : (keys : List (List ℕ)) (rest : List ℕ) → IsWide keys → get_or (scan every_byte false (names keys ++ rest)) 0 0 ≡ 44
wide_next [] rest wide = absurd (omega (arith, wide.0))
wide_next (one ∷ []) rest wide = absurd (omega (arith, wide.0))
wide_next (one ∷ other ∷ keys) rest wide =
    ap (λ (l : List ℕ). get_or (scan every_byte false l) 0 0) (append_assoc (quoted_name one) (44 ∷ names (other ∷ keys)) rest)
    ∙ ap (λ (l : List ℕ). get_or l 0 0) (past_name every_byte one (44 ∷ (names (other ∷ keys) ++ rest)))

key_next : (key schema table : List ℕ) (skipped : ℕ) → next_byte (query_text (Key key schema table skipped)) ≡ 32
unfolding query_text
key_next key schema table skipped =
    ap next_byte (append_assoc (rows_from (key ∷ []) schema table) (by_key key) (one_after skipped))
    ∙ order_next (key ∷ []) schema table (quoted_name key ++ one_after skipped)
    ∙ one_next key (one_after skipped)

wide_key_next : (keys : List (List ℕ)) (schema table : List ℕ) (skipped : ℕ) → IsWide keys → next_byte (query_text (WideKey keys schema table skipped)) ≡ 44
unfolding query_text
wide_key_next keys schema table skipped wide =
    ap next_byte (append_assoc (rows_from keys schema table) (codes " ORDER BY " ++ names keys) (one_after skipped))
    ∙ order_next keys schema table (names keys ++ one_after skipped)
    ∙ wide_next keys (one_after skipped) wide

rows_by_key_next : (columns : List (List ℕ)) (schema table key : List ℕ) → next_byte (query_text (RowsByKey columns schema table key)) ≡ 0
unfolding query_text
rows_by_key_next columns schema table key =
    order_next columns schema table (quoted_name key)
    ∙ ap (λ (l : List ℕ). get_or (scan every_byte false l) 0 0) (sym (append-nil (quoted_name key))) ∙ one_next key []

rows_by_wide_key_next : (columns : List (List ℕ)) (schema table : List ℕ) (keys : List (List ℕ)) → IsWide keys → next_byte (query_text (RowsByWideKey columns schema table keys)) ≡ 44
unfolding query_text
rows_by_wide_key_next columns schema table keys wide =
    order_next columns schema table (names keys)
    ∙ ap (λ (l : List ℕ). get_or (scan every_byte false l) 0 0) (sym (append-nil (names keys))) ∙ wide_next keys [] wide

text_made : (query : Query) (other : Statement) (text : List ℕ) → other ≡ SomeQuery query → IsTextOf other text → QueryHasText query × (text ≡ query_text query)
text_made query other text is also = let there : IsTextOf (SomeQuery query) text = subst (λ (k : Statement). IsTextOf k text) is also in (there.0, there.2)

not_comma : (n : ℕ) (text : List ℕ) → next_byte text ≡ n → n < 44 → next_byte text ≡ 44 → ⊥
not_comma n text is less other = omega (arith, is, other)

no_wide_key : (key schema table : List ℕ) (skipped : ℕ) (other : Statement) → is_row 51 (list_row other) ≡ true → IsTextOf other (query_text (Key key schema table skipped)) → ⊥
no_wide_key key schema table skipped other here also =
    let v = values_of other in
    let text = query_text (Key key schema table skipped) in
    let there : QueryHasText (WideKey v.keys v.a v.b v.n) × (text ≡ query_text (WideKey v.keys v.a v.b v.n)) =
    text_made (WideKey v.keys v.a v.b v.n) other text (made_of 51 other (row_is 51 (list_row other) here)) also in
    not_comma 32 text (key_next key schema table skipped) (omega arith)
    (ap next_byte there.1 ∙ wide_key_next v.keys v.a v.b v.n there.0)

no_rows_by_wide_key : (columns : List (List ℕ)) (schema table key : List ℕ) (other : Statement) → is_row 53 (list_row other) ≡ true → IsTextOf other (query_text (RowsByKey columns schema table key)) → ⊥
no_rows_by_wide_key columns schema table key other here also =
    let v = values_of other in
    let text = query_text (RowsByKey columns schema table key) in
    let there : QueryHasText (RowsByWideKey v.columns v.a v.b v.keys) × (text ≡ query_text (RowsByWideKey v.columns v.a v.b v.keys)) =
    text_made (RowsByWideKey v.columns v.a v.b v.keys) other text (made_of 53 other (row_is 53 (list_row other) here)) also in
    not_comma 0 text (rows_by_key_next columns schema table key) (omega arith)
    (ap next_byte there.1 ∙ rows_by_wide_key_next v.columns v.a v.b v.keys there.0.1)

-- the queries for a load's progress

no_files : (other : Statement) → is_row 58 (list_row other) ≡ true → IsTextOf other (query_text ProgressDump) → ⊥
unfolding query_text
no_files other here also =
    differ (ap (λ (l : List ℕ). get_or l 8 0) (text_made ProgressFiles other (query_text ProgressDump) (made_of 58 other (row_is 58 (list_row other) here)) also).1) where
      differ : ◌≡◌ {A = ℕ} 100 110 → ⊥
      differ e = omega (arith, e)

dump_rows : query_text ProgressDump ≡ query_text (Rows (codes "digest" ∷ []) progress_schema (codes "dump"))
unfolding query_text
dump_rows = refl

files_rows : query_text ProgressFiles ≡ query_text (Rows (codes "name" ∷ []) progress_schema (codes "files"))
unfolding query_text
files_rows = refl

dump_is_read : IsReadAs (query_text ProgressDump) (SomeQuery ProgressDump)
dump_is_read = read_but (is_row 58) (SomeQuery ProgressDump) (query_text ProgressDump) (tt, tt, refl) refl (λ other here more also. no_files other here also)

files_are_read : IsReadAs (query_text ProgressFiles) (SomeQuery ProgressFiles)
files_are_read = read_plain (SomeQuery ProgressFiles) (query_text ProgressFiles) (tt, tt, refl) refl refl

-- whether a query for all rows asks for this column of this table of a load's progress
abbrev asks : List ℕ → List ℕ → Statement → Bool
asks column name s = asks_progress column name (values_of s).columns (values_of s).a (values_of s).b

own_bytes : (bytes : List ℕ) → bytes_eq bytes bytes ≡ true
own_bytes bytes = (bytes_eq-Decides bytes bytes).1 refl

asks_own : (column name : List ℕ) → asks_progress column name (column ∷ []) progress_schema name ≡ true
asks_own column name =
    ap (λ (q : Bool). q && (bytes_eq progress_schema progress_schema && bytes_eq name name)) (own_bytes column)
    ∙ ap (λ (q : Bool). q && bytes_eq name name) (own_bytes progress_schema) ∙ own_bytes name

-- rows with the text of those of a load's progress are those
same_rows : (column name : List ℕ) (columns : List (List ℕ)) (schema table text : List ℕ) → IsTextOf (SomeQuery (Rows columns schema table)) text → text ≡ query_text (Rows (column ∷ []) progress_schema name) → asks_progress column name columns schema table ≡ true
same_rows column name columns schema table text is same =
    let rows = SomeQuery (Rows (column ∷ []) progress_schema name) in
    let one : SomeQuery (Rows columns schema table) ≡ rows =
    one_in_row rows (SomeQuery (Rows columns schema table)) text (omega arith, tt, same) is refl in
    ap (asks column name) one ∙ asks_own column name

only_name : (name : List ℕ) (columns : List (List ℕ)) → is_only_name name columns ≡ true → columns ≡ name ∷ []
only_name name [] e = absurd (cc e)
only_name name (one ∷ []) e = ap (λ (l : List ℕ). l ∷ []) ((bytes_eq-Decides one name).0 e)
only_name name (one ∷ other ∷ others) e = absurd (cc e)

-- rows that ask for those of a load's progress have their text
pub asked_rows : (column name : List ℕ) (columns : List (List ℕ)) (schema table : List ℕ) → asks_progress column name columns schema table ≡ true → Rows columns schema table ≡ Rows (column ∷ []) progress_schema name
asked_rows column name columns schema table e =
    let c : columns ≡ column ∷ [] = only_name column columns (and_left _ _ e) in
    let s : schema ≡ progress_schema = (bytes_eq-Decides schema progress_schema).0 (and_left _ _ (and_right (is_only_name column columns) _ e)) in
    let t : table ≡ name = (bytes_eq-Decides table name).0 (and_right (bytes_eq schema progress_schema) _ (and_right (is_only_name column columns) _ e)) in
    (λ i. Rows (c i) (s i) (t i))

-- the rows of the queries for a load's progress
abbrev is_progress_row : ℕ → Bool
is_progress_row m = is_row 57 m || is_row 58 m

no_progress : (columns : List (List ℕ)) (schema table : List ℕ) → 0 < length columns → asks_progress (codes "digest") (codes "dump") columns schema table ≡ false → asks_progress (codes "name") (codes "files") columns schema table ≡ false → (other : Statement) → is_progress_row (list_row other) ≡ true → IsTextOf other (query_text (Rows columns schema table)) → ⊥
no_progress columns schema table some p q other here also = elim (or_cases _ _ here) [
  | inl dump ↦ wrong (sym p ∙ same_rows (codes "digest") (codes "dump") columns schema table _ (some, tt, refl) ((text_made ProgressDump other (query_text (Rows columns schema table)) (made_of 57 other (row_is 57 (list_row other) dump)) also).1 ∙ dump_rows))
  | inr files ↦ wrong (sym q ∙ same_rows (codes "name") (codes "files") columns schema table _ (some, tt, refl) ((text_made ProgressFiles other (query_text (Rows columns schema table)) (made_of 58 other (row_is 58 (list_row other) files)) also).1 ∙ files_rows))
] where
  wrong : false ≡ true → ⊥
  wrong h = cc

rows_are_read : (columns : List (List ℕ)) (schema table : List ℕ) → 0 < length columns → (a b : Bool) → asks_progress (codes "digest") (codes "dump") columns schema table ≡ a → asks_progress (codes "name") (codes "files") columns schema table ≡ b → IsReadAs (query_text (Rows columns schema table)) (SomeQuery (cond a ProgressDump (cond b ProgressFiles (Rows columns schema table))))
rows_are_read columns schema table some true b p q = subst (λ (l : List ℕ). IsReadAs l (SomeQuery ProgressDump)) (dump_rows ∙ ap query_text (sym (asked_rows (codes "digest") (codes "dump") columns schema table p))) dump_is_read
rows_are_read columns schema table some false true p q = subst (λ (l : List ℕ). IsReadAs l (SomeQuery ProgressFiles)) (files_rows ∙ ap query_text (sym (asked_rows (codes "name") (codes "files") columns schema table q))) files_are_read
rows_are_read columns schema table some false false p q =
    read_but is_progress_row (SomeQuery (Rows columns schema table)) (query_text (Rows columns schema table)) (some, tt, refl) refl
    (λ other here more also. no_progress columns schema table some p q other here also)

-- The text of a query is read as a query.
pub query_is_read : (query : Query) → QueryHasText query → InRange query → IsReadAs (query_text query) (SomeQuery (read_query query))
query_is_read MasterStatus has range = read_plain (SomeQuery MasterStatus) (query_text MasterStatus) (has, range, refl) refl refl
query_is_read BinaryLogStatus has range = read_plain (SomeQuery BinaryLogStatus) (query_text BinaryLogStatus) (has, range, refl) refl refl
query_is_read Schemas has range = read_plain (SomeQuery Schemas) (query_text Schemas) (has, range, refl) refl refl
query_is_read (Tables schema) has range = read_plain (SomeQuery (Tables schema)) (query_text (Tables schema)) (has, range, refl) refl refl
query_is_read (Columns schema table) has range = read_plain (SomeQuery (Columns schema table)) (query_text (Columns schema table)) (has, range, refl) refl refl
query_is_read (PrimaryKey schema table) has range = read_plain (SomeQuery (PrimaryKey schema table)) (query_text (PrimaryKey schema table)) (has, range, refl) refl refl
query_is_read (Triggers schema) has range = read_plain (SomeQuery (Triggers schema)) (query_text (Triggers schema)) (has, range, refl) refl refl
query_is_read (Routines schema) has range = read_plain (SomeQuery (Routines schema)) (query_text (Routines schema)) (has, range, refl) refl refl
query_is_read (ViewNeeds schema) has range = read_plain (SomeQuery (ViewNeeds schema)) (query_text (ViewNeeds schema)) (has, range, refl) refl refl
query_is_read (Events schema) has range = read_plain (SomeQuery (Events schema)) (query_text (Events schema)) (has, range, refl) refl refl
query_is_read (CreateDatabase schema) has range = read_plain (SomeQuery (CreateDatabase schema)) (query_text (CreateDatabase schema)) (has, range, refl) refl refl
query_is_read (CreateTable schema name) has range = read_plain (SomeQuery (CreateTable schema name)) (query_text (CreateTable schema name)) (has, range, refl) refl refl
query_is_read (CreateView schema name) has range = read_plain (SomeQuery (CreateView schema name)) (query_text (CreateView schema name)) (has, range, refl) refl refl
query_is_read (CreateProcedure schema name) has range = read_plain (SomeQuery (CreateProcedure schema name)) (query_text (CreateProcedure schema name)) (has, range, refl) refl refl
query_is_read (CreateFunction schema name) has range = read_plain (SomeQuery (CreateFunction schema name)) (query_text (CreateFunction schema name)) (has, range, refl) refl refl
query_is_read (CreateTrigger schema name) has range = read_plain (SomeQuery (CreateTrigger schema name)) (query_text (CreateTrigger schema name)) (has, range, refl) refl refl
query_is_read (CreateEvent schema name) has range = read_plain (SomeQuery (CreateEvent schema name)) (query_text (CreateEvent schema name)) (has, range, refl) refl refl
query_is_read (Key key schema table skipped) has range = read_but (is_row 51) (SomeQuery (Key key schema table skipped)) (query_text (Key key schema table skipped)) (has, range, refl) refl (λ other here more also. no_wide_key key schema table skipped other here also)
query_is_read (KeyAbove key schema table above skipped) has range = read_plain (SomeQuery (KeyAbove key schema table above skipped)) (query_text (KeyAbove key schema table above skipped)) (has, range, refl) refl refl
query_is_read (Rows columns schema table) has range = rows_are_read columns schema table has _ _ refl refl
query_is_read (RowsByKey columns schema table key) has range = read_but (is_row 53) (SomeQuery (RowsByKey columns schema table key)) (query_text (RowsByKey columns schema table key)) (has, range, refl) refl (λ other here more also. no_rows_by_wide_key columns schema table key other here also)
query_is_read (RowsAbove columns schema table key above) has range = read_plain (SomeQuery (RowsAbove columns schema table key above)) (query_text (RowsAbove columns schema table key above)) (has, range, refl) refl refl
query_is_read (RowsUpTo columns schema table key up_to) has range = read_plain (SomeQuery (RowsUpTo columns schema table key up_to)) (query_text (RowsUpTo columns schema table key up_to)) (has, range, refl) refl refl
query_is_read (RowsBetween columns schema table key above up_to) has range = read_plain (SomeQuery (RowsBetween columns schema table key above up_to)) (query_text (RowsBetween columns schema table key above up_to)) (has, range, refl) refl refl
query_is_read (WideKey keys schema table skipped) has range = read_plain (SomeQuery (WideKey keys schema table skipped)) (query_text (WideKey keys schema table skipped)) (has, range, refl) refl refl
query_is_read (WideKeyAbove keys schema table above skipped) has range = read_plain (SomeQuery (WideKeyAbove keys schema table above skipped)) (query_text (WideKeyAbove keys schema table above skipped)) (has, range, refl) refl refl
query_is_read (RowsByWideKey columns schema table keys) has range = read_plain (SomeQuery (RowsByWideKey columns schema table keys)) (query_text (RowsByWideKey columns schema table keys)) (has, range, refl) refl refl
query_is_read (RowsAboveWide columns schema table keys above) has range = read_plain (SomeQuery (RowsAboveWide columns schema table keys above)) (query_text (RowsAboveWide columns schema table keys above)) (has, range, refl) refl refl
query_is_read (RowsUpToWide columns schema table keys up_to) has range = read_plain (SomeQuery (RowsUpToWide columns schema table keys up_to)) (query_text (RowsUpToWide columns schema table keys up_to)) (has, range, refl) refl refl
query_is_read (RowsBetweenWide columns schema table keys above up_to) has range = read_plain (SomeQuery (RowsBetweenWide columns schema table keys above up_to)) (query_text (RowsBetweenWide columns schema table keys above up_to)) (has, range, refl) refl refl
query_is_read ProgressDump has range = dump_is_read
query_is_read ProgressFiles has range = files_are_read
