-- The rows and the marks of data files: how often each row stands in a table once they are put.
use Rattle.std.proofs.Common.{◌≡◌, ℕ, ◌+◌, arith, Bool, true, false, ◌&&◌, cond, List, [], ◌∷◌, ◌++◌, Some, None, refl, ap, sym, ◌∙◌, subst, bytes_eq}
use Rattle.std.specs.Prelude.{All, count_by, filter_map, map, option_and_then, sum_by}
use Rattle.std.specs.List.{cons_option, list_all}
use Rattle.std.proofs.lemmas.List.Elements.{All-cons, All-nil, filter_map-append}
use Rattle.std.proofs.lemmas.List.Folds.{list_all-append}
use Rattle.std.proofs.lemmas.List.Sums.{sum_by-append, sum_by-cons}
use Rattle.folder_meaning.specs.Loading.{IsInOrder, LoadRows, LoadingAt, MarkLines, PutsFile, digest_row, digest_table, loaded_rows, loading, mark_row, marks_table, next_mark, next_rows, no_marks, no_rows, progress_objects, progress_rows, puts_into}
use Rattle.folder_meaning.specs.Plan.{LoadPlan, PlanLine}
use Rattle.history_laws.proofs.Balance.{Pass, pass_whole, puts_commute, sum_whole}
use Rattle.history_laws.specs.Laws.{PutsRows, is_put, only_puts, row_into, rows_into}
use Rattle.honest_server.specs.Answer.{progress_schema}
use Rattle.link_traits.specs.Contents.{File}
use Rattle.load_laws.specs.LoadLaws.{PutFiles, PutFilesOfEach, WorkersGoOn, all_lines, next_file, next_worker, no_files, no_workers}
use Rattle.plain_data.proofs.Options.{same_some}
use Rattle.server_data.proofs.Counts.{and_both, count_front, count_none}
use Rattle.server_data.specs.Agree.{Agree, is_before, object_eq}
use Rattle.server_data.specs.Bag.{count_of}
use Rattle.server_data.specs.Equal.{row_eq}
use Rattle.server_data.specs.Fold.{changes_db, is_of_table, more_db, rows_in, rows_of}
use Rattle.server_data.specs.History.{Interleaves, here, none_left, takes}
use Rattle.server_data.specs.declared.data.Change.{Change}
use Rattle.server_data.specs.declared.data.Change.TheVariants.{Put}
use Rattle.server_data.specs.declared.data.Database.{Database}
use Rattle.server_data.specs.declared.data.TableRows.{TableRows}
use Rattle.server_data.specs.declared.data.Transaction.{Transaction}
use Rattle.sql_cells.specs.declared.cell.Cell.{Cell}

abbrev Rows : Type 0
Rows = List (List Cell)

-- rows are counted in lists one after the other, and in tables one after the other

count_join : (row : List Cell) (front after : Rows) → count_of row (front ++ after) ≡ count_of row front + count_of row after
unfolding count_of
count_join row front after = sum_by-append (λ (other : List Cell). cond (row_eq row other) 1 0) front after

count_where : (row : List Cell) (b : Bool) (rows : Rows) → count_of row (cond b rows []) ≡ cond b (count_of row rows) 0
count_where row false rows = count_none row
count_where row true rows = refl

pub count_tables : (row : List Cell) (schema name : List ℕ) (front after : List TableRows) → count_of row (rows_in schema name (front ++ after)) ≡ count_of row (rows_in schema name front) + count_of row (rows_in schema name after)
count_tables row schema name [] after = let none = count_none row in omega arith
count_tables row schema name (one ∷ front) after =
    let whole = count_front row schema name one (front ++ after) in
    let first = count_front row schema name one front in
    let rest = count_tables row schema name front after in
    omega arith

-- two lists of rows of one table
sum_where : (b : Bool) (one other both : ℕ) → both ≡ one + other → cond b both 0 ≡ cond b one 0 + cond b other 0
sum_where false one other both e = omega arith
sum_where true one other both e = e

-- marks and rows at the ends of those that are there
abbrev tables : Rows → List TableRows → List TableRows
tables marks rows = progress_rows marks_table marks ∷ rows

count_more : (row : List Cell) (schema name : List ℕ) (marks more : Rows) (rows others : List TableRows)
    → count_of row (rows_in schema name (tables (marks ++ more) (rows ++ others))) ≡ count_of row (rows_in schema name (tables marks rows)) + count_of row (rows_in schema name (tables more others))
count_more row schema name marks more rows others =
    let whole = count_front row schema name (progress_rows marks_table (marks ++ more)) (rows ++ others) in
    let first = count_front row schema name (progress_rows marks_table marks) rows in
    let second = count_front row schema name (progress_rows marks_table more) others in
    let rest = count_tables row schema name rows others in
    let same = sum_where (is_of_table schema name (progress_rows marks_table [])) (count_of row marks) (count_of row more) (count_of row (marks ++ more)) (count_join row marks more) in
    omega arith

count_with : (row : List Cell) (schema name : List ℕ) (front : List TableRows) (digest : TableRows) (marks more : Rows) (rows others : List TableRows)
    → count_of row (rows_in schema name (front ++ digest ∷ tables (marks ++ more) (rows ++ others))) ≡ count_of row (rows_in schema name (front ++ digest ∷ tables marks rows)) + count_of row (rows_in schema name (tables more others))
count_with row schema name front digest marks more rows others =
    let whole = count_tables row schema name front (digest ∷ tables (marks ++ more) (rows ++ others)) in
    let old = count_tables row schema name front (digest ∷ tables marks rows) in
    let whole_digest = count_front row schema name digest (tables (marks ++ more) (rows ++ others)) in
    let old_digest = count_front row schema name digest (tables marks rows) in
    let rest = count_more row schema name marks more rows others in
    omega arith

-- what is put

-- how often transactions and changes put each row into each table
abbrev pub put_count : List ℕ → List ℕ → List Cell → List Change → ℕ
put_count schema name row changes = count_of row (filter_map (row_into schema name) changes)

abbrev pub put_by_one : List ℕ → List ℕ → List Cell → Transaction → ℕ
put_by_one schema name row one = put_count schema name row one.changes

-- the lines' rows and marks are what is put so often
pub record Loads (files : List File) (lines : List PlanLine) (put : List ℕ → List ℕ → List Cell → ℕ) : Type 0 where
  pub rows : List TableRows
  pub are_loaded : LoadRows files lines rows
  pub marks : Rows
  pub are_marked : MarkLines lines marks
  pub counts : (schema name : List ℕ) (row : List Cell) → put schema name row ≡ count_of row (rows_in schema name (tables marks rows))

rows_loaded : {files : List File} {lines others : List PlanLine} {rows more : List TableRows} → LoadRows files lines rows → LoadRows files others more → LoadRows files (lines ++ others) (rows ++ more)
rows_loaded no_rows after = after
rows_loaded (next_rows whole front) after = next_rows whole (rows_loaded front after)

lines_marked : {lines others : List PlanLine} {marks more : Rows} → MarkLines lines marks → MarkLines others more → MarkLines (lines ++ others) (marks ++ more)
lines_marked no_marks after = after
lines_marked (next_mark named front) after = next_mark named (lines_marked front after)

no_loads : (files : List File) → Loads files [] (λ schema name row. 0)
no_loads files = record { rows = []; are_loaded = no_rows; marks = []; are_marked = no_marks; counts = none }
  where
    none : (schema name : List ℕ) (row : List Cell) → 0 ≡ count_of row (rows_in schema name (tables [] []))
    none schema name row = by_test (is_of_table schema name (progress_rows marks_table []))
      where
        by_test : (b : Bool) → 0 ≡ count_of row (cond b [] [])
        by_test false = sym (count_none row)
        by_test true = sym (count_none row)

both_load : (files : List File) (lines others : List PlanLine) (put more whole : List ℕ → List ℕ → List Cell → ℕ) → Loads files lines put → Loads files others more → ((schema name : List ℕ) (row : List Cell) → whole schema name row ≡ put schema name row + more schema name row)
    → Loads files (lines ++ others) whole
both_load files lines others put more whole one other both = record {
  rows = one.rows ++ other.rows;
  are_loaded = rows_loaded one.are_loaded other.are_loaded;
  marks = one.marks ++ other.marks;
  are_marked = lines_marked one.are_marked other.are_marked;
  counts = λ schema name row.
      let sum = both schema name row in
      let first = one.counts schema name row in
      let second = other.counts schema name row in
      let join = count_more row schema name one.marks other.marks one.rows other.rows in
      omega arith;
}

abbrev no_row : Rows
no_row = []

-- the rows that are put into one table
puts_rows : (schema name table_schema table_name : List ℕ) (rows : Rows) → filter_map (row_into schema name) (map (λ (row : List Cell). Put table_schema table_name row) rows) ≡ cond (bytes_eq table_schema schema && bytes_eq table_name name) rows []
puts_rows schema name table_schema table_name [] = by_test (bytes_eq table_schema schema && bytes_eq table_name name)
  where
    by_test : (b : Bool) → no_row ≡ cond b no_row no_row
    by_test false = refl
    by_test true = refl
puts_rows schema name table_schema table_name (one ∷ rows) = by_test (bytes_eq table_schema schema && bytes_eq table_name name) (filter_map (row_into schema name) (map (λ (row : List Cell). Put table_schema table_name row) rows)) (puts_rows schema name table_schema table_name rows)
  where
    by_test : (b : Bool) (rest : Rows) → rest ≡ cond b rows [] → cons_option (cond b (Some one) None) rest ≡ cond b (one ∷ rows) []
    by_test false rest e = e
    by_test true rest e = ap (λ (others : Rows). one ∷ others) e

pub put_rows_count : (schema name : List ℕ) (row : List Cell) (table : TableRows) → put_count schema name row (puts_into table) ≡ cond (is_of_table schema name table) (count_of row table.rows) 0
put_rows_count schema name row table = ap (count_of row) (puts_rows schema name table.table.schema table.table.name table.rows) ∙ count_where row (is_of_table schema name table) table.rows

put_join : (schema name : List ℕ) (row : List Cell) (front after : List Change) → put_count schema name row (front ++ after) ≡ put_count schema name row front + put_count schema name row after
put_join schema name row front after =
    ap (count_of row) (filter_map-append (row_into schema name) front after)
    ∙ count_join row (filter_map (row_into schema name) front) (filter_map (row_into schema name) after)

only_rows : (table_schema table_name : List ℕ) (rows : Rows) → list_all is_put (map (λ (row : List Cell). Put table_schema table_name row) rows) ≡ true
only_rows table_schema table_name [] = refl
only_rows table_schema table_name (row ∷ rows) = only_rows table_schema table_name rows

-- a file's changes put its rows and its mark, and do nothing else
file_loads : (files : List File) (line : PlanLine) (changes : List Change) → PutsFile files line changes → Loads files (line ∷ []) (λ schema name row. put_count schema name row changes)
file_loads files line changes puts = record {
  rows = loaded_rows line puts.says ∷ [];
  are_loaded = next_rows puts.whole no_rows;
  marks = mark_row puts.name ∷ [];
  are_marked = next_mark puts.named no_marks;
  counts = λ schema name row.
      let join = put_join schema name row (puts_into (loaded_rows line puts.says)) (Put progress_schema marks_table (mark_row puts.name) ∷ []) in
      let rows = put_rows_count schema name row (loaded_rows line puts.says) in
      let mark = put_rows_count schema name row (progress_rows marks_table (mark_row puts.name ∷ [])) in
      let front = count_front row schema name (progress_rows marks_table (mark_row puts.name ∷ [])) (loaded_rows line puts.says ∷ []) in
      let after = count_front row schema name (loaded_rows line puts.says) [] in
      let none = count_none row in
      ap (put_count schema name row) puts.changes_are ∙ (omega arith);
}

file_puts : (files : List File) (line : PlanLine) (changes : List Change) → PutsFile files line changes → list_all is_put changes ≡ true
file_puts files line changes puts =
    ap (list_all is_put) puts.changes_are
    ∙ (list_all-append is_put (puts_into (loaded_rows line puts.says)) (Put progress_schema marks_table (mark_row puts.name) ∷ [])
    ∙ and_both (list_all is_put (puts_into (loaded_rows line puts.says))) true (only_rows line.line.name.schema line.line.name.name (loaded_rows line puts.says).rows) refl)

-- the same of the files of a worker, and of all workers

worker_loads : {files : List File} {lines : List PlanLine} {list : List Transaction} → PutFiles files lines list → Loads files lines (λ schema name row. sum_by (put_by_one schema name row) list)
worker_loads {files} no_files = no_loads files
worker_loads {files} (next_file {line} {lines} {one} {others} puts rest) =
    both_load files (line ∷ []) lines (λ schema name row. put_count schema name row one.changes) (λ schema name row. sum_by (put_by_one schema name row) others) (λ schema name row. sum_by (put_by_one schema name row) (one ∷ others)) (file_loads files line one.changes puts) (worker_loads rest)
    (λ schema name row. sum_by-cons (put_by_one schema name row) one others)

worker_puts : {files : List File} {lines : List PlanLine} {list : List Transaction} → PutFiles files lines list → only_puts list ≡ true
worker_puts no_files = refl
worker_puts {files} (next_file {line} {lines} {one} {others} puts rest) = and_both (list_all is_put one.changes) (only_puts others) (file_puts files line one.changes puts) (worker_puts rest)

workers_load : {files : List File} {workers : List (List PlanLine)} {lists : List (List Transaction)} → PutFilesOfEach files workers lists → Loads files (all_lines workers) (λ schema name row. sum_by (sum_by (put_by_one schema name row)) lists)
workers_load {files} no_workers = no_loads files
workers_load {files} (next_worker {lines} {workers} {list} {lists} puts rest) =
    both_load files lines (all_lines workers) (λ schema name row. sum_by (put_by_one schema name row) list) (λ schema name row. sum_by (sum_by (put_by_one schema name row)) lists) (λ schema name row. sum_by (sum_by (put_by_one schema name row)) (list ∷ lists)) (worker_loads puts) (workers_load rest)
    (λ schema name row. sum_by-cons (sum_by (put_by_one schema name row)) list lists)

abbrev puts_only : Transaction → Bool
puts_only one = list_all is_put one.changes

workers_put : {files : List File} {workers : List (List PlanLine)} {lists : List (List Transaction)} → PutFilesOfEach files workers lists → All (Pass puts_only) lists
workers_put no_workers = All-nil (Pass puts_only)
workers_put (next_worker {lines} {workers} {list} {lists} puts rest) = All-cons (Pass puts_only) list lists (worker_puts puts) (workers_put rest)

-- what is there afterwards

-- the same objects, and each row so many times more
pub record HasMore (old new : Database) (put : List ℕ → List ℕ → List Cell → ℕ) : Type 0 where
  pub objects : new.objects ≡ old.objects
  pub counts : (schema name : List ℕ) (row : List Cell) → count_of row (rows_of new schema name) ≡ count_of row (rows_of old schema name) + put schema name row

one_list : (list : List Transaction) → Interleaves (list ∷ []) list
one_list [] = none_left (All-cons (λ (list : List Transaction). list ≡ []) [] [] refl (All-nil (λ (list : List Transaction). list ≡ [])))
one_list (one ∷ list) = takes here (one_list list)

put_sum : (schema name : List ℕ) (row : List Cell) (list : List Transaction) → count_of row (rows_into schema name list) ≡ sum_by (put_by_one schema name row) list
put_sum schema name row [] = count_none row
put_sum schema name row (one ∷ list) =
    let front = sum_by-cons (put_by_one schema name row) one list in
    let join = count_join row (filter_map (row_into schema name) one.changes) (rows_into schema name list) in
    let rest = put_sum schema name row list in
    omega arith

has_more : (whole : List Transaction) (old new : Database) → only_puts whole ≡ true → more_db old whole ≡ Some new → HasMore old new (λ schema name row. sum_by (put_by_one schema name row) whole)
has_more whole old new only fits =
    let last = puts_commute old (whole ∷ []) (All-cons (PutsRows old) whole [] (record { only = only; last = new; fits = fits }) (All-nil (PutsRows old))) whole (one_list whole) in
    let is : last.0 ≡ new = same_some (sym last.1 ∙ fits) in
    record {
      objects = ap (λ (d : Database). d.objects) (sym is) ∙ last.2.objects;
      counts = λ schema name row.
          let same = ap (λ (d : Database). count_of row (rows_of d schema name)) is in
          let bag = (last.2.rows schema name).counts row in
          let join = count_join row (rows_of old schema name) (rows_into schema name whole ++ []) in
          let whole_join = count_join row (rows_into schema name whole) [] in
          let none = count_none row in
          let sum = put_sum schema name row whole in
          omega arith;
    }

-- the changes of one transaction
pub changes_more : (changes : List Change) (old new : Database) → list_all is_put changes ≡ true → changes_db old changes ≡ Some new → HasMore old new (λ schema name row. put_count schema name row changes)
changes_more changes old new only fits =
    let one : Transaction = record { changes = changes; mark = None } in
    let more = has_more (one ∷ []) old new (and_both (list_all is_put changes) true only refl) (by_found (changes_db old changes) fits) in
    record {
      objects = more.objects;
      counts = λ schema name row.
          let counts = more.counts schema name row in
          let sum = sum_by-cons (put_by_one schema name row) one [] in
          omega arith;
    }
  where
    by_found : (found : _) → found ≡ Some new → option_and_then (λ (next : Database). Some next) found ≡ Some new
    by_found (Some next) e = e
    by_found None e = e

-- a load that has these files more
goes_on : (files : List File) (plan : LoadPlan) (made loaded more : List PlanLine) (before now after : Database) (put : List ℕ → List ℕ → List Cell → ℕ)
    → LoadingAt files plan (loading made loaded) before now → IsInOrder plan made (loaded ++ more) → Loads files more put → HasMore now after put → LoadingAt files plan (loading made (loaded ++ more)) before after
unfolding rows_of is_before
goes_on files plan made loaded more before now after put at order loads has =
    let is = at.at_stage in
    record {
      fresh = at.fresh;
      added = record {
        objects = progress_objects ++ is.objects;
        rows = progress_rows digest_table (digest_row plan.digest ∷ []) ∷ tables (is.marks ++ loads.marks) (is.rows ++ loads.rows);
      };
      at_stage = record {
        in_order = order;
        objects = is.objects;
        are_made = is.are_made;
        rows = is.rows ++ loads.rows;
        are_loaded = rows_loaded is.are_loaded loads.are_loaded;
        marks = is.marks ++ loads.marks;
        are_marked = lines_marked is.are_marked loads.are_marked;
        database_is = refl;
      };
      agree = record {
        objects = record { counts = λ object. ap (count_by (object_eq object)) has.objects ∙ agree.objects.counts object };
        order = λ schema table first second. rw has.objects (agree.order schema table first second);
        rows = λ schema name. record {
          counts = λ row.
              let counts = has.counts schema name row in
              let bag = (agree.rows schema name).counts row in
              let loaded = loads.counts schema name row in
              let with = count_with row schema name before.rows (progress_rows digest_table (digest_row plan.digest ∷ [])) is.marks loads.marks is.rows loads.rows in
              omega arith;
        };
      };
    }
  where
    agree : Agree now (record {
      objects = before.objects ++ (progress_objects ++ at.at_stage.objects);
      rows = before.rows ++ progress_rows digest_table (digest_row plan.digest ∷ []) ∷ tables at.at_stage.marks at.at_stage.rows;
    })
    agree = subst (λ (d : Database). Agree now (record { objects = before.objects ++ d.objects; rows = before.rows ++ d.rows })) at.at_stage.database_is at.agree

-- one file
pub file_goes_on : (files : List File) (plan : LoadPlan) (made loaded : List PlanLine) (line : PlanLine) (before now after : Database) (changes : List Change)
    → LoadingAt files plan (loading made loaded) before now → IsInOrder plan made (loaded ++ line ∷ []) → PutsFile files line changes → changes_db now changes ≡ Some after → LoadingAt files plan (loading made (loaded ++ line ∷ [])) before after
file_goes_on files plan made loaded line before now after changes at order puts fits =
    goes_on files plan made loaded (line ∷ []) before now after (λ schema name row. put_count schema name row changes) at order (file_loads files line changes puts) (changes_more changes now after (file_puts files line changes puts) fits)

-- the files of all workers
pub workers_go : WorkersGoOn
workers_go files plan made loaded workers lists whole before now after at order puts interleaves fits =
    let has = has_more whole now after (pass_whole puts_only interleaves (workers_put puts)) fits in
    goes_on files plan made loaded (all_lines workers) before now after (λ schema name row. sum_by (sum_by (put_by_one schema name row)) lists) at order (workers_load puts) (record {
      objects = has.objects;
      counts = λ schema name row.
          let counts = has.counts schema name row in
          let sum = sum_whole (put_by_one schema name row) interleaves in
          omega arith;
    })
