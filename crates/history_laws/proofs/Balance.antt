-- How often a row stands in a table before and after changes of rows.
use Rattle.std.proofs.Common.{◌≡◌, ℕ, ◌+◌, arith, Bool, true, false, ◌&&◌, cond, List, [], ◌∷◌, ◌++◌, Option, Some, None, refl, ap, sym, ◌∙◌, bytes_eq}
use Rattle.std.specs.Prelude.{All, count_by, filter_map, flat_map, option_and_then, option_map, sum_by}
use Rattle.std.specs.List.{cons_option, list_all}
use Rattle.std.proofs.lemmas.Bool.{false≢true}
use Rattle.std.proofs.lemmas.List.Concat.{flat_map-cons}
use Rattle.std.proofs.lemmas.List.Elements.{All-cons, All-head, All-nil, All-tail}
use Rattle.std.proofs.lemmas.List.Sums.{sum_by-append, sum_by-cons}
use Rattle.std.proofs.lemmas.Option.{cond_some, option_and_then_some}
use Rattle.sql_cells.specs.declared.cell.Cell.{Cell}
use Rattle.server_data.proofs.Equals.{row_is}
use Rattle.server_data.proofs.Counts.{and_both, and_left, and_right, count_none}
use Rattle.server_data.specs.Agree.{Agree, is_before, object_eq}
use Rattle.server_data.specs.Bag.{count_of}
use Rattle.server_data.specs.Equal.{row_eq}
use Rattle.server_data.specs.Fold.{change_db, changes_db, fits_row, more_db, rows_in, rows_of, with_row, without_first}
use Rattle.server_data.specs.History.{Interleaves, TakesHead, here, none_left, takes, there}
use Rattle.server_data.specs.declared.data.Change.{Change}
use Rattle.server_data.specs.declared.data.Change.TheVariants.{Make, Drop, Put, Remove}
use Rattle.server_data.specs.declared.data.Database.{Database}
use Rattle.server_data.specs.declared.data.Object.{Object}
use Rattle.server_data.specs.declared.data.Transaction.{Transaction}
use Rattle.history_laws.proofs.Objects.{put_objects, remove_objects}
use Rattle.server_data.proofs.Equals.{bytes_are}
use Rattle.history_laws.proofs.Rows.{Removed, Rows, fits_table, frame, put_rows, removed, same_first}
use Rattle.history_laws.specs.Laws.{InterleavingsAgree, ListsThatPutRowsCommute, PutsRows, any_table, changes_row, is_over, is_put, only_puts, row_into, rows_into}
use Rattle.plain_data.proofs.Options.{same_some}

-- how often a row counts as the other: once or not at all
abbrev pub alike : List Cell → List Cell → ℕ
alike row other = cond (row_eq row other) 1 0

-- rows are counted one by one, and in lists one after the other

pub count_front : (row one : List Cell) (others : Rows) → count_of row (one ∷ others) ≡ alike row one + count_of row others
unfolding count_of
count_front row one others = sum_by-cons (λ (other : List Cell). alike row other) one others

count_join : (row : List Cell) (front after : Rows) → count_of row (front ++ after) ≡ count_of row front + count_of row after
unfolding count_of
count_join row front after = sum_by-append (λ (other : List Cell). alike row other) front after

count_some : (row other : List Cell) (b : Bool) → count_of row (cond b (other ∷ []) []) ≡ cond b (alike row other) 0
count_some row other false = count_none row
count_some row other true = let one = count_front row other [] in let none = count_none row in omega arith

-- a row that is taken out of a list counts once there
count_without : (row other : List Cell) (rows rest : Rows) → without_first other rows ≡ Some rest → count_of row rest + alike row other ≡ count_of row rows
count_without row other [] rest e = absurd (cc)
count_without row other (one ∷ rows) rest e = by_test (row_eq other one) refl (count_without row other rows) e
  where
    by_found : (found : Option Rows) → ((less : Rows) → found ≡ Some less → count_of row less + alike row other ≡ count_of row rows) → option_map (λ (less : Rows). one ∷ less) found ≡ Some rest
        → count_of row rest + alike row other ≡ count_of row (one ∷ rows)
    by_found None counted e = absurd (cc)
    by_found (Some less) counted e =
        let here = counted less refl in
        let less_front = count_front row one less in
        let front = count_front row one rows in
        rw (← same_some e) (omega arith)

    at_front : count_of row (one ∷ rows) ≡ alike row one + count_of row rows → alike row other ≡ alike row one → count_of row rows + alike row other ≡ count_of row (one ∷ rows)
    at_front front same = omega arith

    by_test : (b : Bool) → row_eq other one ≡ b → ((less : Rows) → without_first other rows ≡ Some less → count_of row less + alike row other ≡ count_of row rows) → cond b (Some rows) (option_map (λ (less : Rows). one ∷ less) (without_first other rows)) ≡ Some rest
        → count_of row rest + alike row other ≡ count_of row (one ∷ rows)
    by_test true is counted e = rw (← same_some e) (at_front (count_front row one rows) (ap (λ (x : List Cell). alike row x) (row_is other one is)))
    by_test false is counted e = by_found (without_first other rows) counted e

-- how often a change puts the row into the table, and how often it takes it away

abbrev pub into : List ℕ → List ℕ → List Cell → List ℕ → List ℕ → List Cell → ℕ
into schema name row other_schema other_name other = cond (bytes_eq other_schema schema && bytes_eq other_name name) (alike row other) 0

abbrev pub put_by : List ℕ → List ℕ → List Cell → Change → ℕ
put_by schema name row (Make object) = 0
put_by schema name row (Drop kind other_schema other_name) = 0
put_by schema name row (Put other_schema other_name other) = into schema name row other_schema other_name other
put_by schema name row (Remove other_schema other_name other) = 0

abbrev pub taken_by : List ℕ → List ℕ → List Cell → Change → ℕ
taken_by schema name row (Make object) = 0
taken_by schema name row (Drop kind other_schema other_name) = 0
taken_by schema name row (Put other_schema other_name other) = 0
taken_by schema name row (Remove other_schema other_name other) = into schema name row other_schema other_name other

-- the same of a transaction
abbrev put_in : List ℕ → List ℕ → List Cell → Transaction → ℕ
put_in schema name row one = sum_by (put_by schema name row) one.changes

abbrev taken_in : List ℕ → List ℕ → List Cell → Transaction → ℕ
taken_in schema name row one = sum_by (taken_by schema name row) one.changes

-- the same objects, and of each row as many as there were, and were put, and weren't taken away
pub record Balance (old new : Database) (put taken : List ℕ → List ℕ → List Cell → ℕ) : Type 0 where
  pub objects : new.objects ≡ old.objects
  pub counts : (schema name : List ℕ) (row : List Cell) → count_of row (rows_of new schema name) + taken schema name row ≡ count_of row (rows_of old schema name) + put schema name row

pub put_balance : (old new : Database) (schema name : List ℕ) (other : List Cell) → change_db old (Put schema name other) ≡ Some new
    → Balance old new (λ s n row. put_by s n row (Put schema name other)) (λ s n row. taken_by s n row (Put schema name other))
unfolding change_db
put_balance old new schema name other fits = record {
  objects = put_objects old new schema name other fits;
  counts = λ s n row.
      let put = cond_some (fits_row old schema name other) (with_row old schema name other) new fits in
      let rows = put_rows old schema name other s n in
      let join = count_join row (rows_of old s n) (cond (bytes_eq schema s && bytes_eq name n) (other ∷ []) []) in
      let some = count_some row other (bytes_eq schema s && bytes_eq name n) in
      let same : count_of row (rows_of new s n) ≡ count_of row (rows_of old s n ++ cond (bytes_eq schema s && bytes_eq name n) (other ∷ []) []) = rw (← put.1, rows) refl in
      omega arith;
}

pub remove_balance : (old new : Database) (schema name : List ℕ) (other : List Cell) → change_db old (Remove schema name other) ≡ Some new
    → Balance old new (λ s n row. put_by s n row (Remove schema name other)) (λ s n row. taken_by s n row (Remove schema name other))
unfolding rows_of
remove_balance old new schema name other fits = record {
  objects = remove_objects old new schema name other fits;
  counts = λ s n row. rw (← is.new_is) (by_test s n row (bytes_eq schema s && bytes_eq name n) refl);
}
  where
    is : Removed old new schema name other
    is = removed old new schema name other fits

    first : without_first other (rows_in schema name old.rows) ≡ Some (rows_in schema name is.fewer)
    first = sym (same_first schema name other old.rows) ∙ ap (λ found. option_map (rows_in schema name) found) is.found

    by_test : (s n : List ℕ) (row : List Cell) (b : Bool) → (bytes_eq schema s && bytes_eq name n) ≡ b
        → count_of row (rows_in s n is.fewer) + cond b (alike row other) 0 ≡ count_of row (rows_in s n old.rows) + 0
    by_test s n row false apart =
        let same = ap (count_of row) (frame schema name other s n apart old.rows is.fewer is.found) in
        omega arith
    by_test s n row true this =
        let here = count_without row other (rows_in schema name old.rows) (rows_in schema name is.fewer) first in
        rw (← bytes_are schema s (and_left _ _ this), ← bytes_are name n (and_right (bytes_eq schema s) _ this)) (omega arith)

change_balance : (old new : Database) (change : Change) → changes_row any_table change ≡ true → change_db old change ≡ Some new
    → Balance old new (λ s n row. put_by s n row change) (λ s n row. taken_by s n row change)
change_balance old new (Make object) is fits = absurd (false≢true is)
change_balance old new (Drop kind schema name) is fits = absurd (false≢true is)
change_balance old new (Put schema name other) is fits = put_balance old new schema name other fits
change_balance old new (Remove schema name other) is fits = remove_balance old new schema name other fits

changes_balance : (changes : List Change) → list_all (changes_row any_table) changes ≡ true → (old new : Database) → changes_db old changes ≡ Some new
    → Balance old new (λ s n row. sum_by (put_by s n row) changes) (λ s n row. sum_by (taken_by s n row) changes)
changes_balance [] are old new fits = rw (← same_some fits) (record { objects = refl; counts = λ s n row. refl })
changes_balance (change ∷ changes) are old new fits =
    option_and_then_some (λ (next : Database). changes_db next changes) (change_db old change) new fits (λ next first rest.
    let one = change_balance old next change (and_left (changes_row any_table change) (list_all (changes_row any_table) changes) are) first in
    let others = changes_balance changes (and_right (changes_row any_table change) (list_all (changes_row any_table) changes) are) next new rest in
    record {
      objects = others.objects ∙ one.objects;
      counts = λ s n row.
          let here = one.counts s n row in
          let after = others.counts s n row in
          let put = sum_by-cons (put_by s n row) change changes in
          let taken = sum_by-cons (taken_by s n row) change changes in
          omega arith;
    })

balance : (whole : List Transaction) → is_over any_table whole ≡ true → (old new : Database) → more_db old whole ≡ Some new
    → Balance old new (λ s n row. sum_by (put_in s n row) whole) (λ s n row. sum_by (taken_in s n row) whole)
balance [] are old new fits = rw (← same_some fits) (record { objects = refl; counts = λ s n row. refl })
balance (x ∷ whole) are old new fits =
    option_and_then_some (λ (next : Database). more_db next whole) (changes_db old x.changes) new fits (λ next first rest.
    let one = changes_balance x.changes (and_left (list_all (changes_row any_table) x.changes) (is_over any_table whole) are) old next first in
    let others = balance whole (and_right (list_all (changes_row any_table) x.changes) (is_over any_table whole) are) next new rest in
    record {
      objects = others.objects ∙ one.objects;
      counts = λ s n row.
          let here = one.counts s n row in
          let after = others.counts s n row in
          let put = sum_by-cons (put_in s n row) x whole in
          let taken = sum_by-cons (taken_in s n row) x whole in
          omega arith;
    })

-- an interleaving has what its lists have

module _ (w : Transaction → ℕ) where
  sum_head : {lists fewer : List (List Transaction)} {x : Transaction} → TakesHead lists x fewer → sum_by (sum_by w) lists ≡ w x + sum_by (sum_by w) fewer
  sum_head (here {x} {list} {lists}) =
      let whole = sum_by-cons (sum_by w) (x ∷ list) lists in
      let list_is = sum_by-cons w x list in
      let rest = sum_by-cons (sum_by w) list lists in
      omega arith
  sum_head (there {x} {list} {lists} {fewer} head) =
      let before = sum_by-cons (sum_by w) list lists in
      let after = sum_by-cons (sum_by w) list fewer in
      let inside = sum_head head in
      omega arith

  sum_none : (lists : List (List Transaction)) → All (λ (list : List Transaction). list ≡ []) lists → sum_by (sum_by w) lists ≡ 0
  sum_none [] none = refl
  sum_none (list ∷ lists) none =
      let front = sum_by-cons (sum_by w) list lists in
      let rest = sum_none lists (All-tail (λ (list : List Transaction). list ≡ []) list lists none) in
      let here : sum_by w list ≡ 0 = rw (All-head (λ (list : List Transaction). list ≡ []) list lists none) refl in
      omega arith

  pub sum_whole : {lists : List (List Transaction)} {whole : List Transaction} → Interleaves lists whole → sum_by w whole ≡ sum_by (sum_by w) lists
  sum_whole (none_left {lists} none) = sym (sum_none lists none)
  sum_whole (takes {lists} {fewer} {x} {whole} head rest) =
      let front = sum_by-cons w x whole in
      let after = sum_whole rest in
      let taken = sum_head head in
      omega arith

-- what every transaction of the lists passes, every transaction of an interleaving passes
module _ (p : Transaction → Bool) where
  abbrev pub Pass : List Transaction → Type 0
  Pass list = list_all p list ≡ true

  pass_head : {lists fewer : List (List Transaction)} {x : Transaction} → TakesHead lists x fewer → All Pass lists → (p x ≡ true) × All Pass fewer
  pass_head (here {x} {list} {lists}) all =
      let first = All-head Pass (x ∷ list) lists all in
      (and_left (p x) (list_all p list) first, All-cons Pass list lists (and_right (p x) (list_all p list) first) (All-tail Pass (x ∷ list) lists all))
  pass_head (there {x} {list} {lists} {fewer} head) all =
      let inside = pass_head head (All-tail Pass list lists all) in
      (inside.0, All-cons Pass list fewer (All-head Pass list lists all) inside.1)

  pub pass_whole : {lists : List (List Transaction)} {whole : List Transaction} → Interleaves lists whole → All Pass lists → list_all p whole ≡ true
  pass_whole (none_left none) all = refl
  pass_whole (takes {lists} {fewer} {x} {whole} head rest) all =
      let first = pass_head head all in
      and_both (p x) (list_all p whole) first.0 (pass_whole rest first.1)

-- the same objects and of each table the same bag of rows
agree : (one other : Database) → one.objects ≡ other.objects → ((schema name : List ℕ) (row : List Cell) → count_of row (rows_of one schema name) ≡ count_of row (rows_of other schema name)) → Agree one other
unfolding is_before
agree one other objects counts = record {
  objects = record { counts = λ object. ap (count_by (object_eq object)) objects };
  order = λ schema table first second. rw objects refl;
  rows = λ schema name. record { counts = counts schema name };
}

pub interleavings_agree : InterleavingsAgree
interleavings_agree start lists are one other order order_too last next fits fits_too =
    let after = balance one (pass_whole (λ x. list_all (changes_row any_table) x.changes) order are) start last fits in
    let after_too = balance other (pass_whole (λ x. list_all (changes_row any_table) x.changes) order_too are) start next fits_too in
    agree last next (after.objects ∙ sym after_too.objects) (λ schema name row.
    let counts = after.counts schema name row in
    let counts_too = after_too.counts schema name row in
    let put = sum_whole (put_in schema name row) order in
    let put_too = sum_whole (put_in schema name row) order_too in
    let taken = sum_whole (taken_in schema name row) order in
    let taken_too = sum_whole (taken_in schema name row) order_too in
    omega arith)

-- lists that only put rows

-- the change puts a row that one of the objects takes
abbrev can_put : List Object → Change → Bool
can_put objects (Make object) = false
can_put objects (Drop kind schema name) = false
can_put objects (Put schema name row) = fits_table schema name row objects
can_put objects (Remove schema name row) = false

abbrev can_put_all : List Object → Transaction → Bool
can_put_all objects one = list_all (can_put objects) one.changes

-- what fits alone can be put
put_fits : (old new : Database) (change : Change) → is_put change ≡ true → change_db old change ≡ Some new → (can_put old.objects change ≡ true) × (new.objects ≡ old.objects)
unfolding change_db
put_fits old new (Make object) is fits = absurd (false≢true is)
put_fits old new (Drop kind schema name) is fits = absurd (false≢true is)
put_fits old new (Put schema name row) is fits = ((cond_some (fits_row old schema name row) (with_row old schema name row) new fits).0, put_objects old new schema name row fits)
put_fits old new (Remove schema name row) is fits = absurd (false≢true is)

puts_fit : (changes : List Change) → list_all is_put changes ≡ true → (old new : Database) → changes_db old changes ≡ Some new → (list_all (can_put old.objects) changes ≡ true) × (new.objects ≡ old.objects)
puts_fit [] are old new fits = (refl, ap (λ (d : Database). d.objects) (sym (same_some fits)))
puts_fit (change ∷ changes) are old new fits =
    option_and_then_some (λ (next : Database). changes_db next changes) (change_db old change) new fits (λ next first rest.
    let one = put_fits old next change (and_left (is_put change) (list_all is_put changes) are) first in
    let others = puts_fit changes (and_right (is_put change) (list_all is_put changes) are) next new rest in
    (and_both (can_put old.objects change) (list_all (can_put old.objects) changes) one.0 (rw (← one.1) others.0), others.1 ∙ one.1))

list_fits : (list : List Transaction) → only_puts list ≡ true → (old new : Database) → more_db old list ≡ Some new → list_all (can_put_all old.objects) list ≡ true
list_fits [] are old new fits = refl
list_fits (x ∷ list) are old new fits =
    option_and_then_some (λ (next : Database). more_db next list) (changes_db old x.changes) new fits (λ next first rest.
    let one = puts_fit x.changes (and_left (list_all is_put x.changes) (only_puts list) are) old next first in
    let others = list_fits list (and_right (list_all is_put x.changes) (only_puts list) are) next new rest in
    and_both (can_put_all old.objects x) (list_all (can_put_all old.objects) list) one.0 (rw (← one.1) others))

all_fit : (start : Database) (lists : List (List Transaction)) → All (PutsRows start) lists → All (λ (list : List Transaction). list_all (can_put_all start.objects) list ≡ true) lists
all_fit start [] are = All-nil (λ (list : List Transaction). list_all (can_put_all start.objects) list ≡ true)
all_fit start (list ∷ lists) are =
    let first = All-head (PutsRows start) list lists are in
    All-cons (λ (list : List Transaction). list_all (can_put_all start.objects) list ≡ true) list lists (list_fits list first.only start first.last first.fits) (all_fit start lists (All-tail (PutsRows start) list lists are))

-- what can be put fits
record Fits (objects : List Object) (found : Option Database) : Type 0 where
  next : Database
  fits : found ≡ Some next
  same : next.objects ≡ objects

fits_change : (state : Database) (change : Change) → can_put state.objects change ≡ true → Fits state.objects (change_db state change)
unfolding change_db
fits_change state (Make object) can = absurd (false≢true can)
fits_change state (Drop kind schema name) can = absurd (false≢true can)
fits_change state (Put schema name row) can = record { next = with_row state schema name row; fits = rw can refl; same = refl }
fits_change state (Remove schema name row) can = absurd (false≢true can)

fits_changes : (changes : List Change) (state : Database) → list_all (can_put state.objects) changes ≡ true → Fits state.objects (changes_db state changes)
fits_changes [] state can = record { next = state; fits = refl; same = refl }
fits_changes (change ∷ changes) state can =
    let one = fits_change state change (and_left (can_put state.objects change) (list_all (can_put state.objects) changes) can) in
    let others = fits_changes changes one.next (rw one.same (and_right (can_put state.objects change) (list_all (can_put state.objects) changes) can)) in
    record { next = others.next; fits = ap (λ (found : Option Database). option_and_then (λ (next : Database). changes_db next changes) found) one.fits ∙ others.fits; same = others.same ∙ one.same }

fits_whole : (whole : List Transaction) (state : Database) → list_all (can_put_all state.objects) whole ≡ true → Fits state.objects (more_db state whole)
fits_whole [] state can = record { next = state; fits = refl; same = refl }
fits_whole (x ∷ whole) state can =
    let one = fits_changes x.changes state (and_left (can_put_all state.objects x) (list_all (can_put_all state.objects) whole) can) in
    let others = fits_whole whole one.next (rw one.same (and_right (can_put_all state.objects x) (list_all (can_put_all state.objects) whole) can)) in
    record { next = others.next; fits = ap (λ (found : Option Database). option_and_then (λ (next : Database). more_db next whole) found) one.fits ∙ others.fits; same = others.same ∙ one.same }

-- what can be put changes rows alone, and takes none away

rows_change : (objects : List Object) (change : Change) → can_put objects change ≡ true → (changes_row any_table change ≡ true) × ((s n : List ℕ) (row : List Cell) → taken_by s n row change ≡ 0)
rows_change objects (Make object) can = absurd (false≢true can)
rows_change objects (Drop kind schema name) can = absurd (false≢true can)
rows_change objects (Put schema name row) can = (refl, λ s n row. refl)
rows_change objects (Remove schema name row) can = absurd (false≢true can)

rows_changes : (objects : List Object) (changes : List Change) → list_all (can_put objects) changes ≡ true → (list_all (changes_row any_table) changes ≡ true) × ((s n : List ℕ) (row : List Cell) → sum_by (taken_by s n row) changes ≡ 0)
rows_changes objects [] can = (refl, λ s n row. refl)
rows_changes objects (change ∷ changes) can =
    let one = rows_change objects change (and_left (can_put objects change) (list_all (can_put objects) changes) can) in
    let others = rows_changes objects changes (and_right (can_put objects change) (list_all (can_put objects) changes) can) in (
      and_both (changes_row any_table change) (list_all (changes_row any_table) changes) one.0 others.0,
      λ s n row.
          let front = sum_by-cons (taken_by s n row) change changes in
          let here = one.1 s n row in
          let after = others.1 s n row in
          omega arith,
    )

rows_whole : (objects : List Object) (whole : List Transaction) → list_all (can_put_all objects) whole ≡ true → (is_over any_table whole ≡ true) × ((s n : List ℕ) (row : List Cell) → sum_by (taken_in s n row) whole ≡ 0)
rows_whole objects [] can = (refl, λ s n row. refl)
rows_whole objects (x ∷ whole) can =
    let one = rows_changes objects x.changes (and_left (can_put_all objects x) (list_all (can_put_all objects) whole) can) in
    let others = rows_whole objects whole (and_right (can_put_all objects x) (list_all (can_put_all objects) whole) can) in (
      and_both (list_all (changes_row any_table) x.changes) (is_over any_table whole) one.0 others.0,
      λ s n row.
          let front = sum_by-cons (taken_in s n row) x whole in
          let here = one.1 s n row in
          let after = others.1 s n row in
          omega arith,
    )

-- the rows that are put count as often as they are put

count_changes : (schema name : List ℕ) (row : List Cell) (changes : List Change) → count_of row (filter_map (row_into schema name) changes) ≡ sum_by (put_by schema name row) changes
count_changes schema name row [] = count_none row
count_changes schema name row (Make object ∷ changes) = let front = sum_by-cons (put_by schema name row) (Make object) changes in let after = count_changes schema name row changes in omega arith
count_changes schema name row (Drop kind s n ∷ changes) = let front = sum_by-cons (put_by schema name row) (Drop kind s n) changes in let after = count_changes schema name row changes in omega arith
count_changes schema name row (Remove s n other ∷ changes) = let front = sum_by-cons (put_by schema name row) (Remove s n other) changes in let after = count_changes schema name row changes in omega arith
count_changes schema name row (Put s n other ∷ changes) =
    let front = sum_by-cons (put_by schema name row) (Put s n other) changes in
    let after = count_changes schema name row changes in
    let here = by_test (bytes_eq s schema && bytes_eq n name) (filter_map (row_into schema name) changes) in
    omega arith
  where
    by_test : (b : Bool) (rest : Rows) → count_of row (cons_option (cond b (Some other) None) rest) ≡ cond b (alike row other) 0 + count_of row rest
    by_test true rest = count_front row other rest
    by_test false rest = omega arith

count_list : (schema name : List ℕ) (row : List Cell) (list : List Transaction) → count_of row (rows_into schema name list) ≡ sum_by (put_in schema name row) list
count_list schema name row [] = count_none row
count_list schema name row (x ∷ list) =
    let front = sum_by-cons (put_in schema name row) x list in
    let join = count_join row (filter_map (row_into schema name) x.changes) (rows_into schema name list) in
    let here = count_changes schema name row x.changes in
    let after = count_list schema name row list in
    ap (count_of row) (flat_map-cons (λ (one : Transaction). filter_map (row_into schema name) one.changes) x list) ∙ (omega arith)

count_lists : (schema name : List ℕ) (row : List Cell) (lists : List (List Transaction)) → count_of row (flat_map (rows_into schema name) lists) ≡ sum_by (sum_by (put_in schema name row)) lists
count_lists schema name row [] = count_none row
count_lists schema name row (list ∷ lists) =
    let front = sum_by-cons (sum_by (put_in schema name row)) list lists in
    let join = count_join row (rows_into schema name list) (flat_map (rows_into schema name) lists) in
    let here = count_list schema name row list in
    let after = count_lists schema name row lists in
    ap (count_of row) (flat_map-cons (rows_into schema name) list lists) ∙ (omega arith)

pub puts_commute : ListsThatPutRowsCommute
puts_commute start lists are whole order =
    let can = pass_whole (can_put_all start.objects) order (all_fit start lists are) in
    let after = fits_whole whole start can in
    let rows = rows_whole start.objects whole can in
    let last = balance whole rows.0 start after.next after.fits in (
      after.next,
      after.fits,
      record {
        objects = last.objects;
        rows = λ schema name. record {
          counts = λ row.
              let counts = last.counts schema name row in
              let none = rows.1 schema name row in
              let put = sum_whole (put_in schema name row) order in
              let join = count_join row (rows_of start schema name) (flat_map (rows_into schema name) lists) in
              let each = count_lists schema name row lists in
              omega arith;
        };
      },
    )
