-- Tables of files: each list of files has one list of tables.
use Rattle.std.proofs.Common.{◌≡◌, ℕ, ◌+◌, ◌-◌, ◌^◌, min, Bool, true, false, ◌||◌, ◌&&◌, cond, List, [], ◌∷◌, ◌++◌, Option, Some, None, refl, sym, ◌∙◌, ap, subst, arith, append_assoc, append-nil}
use Rattle.std.specs.Borrow.{Bor}
use Rattle.std.specs.Cmp.{IsTotalOrder}
use Rattle.std.specs.Cmp.Lexicographic.{slice_cmp, nat_list_cmp_total}
use Rattle.std.specs.Map.{lookup, keys_of}
use Rattle.std.specs.BTreeMap.{insert_entry, is_at}
use Rattle.std.specs.List.{AllByRecursion, list_any, sum_by}
use Rattle.std.specs.List.Sorted.{IsStrictlySortedBy}
use Rattle.std.specs.Option.{unwrap_or}
use Rattle.std.specs.Ordering.{nat_cmp, ordering_then, ordering_reverse, match_ordering, is_eq}
use Rattle.std.specs.declared.cmp.Ordering.{Ordering}
use Rattle.std.specs.declared.cmp.Ordering.TheVariants.{Less, Equal, Greater}
use Rattle.std.proofs.lemmas.Cmp.{then_total, on_total, tied_itself, eq_by_cmp_equiv}
use Rattle.std.proofs.lemmas.List.Folds.{list_any-append}
use Rattle.std.proofs.lemmas.List.Sums.{sum_by_push, sum_by-cons}
use Rattle.std.proofs.lemmas.Map.{lookup-none}
use Rattle.std.proofs.lemmas.Map.Entries.{lookup_head, lookup_tail, none_past_head, none_below_head}
use Rattle.std.proofs.lemmas.Map.Keys.{sorted_tail, IsDistinct-from_sorted}
use Rattle.std.proofs.lemmas.Map.Lookups.{exact_pairs, exact_bytes}
use Rattle.folder_forms.specs.Metadata.{IsTableList, TableNames, table_order, rows_of_table, is_file_of, names_table}
use Rattle.folder_forms.specs.declared.metadata.FileLine.{FileLine}
use Rattle.metadata_ini.specs.Tables.{plain_tables}

-- the order of tables

pub tables_total : IsTotalOrder table_order
tables_total = then_total (on_total (λ t. t.0) nat_list_cmp_total) (on_total (λ t. t.1) nat_list_cmp_total)

pub tables_exact : (a b : TableNames) → table_order a b ≡ Equal → a ≡ b
tables_exact a b e = exact_pairs (slice_cmp nat_cmp) (slice_cmp nat_cmp) exact_bytes exact_bytes a b e

-- an entry that is put in

below_all : (P : TableNames → Type 0) (es : List (TableNames × ℕ)) (k : TableNames) (v : ℕ) → AllByRecursion P (keys_of es) → P k → AllByRecursion P (keys_of (insert_entry table_order es k v))
below_all P [] k v all one = (one, tt)
below_all P (e ∷ es) k v all one = by (table_order k e.0) (below_all P es k v all.1 one) where
  by : (r : Ordering) → AllByRecursion P (keys_of (insert_entry table_order es k v)) → AllByRecursion P (keys_of (match_ordering r ((k, v) ∷ e ∷ es) ((e.0, v) ∷ es) (e ∷ insert_entry table_order es k v)))
  by Less rest = (one, all)
  by Equal rest = (all.0, all.1)
  by Greater rest = (all.0, rest)

after_less : (k x : TableNames) (ks : List TableNames) → table_order k x ≡ Less → AllByRecursion (λ y. table_order x y ≡ Less) ks → AllByRecursion (λ y. table_order k y ≡ Less) ks
after_less k x [] less all = tt
after_less k x (y ∷ ks) less all = (tables_total.trans k x y less all.0, after_less k x ks less all.1)

pub put_sorted : (es : List (TableNames × ℕ)) (k : TableNames) (v : ℕ) → IsStrictlySortedBy table_order (keys_of es) → IsStrictlySortedBy table_order (keys_of (insert_entry table_order es k v))
unfolding IsStrictlySortedBy
put_sorted [] k v sorted = (tt, tt)
put_sorted (e ∷ es) k v sorted = by (table_order k e.0) refl (put_sorted es k v sorted.1) where
  by : (r : Ordering) → table_order k e.0 ≡ r → IsStrictlySortedBy table_order (keys_of (insert_entry table_order es k v))
      → IsStrictlySortedBy table_order (keys_of (match_ordering r ((k, v) ∷ e ∷ es) ((e.0, v) ∷ es) (e ∷ insert_entry table_order es k v)))
  by Less is rest = ((is, after_less k e.0 (keys_of es) is sorted.0), sorted)
  by Equal is rest = sorted
  by Greater is rest = (below_all (λ y. table_order e.0 y ≡ Less) es k v sorted.0 (tables_total.antisymm e.0 k ∙ ap ordering_reverse is), rest)

-- the table's entry
abbrev pub entry_of : TableNames → List (TableNames × ℕ) → Option ℕ
entry_of q es = lookup (λ other. is_eq (table_order q other)) es

swapped : (a b : TableNames) → is_eq (table_order a b) ≡ is_eq (table_order b a)
swapped a b = ap is_eq (tables_total.antisymm a b) ∙ reversed (table_order b a) where
  reversed : (r : Ordering) → is_eq (ordering_reverse r) ≡ is_eq r
  reversed Less = refl
  reversed Equal = refl
  reversed Greater = refl

pub put_found : (es : List (TableNames × ℕ)) (k : TableNames) (v : ℕ) (q : TableNames) → entry_of q (insert_entry table_order es k v) ≡ cond (is_eq (table_order q k)) (Some v) (entry_of q es)
put_found [] k v q = refl
put_found (e ∷ es) k v q = by (table_order k e.0) refl (put_found es k v q) where
  same_head : (b : Bool) (d : Bool) → b ≡ d → cond b (Some v) (entry_of q es) ≡ cond d (Some v) (cond b (Some e.1) (entry_of q es))
  same_head true true is = refl
  same_head false false is = refl
  same_head true false is = cc is
  same_head false true is = cc is

  passed : (b d : Bool) → (b ≡ true → d ≡ false) → cond b (Some e.1) (cond d (Some v) (entry_of q es)) ≡ cond d (Some v) (cond b (Some e.1) (entry_of q es))
  passed true true other = cc (other refl)
  passed true false other = refl
  passed false true other = refl
  passed false false other = refl

  -- what is equal to the head isn't equal to the new key
  apart : table_order k e.0 ≡ Greater → is_eq (table_order q e.0) ≡ true → is_eq (table_order q k) ≡ false
  apart is head = at (table_order q e.0) refl head where
    at : (r : Ordering) → table_order q e.0 ≡ r → is_eq r ≡ true → is_eq (table_order q k) ≡ false
    at Less there h = cc h
    at Equal there h = ap is_eq (tables_total.congr q e.0 k there ∙ tables_total.antisymm e.0 k ∙ ap ordering_reverse is)
    at Greater there h = cc h

  by : (r : Ordering) → table_order k e.0 ≡ r → entry_of q (insert_entry table_order es k v) ≡ cond (is_eq (table_order q k)) (Some v) (entry_of q es)
      → entry_of q (match_ordering r ((k, v) ∷ e ∷ es) ((e.0, v) ∷ es) (e ∷ insert_entry table_order es k v)) ≡ cond (is_eq (table_order q k)) (Some v) (entry_of q (e ∷ es))
  by Less is rest = refl
  by Equal is rest = same_head (is_eq (table_order q e.0)) (is_eq (table_order q k)) (ap (λ x. is_eq (table_order q x)) (sym (tables_exact k e.0 is)))
  by Greater is rest = ap (cond (is_eq (table_order q e.0)) (Some e.1)) rest ∙ passed (is_eq (table_order q e.0)) (is_eq (table_order q k)) (apart is)

-- rows of a table after one file more

-- the rows where some file is of the table, and so many together
abbrev together : Bool → ℕ → Option ℕ
together some sum = cond some (Some (min (2 ^ 64 - 1) sum)) None

-- a file's part in the rows of a table
abbrev part : TableNames → FileLine → ℕ
part q file = cond (is_file_of q file) file.rows 0

rows_more : (files : List FileLine) (file : FileLine) (q : TableNames) → rows_of_table (files ++ file ∷ []) q
    ≡ together (list_any (is_file_of q) files || (is_file_of q file || false)) (sum_by (part q) files + part q file)
rows_more files file q = λ i. together (list_any-append (is_file_of q) files (file ∷ []) i) (sum_by_push (part q) files file i)

other_file : (some p : Bool) (sum rows : ℕ) → p ≡ false → together (some || (p || false)) (sum + cond p rows 0) ≡ together some sum
other_file true false sum rows is = ap (λ n. Some (min (2 ^ 64 - 1) n)) (omega arith)
other_file false false sum rows is = refl
other_file some true sum rows is = cc is

own_file : (some p : Bool) (sum rows v : ℕ) → p ≡ true → (some ≡ false → sum ≡ 0) → v ≡ min (2 ^ 64 - 1) (unwrap_or (together some sum) 0 + rows)
    → together (some || (p || false)) (sum + cond p rows 0) ≡ Some v
own_file true true sum rows v is none value = ap (λ n. Some n) (omega (arith, value))
own_file false true sum rows v is none value = ap (λ n. Some n) (omega (arith, value, none refl))
own_file some false sum rows v is none value = cc is

no_sum : (files : List FileLine) (q : TableNames) → list_any (is_file_of q) files ≡ false → sum_by (part q) files ≡ 0
no_sum [] q is = refl
no_sum (file ∷ files) q is = by (is_file_of q file) refl is (no_sum files q) where
  by : (b : Bool) → is_file_of q file ≡ b → (b || list_any (is_file_of q) files) ≡ false → (list_any (is_file_of q) files ≡ false → sum_by (part q) files ≡ 0) → sum_by (part q) (file ∷ files) ≡ 0
  by true there e rest = cc e
  by false there e rest = let zero_part : part q file ≡ 0 = ap (λ b. cond b file.rows 0) there in omega (arith, zero_part, rest e, sum_by-cons (part q) file files)

pub no_tables : IsTableList [] []
unfolding IsStrictlySortedBy
no_tables = record { order = tt; rows = λ q. refl }

pub other_added : (files : List FileLine) (file : FileLine) (tables : List (TableNames × ℕ)) → IsTableList files tables → names_table file.name.kind ≡ false → IsTableList (files ++ file ∷ []) tables
other_added files file tables list none = record {
  order = list.order;
  rows = λ q. list.rows q ∙ sym (rows_more files file q ∙ other_file (list_any (is_file_of q) files) (is_file_of q file) (sum_by (part q) files) file.rows (ap (λ b. b && is_eq (table_order q (file.name.schema, file.name.name))) none));
}

pub added : (files : List FileLine) (file : FileLine) (tables : List (TableNames × ℕ)) (v : ℕ) → IsTableList files tables → names_table file.name.kind ≡ true
    → v ≡ min (2 ^ 64 - 1) (unwrap_or (entry_of (file.name.schema, file.name.name) tables) 0 + file.rows)
    → IsTableList (files ++ file ∷ []) (insert_entry table_order tables (file.name.schema, file.name.name) v)
added files file tables v list some value = record {
  order = put_sorted tables table v list.order;
  rows = λ q. put_found tables table v q ∙ by q (is_eq (table_order q table)) refl ∙ sym (rows_more files file q);
} where
  table : TableNames
  table = (file.name.schema, file.name.name)

  is_own : (q : TableNames) (b : Bool) → is_eq (table_order q table) ≡ b → is_file_of q file ≡ b
  is_own q b is = (λ i. some i && is i)

  same : (q : TableNames) → is_eq (table_order q table) ≡ true → q ≡ table
  same q is = at (table_order q table) refl is where
    at : (r : Ordering) → table_order q table ≡ r → is_eq r ≡ true → q ≡ table
    at Less there h = cc h
    at Equal there h = tables_exact q table there
    at Greater there h = cc h

  by : (q : TableNames) (b : Bool) → is_eq (table_order q table) ≡ b → cond b (Some v) (entry_of q tables)
      ≡ together (list_any (is_file_of q) files || (is_file_of q file || false)) (sum_by (part q) files + part q file)
  by q true is =
      let there : v ≡ min (2 ^ 64 - 1) (unwrap_or (together (list_any (is_file_of q) files) (sum_by (part q) files)) 0 + file.rows) =
      value ∙ ap (λ t. min (2 ^ 64 - 1) (unwrap_or (entry_of t tables) 0 + file.rows)) (sym (same q is)) ∙ ap (λ o. min (2 ^ 64 - 1) (unwrap_or o 0 + file.rows)) (list.rows q) in
      sym (own_file (list_any (is_file_of q) files) (is_file_of q file) (sum_by (part q) files) file.rows v (is_own q true is) (no_sum files q) there)
  by q false is = list.rows q ∙ sym (other_file (list_any (is_file_of q) files) (is_file_of q file) (sum_by (part q) files) file.rows (is_own q false is))

-- there is a list of tables

pub record HasTables (files : List FileLine) : Type 0 where
  pub tables : List (TableNames × ℕ)
  pub are : IsTableList files tables

with_more : (done left : List FileLine) (tables : List (TableNames × ℕ)) → IsTableList done tables → HasTables (done ++ left)
with_more done [] tables list = record { tables = tables; are = subst (λ l. IsTableList l tables) (sym (append-nil done)) list }
with_more done (file ∷ left) tables list = by (names_table file.name.kind) refl (with_more (done ++ file ∷ []) left) where
  regroup : (done ++ file ∷ []) ++ left ≡ done ++ file ∷ left
  regroup = append_assoc done (file ∷ []) left

  by : (b : Bool) → names_table file.name.kind ≡ b → ((t : List (TableNames × ℕ)) → IsTableList (done ++ file ∷ []) t → HasTables ((done ++ file ∷ []) ++ left)) → HasTables (done ++ file ∷ left)
  by true is more = subst HasTables regroup (more _ (added done file tables _ list is refl))
  by false is more = subst HasTables regroup (more tables (other_added done file tables list is))

pub has_tables : (files : List FileLine) → HasTables files
has_tables files = with_more [] files [] no_tables

-- there is one list of tables

no_entry : (v : ℕ) → None ≡ Some v → ⊥
no_entry v e = cc e

pub at_head : (e : TableNames × ℕ) (es : List (TableNames × ℕ)) → entry_of e.0 (e ∷ es) ≡ Some e.1
at_head e es = lookup_head (is_at (table_order e.0)) e es (ap is_eq (tied_itself tables_total e.0))

pub past_head : (q : TableNames) (e : TableNames × ℕ) (es : List (TableNames × ℕ)) → IsStrictlySortedBy table_order (keys_of (e ∷ es)) → is_eq (table_order q e.0) ≡ true → entry_of q es ≡ None
past_head q e es sorted same = lookup-none (is_at (table_order q)) es (none_past_head (eq_by_cmp_equiv tables_total) q e es (IsDistinct-from_sorted table_order _ sorted) same)

before_head : (q : TableNames) (e : TableNames × ℕ) (es : List (TableNames × ℕ)) → IsStrictlySortedBy table_order (keys_of (e ∷ es)) → table_order q e.0 ≡ Less → entry_of q (e ∷ es) ≡ None
before_head q e es sorted less = lookup-none (is_at (table_order q)) (e ∷ es) (none_below_head tables_total q e es sorted less)

module _ (e f : TableNames × ℕ) (es fs : List (TableNames × ℕ)) (s : IsStrictlySortedBy table_order (keys_of (e ∷ es))) (t : IsStrictlySortedBy table_order (keys_of (f ∷ fs)))
    (h : (q : TableNames) → entry_of q (e ∷ es) ≡ entry_of q (f ∷ fs)) where
  heads_by : (r : Ordering) → table_order e.0 f.0 ≡ r → e.0 ≡ f.0
  heads_by Less is = absurd (no_entry e.1 (sym (before_head e.0 f fs t is) ∙ sym (h e.0) ∙ at_head e es))
  heads_by Equal is = tables_exact e.0 f.0 is
  heads_by Greater is = absurd (no_entry f.1 (sym (before_head f.0 e es s (tables_total.antisymm f.0 e.0 ∙ ap ordering_reverse is)) ∙ h f.0 ∙ at_head f fs))

  heads : e.0 ≡ f.0
  heads = heads_by (table_order e.0 f.0) refl

  values : e.1 ≡ f.1
  values = ap (λ o. unwrap_or o 0) (sym (at_head e es) ∙ h e.0 ∙ ap (λ q. entry_of q (f ∷ fs)) heads ∙ at_head f fs)

  tails_by : (q : TableNames) (b : Bool) → is_eq (table_order q e.0) ≡ b → entry_of q es ≡ entry_of q fs
  tails_by q true is = past_head q e es s is ∙ sym (past_head q f fs t (ap (λ x. is_eq (table_order q x)) (sym heads) ∙ is))
  tails_by q false is = sym (lookup_tail (is_at (table_order q)) e es is) ∙ h q ∙ lookup_tail (is_at (table_order q)) f fs (ap (λ x. is_eq (table_order q x)) (sym heads) ∙ is)

  tails : (q : TableNames) → entry_of q es ≡ entry_of q fs
  tails q = tails_by q (is_eq (table_order q e.0)) refl

same_entries : (es fs : List (TableNames × ℕ)) → IsStrictlySortedBy table_order (keys_of es) → IsStrictlySortedBy table_order (keys_of fs) → ((q : TableNames) → entry_of q es ≡ entry_of q fs) → es ≡ fs
same_entries [] [] s t h = refl
same_entries [] (f ∷ fs) s t h = absurd (no_entry f.1 (h f.0 ∙ at_head f fs))
same_entries (e ∷ es) [] s t h = absurd (no_entry e.1 (sym (h e.0) ∙ at_head e es))
same_entries (e ∷ es) (f ∷ fs) s t h =
    let rest = same_entries es fs (sorted_tail table_order e.0 (keys_of es) s) (sorted_tail table_order f.0 (keys_of fs) t) (tails e f es fs s t h) in
    λ i. (heads e f es fs s t h i, values e f es fs s t h i) ∷ rest i

pub one_table_list : (files : List FileLine) (a b : List (TableNames × ℕ)) → IsTableList files a → IsTableList files b → a ≡ b
one_table_list files a b s t = same_entries a b s.order t.order (λ q. s.rows q ∙ sym (t.rows q))

-- entries whose names are lent

-- the order of names that are lent
abbrev pub lent_order : Bor (List ℕ) × Bor (List ℕ) → Bor (List ℕ) × Bor (List ℕ) → Ordering
lent_order a b = ordering_then (slice_cmp nat_cmp a.0.now b.0.now) (slice_cmp nat_cmp a.1.now b.1.now)

pub plain_put : (es : List ((Bor (List ℕ) × Bor (List ℕ)) × ℕ)) (k : Bor (List ℕ) × Bor (List ℕ)) (v : ℕ) → plain_tables (insert_entry lent_order es k v) ≡ insert_entry table_order (plain_tables es) (k.0.now, k.1.now) v
plain_put [] k v = refl
plain_put (e ∷ es) k v = by (lent_order k e.0) (plain_put es k v) where
  by : (r : Ordering) → plain_tables (insert_entry lent_order es k v) ≡ insert_entry table_order (plain_tables es) (k.0.now, k.1.now) v
      → plain_tables (match_ordering r ((k, v) ∷ e ∷ es) ((e.0, v) ∷ es) (e ∷ insert_entry lent_order es k v))
      ≡ match_ordering r (((k.0.now, k.1.now), v) ∷ plain_tables (e ∷ es)) (((e.0.0.now, e.0.1.now), v) ∷ plain_tables es) (((e.0.0.now, e.0.1.now), e.1) ∷ insert_entry table_order (plain_tables es) (k.0.now, k.1.now) v)
  by Less rest = refl
  by Equal rest = refl
  by Greater rest = ap (λ l. ((e.0.0.now, e.0.1.now), e.1) ∷ l) rest

pub plain_found : (es : List ((Bor (List ℕ) × Bor (List ℕ)) × ℕ)) (k : Bor (List ℕ) × Bor (List ℕ)) → lookup (is_at (lent_order k)) es ≡ entry_of (k.0.now, k.1.now) (plain_tables es)
plain_found [] k = refl
plain_found (e ∷ es) k = ap (cond (is_eq (lent_order k e.0)) (Some e.1)) (plain_found es k)

-- one file more, by what a map of lent names gives
pub counted : (files : List FileLine) (file : FileLine) (es fs : List ((Bor (List ℕ) × Bor (List ℕ)) × ℕ)) (k : Bor (List ℕ) × Bor (List ℕ)) (v : ℕ) (o : Option ℕ)
    → IsTableList files (plain_tables es) → names_table file.name.kind ≡ true → k.0.now ≡ file.name.schema → k.1.now ≡ file.name.name
    → o ≡ lookup (is_at (lent_order k)) es → v ≡ min (unwrap_or o 0 + file.rows) (2 ^ 64 - 1) → fs ≡ insert_entry lent_order es k v → IsTableList (files ++ file ∷ []) (plain_tables fs)
counted files file es fs k v o list some schema name found value put =
    let names : ◌≡◌ {A = TableNames} (k.0.now, k.1.now) (file.name.schema, file.name.name) = (λ i. (schema i, name i)) in
    let there : o ≡ entry_of (file.name.schema, file.name.name) (plain_tables es) = found ∙ plain_found es k ∙ ap (λ t. entry_of t (plain_tables es)) names in
    let sum : v ≡ min (2 ^ 64 - 1) (unwrap_or (entry_of (file.name.schema, file.name.name) (plain_tables es)) 0 + file.rows) = omega (arith, value, ap (λ x. unwrap_or x 0) there) in
    subst (IsTableList (files ++ file ∷ [])) (sym (ap plain_tables put ∙ plain_put es k v ∙ ap (λ t. insert_entry table_order (plain_tables es) t v) names)) (added files file (plain_tables es) v list some sum)
