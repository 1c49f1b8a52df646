-- The forms of the queries over keys of two to four columns.
use Rattle.std.proofs.Common.{◌≡◌, ℕ, List, [], ◌∷◌, ◌++◌, get_or, refl, sym, ◌∙◌, subst, arith, append_assoc, append-nil, codes, decimal, ℤ}
use Rattle.sql_cells.specs.Name.{quoted_name}
use Rattle.statement_reading.specs.Slots.{HasParts, Place}
use Rattle.statement_reading.specs.Slots.Place.{word, part, again}
use Rattle.statement_forms.specs.Statement.{IsTextOf, QueryHasText, InRange}
use Rattle.statement_forms.specs.Text.{names, numbers, query_text}
use Rattle.statement_forms.specs.declared.query.Query.TheVariants.{WideKey, WideKeyAbove, RowsByWideKey, RowsAboveWide, RowsUpToWide, RowsBetweenWide}
use Rattle.statement_reading.specs.declared.reading.kind.PartKind.TheVariants.{Name, NameList, Keys, Count, Bounds}
use Rattle.statement_forms.specs.declared.statement.Statement.{Statement}
use Rattle.statement_forms.specs.declared.statement.Statement.TheVariants.{Query as SomeQuery}
use Rattle.statement_reading.proofs.Forms.{Form, part_is, form_entries}
use Rattle.statement_reading.proofs.NameValues.{name_of, name_text, one_name, names_of, names_text, one_names}
use Rattle.statement_reading.proofs.NumberValues.{count_of, count_text, one_count}
use Rattle.statement_reading.proofs.RowValues.{values_of}
use Rattle.statement_reading.proofs.Rows.{Row, made_of}
use Rattle.statement_reading.proofs.Spelled.{spelled, spelled_is, has_spelled}
use Rattle.statement_reading.proofs.WideValues.{keys_text, keys_of, bounds_at, bounded_text, bounded_of, one_numbers}

-- One key of two to four columns, in order, after so many others.

abbrev pub wide_key_values : Type 0
wide_key_values = List (List ℕ) × List ℕ × List ℕ × ℕ

abbrev pub wide_key_slots : List Place
wide_key_slots = word (codes "SELECT ") ∷ part Keys ∷ word (codes " FROM ") ∷ part Name ∷ word (codes ".") ∷ part Name ∷ word (codes " ORDER BY ") ∷ again 0 ∷ word (codes " LIMIT ") ∷ part Count ∷ word (codes ",1") ∷ []

abbrev pub wide_key_made : wide_key_values → Statement
wide_key_made v = SomeQuery (WideKey v.0 v.1 v.2 v.3)

abbrev pub wide_key_texts : wide_key_values → List (List ℕ)
wide_key_texts v = names v.0 ∷ quoted_name v.1 ∷ quoted_name v.2 ∷ decimal v.3 ∷ []

abbrev pub wide_key_good : wide_key_values → Type 0
wide_key_good v = QueryHasText (WideKey v.0 v.1 v.2 v.3) × InRange (WideKey v.0 v.1 v.2 v.3)

wide_key_flat : (w1 k w2 s w3 t wo wl d wc : List ℕ) → ((w1 ++ k ++ w2) ++ (s ++ w3 ++ t)) ++ (wo ++ k) ++ (wl ++ d ++ wc) ≡ w1 ++ (k ++ (w2 ++ (s ++ (w3 ++ (t ++ (wo ++ (k ++ (wl ++ (d ++ (wc ++ []))))))))))
wide_key_flat w1 k w2 s w3 t wo wl d wc = simp (append_assoc, append-nil)

wide_key_same : (v : wide_key_values) → query_text (WideKey v.0 v.1 v.2 v.3) ≡ spelled wide_key_slots 0 (wide_key_texts v)
unfolding query_text
wide_key_same v = wide_key_flat (codes "SELECT ") (names v.0) (codes " FROM ") (quoted_name v.1) (codes ".") (quoted_name v.2) (codes " ORDER BY ") (codes " LIMIT ") (decimal v.3) (codes ",1")

pub wide_key_form : Form wide_key_slots (λ (v : wide_key_values) t. IsTextOf (wide_key_made v) t) wide_key_good wide_key_texts
wide_key_form = record {
  clear = refl;
  to = λ v t h. subst (HasParts wide_key_slots [] (wide_key_texts v)) (sym (h.2 ∙ wide_key_same v)) (has_spelled wide_key_slots [] (wide_key_texts v) 0 refl (keys_text v.0 h.0, (name_text v.1, (name_text v.2, (count_text v.3 h.1, tt)))) refl refl);
  good = λ v t h. (h.0, h.1);
  from = λ v t good has. (good.0, good.1, spelled_is wide_key_slots [] (wide_key_texts v) t has ∙ sym (wide_key_same v));
  some = λ parts t has.
      let (keys, keys_wide, keys_is) = keys_of (get_or parts 0 []) (part_is wide_key_slots [] parts t 0 has (omega arith)) in
      let (schema, schema_is) = name_of (get_or parts 1 []) (part_is wide_key_slots [] parts t 1 has (omega arith)) in
      let (table, table_is) = name_of (get_or parts 2 []) (part_is wide_key_slots [] parts t 2 has (omega arith)) in
      let (skipped, skipped_in, skipped_is) = count_of (get_or parts 3 []) (part_is wide_key_slots [] parts t 3 has (omega arith)) in
      ((keys, schema, table, skipped), (keys_wide, skipped_in), (λ i. sym keys_is i ∷ sym schema_is i ∷ sym table_is i ∷ sym skipped_is i ∷ []) ∙ form_entries wide_key_slots parts t has);
  single = λ u v gu gv e.
      let keys = one_names u.0 v.0 (omega (arith, gu.0.0)) (omega (arith, gv.0.0)) (cc) in
      let schema = one_name u.1 v.1 (cc) in
      let table = one_name u.2 v.2 (cc) in
      let skipped = one_count u.3 v.3 gu.1 gv.1 (cc) in
      (λ i. (keys i, schema i, table i, skipped i));
}

pub wide_key_row : Row 51 wide_key_made (λ (v : wide_key_values) t. IsTextOf (wide_key_made v) t)
wide_key_row = record {
  all = λ s e. (((values_of s).keys, (values_of s).a, (values_of s).b, (values_of s).n), made_of 51 s e);
  row = λ v. refl;
  to = λ v t h. h;
  from = λ v t h. h;
}

-- One such key above a bound, after so many others.

abbrev pub wide_key_above_values : Type 0
wide_key_above_values = List (List ℕ) × List ℕ × List ℕ × List ℤ × ℕ

abbrev pub wide_key_above_slots : List Place
wide_key_above_slots = word (codes "SELECT ") ∷ part Keys ∷ word (codes " FROM ") ∷ part Name ∷ word (codes ".") ∷ part Name ∷ word (codes " WHERE (") ∷ again 0 ∷ word (codes ") > (") ∷ part (Bounds 0) ∷ word (codes ") ORDER BY ") ∷ again 0 ∷ word (codes " LIMIT ") ∷ part Count ∷ word (codes ",1") ∷ []

abbrev pub wide_key_above_made : wide_key_above_values → Statement
wide_key_above_made v = SomeQuery (WideKeyAbove v.0 v.1 v.2 v.3 v.4)

abbrev pub wide_key_above_texts : wide_key_above_values → List (List ℕ)
wide_key_above_texts v = names v.0 ∷ quoted_name v.1 ∷ quoted_name v.2 ∷ numbers v.3 ∷ decimal v.4 ∷ []

abbrev pub wide_key_above_good : wide_key_above_values → Type 0
wide_key_above_good v = QueryHasText (WideKeyAbove v.0 v.1 v.2 v.3 v.4) × InRange (WideKeyAbove v.0 v.1 v.2 v.3 v.4)

wide_key_above_flat : (w1 k w2 s w3 t ww wp wq wg b wo wl d wc : List ℕ) → ((w1 ++ k ++ w2) ++ (s ++ w3 ++ t)) ++ ww ++ ((wp ++ k ++ wq) ++ wg ++ (wp ++ b ++ wq)) ++ (wo ++ k) ++ (wl ++ d ++ wc) ≡ w1 ++ (k ++ (w2 ++ (s ++ (w3 ++ (t ++ (ww ++ (wp ++ (k ++ (wq ++ (wg ++ (wp ++ (b ++ (wq ++ (wo ++ (k ++ (wl ++ (d ++ (wc ++ []))))))))))))))))))
wide_key_above_flat w1 k w2 s w3 t ww wp wq wg b wo wl d wc = simp (append_assoc, append-nil)

wide_key_above_same : (v : wide_key_above_values) → query_text (WideKeyAbove v.0 v.1 v.2 v.3 v.4) ≡ spelled wide_key_above_slots 0 (wide_key_above_texts v)
unfolding query_text
wide_key_above_same v = wide_key_above_flat (codes "SELECT ") (names v.0) (codes " FROM ") (quoted_name v.1) (codes ".") (quoted_name v.2) (codes " WHERE ") (codes "(") (codes ")") (codes " > ") (numbers v.3) (codes " ORDER BY ") (codes " LIMIT ") (decimal v.4) (codes ",1")

pub wide_key_above_form : Form wide_key_above_slots (λ (v : wide_key_above_values) t. IsTextOf (wide_key_above_made v) t) wide_key_above_good wide_key_above_texts
wide_key_above_form = record {
  clear = refl;
  to = λ v t h. subst (HasParts wide_key_above_slots [] (wide_key_above_texts v)) (sym (h.2 ∙ wide_key_above_same v)) (has_spelled wide_key_above_slots [] (wide_key_above_texts v) 0 refl (keys_text v.0 h.0.0, (name_text v.1, (name_text v.2, (bounded_text v.0 v.3 h.0 h.1.0, (count_text v.4 h.1.1, tt))))) refl refl);
  good = λ v t h. (h.0, h.1);
  from = λ v t good has. (good.0, good.1, spelled_is wide_key_above_slots [] (wide_key_above_texts v) t has ∙ sym (wide_key_above_same v));
  some = λ parts t has.
      let (keys, keys_wide, keys_is) = keys_of (get_or parts 0 []) (part_is wide_key_above_slots [] parts t 0 has (omega arith)) in
      let (schema, schema_is) = name_of (get_or parts 1 []) (part_is wide_key_above_slots [] parts t 1 has (omega arith)) in
      let (table, table_is) = name_of (get_or parts 2 []) (part_is wide_key_above_slots [] parts t 2 has (omega arith)) in
      let (above, above_bounded, above_in, above_is) = bounded_of keys (get_or parts 0 []) (get_or parts 3 []) keys_is keys_wide (bounds_at parts 3 0 (get_or parts 3 []) (omega arith) (part_is wide_key_above_slots [] parts t 3 has (omega arith))) in
      let (skipped, skipped_in, skipped_is) = count_of (get_or parts 4 []) (part_is wide_key_above_slots [] parts t 4 has (omega arith)) in
      ((keys, schema, table, above, skipped), (above_bounded, (above_in, skipped_in)), (λ i. sym keys_is i ∷ sym schema_is i ∷ sym table_is i ∷ sym above_is i ∷ sym skipped_is i ∷ []) ∙ form_entries wide_key_above_slots parts t has);
  single = λ u v gu gv e.
      let keys = one_names u.0 v.0 (omega (arith, gu.0.0.0)) (omega (arith, gv.0.0.0)) (cc) in
      let schema = one_name u.1 v.1 (cc) in
      let table = one_name u.2 v.2 (cc) in
      let above = one_numbers u.3 v.3 gu.1.0 gv.1.0 (omega (arith, gu.0.0.0, gu.0.1)) (omega (arith, gv.0.0.0, gv.0.1)) (cc) in
      let skipped = one_count u.4 v.4 gu.1.1 gv.1.1 (cc) in
      (λ i. (keys i, schema i, table i, above i, skipped i));
}

pub wide_key_above_row : Row 52 wide_key_above_made (λ (v : wide_key_above_values) t. IsTextOf (wide_key_above_made v) t)
wide_key_above_row = record {
  all = λ s e. (((values_of s).keys, (values_of s).a, (values_of s).b, (values_of s).above, (values_of s).n), made_of 52 s e);
  row = λ v. refl;
  to = λ v t h. h;
  from = λ v t h. h;
}

-- The rows of a table in the order of such a key.

abbrev pub rows_by_wide_key_values : Type 0
rows_by_wide_key_values = List (List ℕ) × List ℕ × List ℕ × List (List ℕ)

abbrev pub rows_by_wide_key_slots : List Place
rows_by_wide_key_slots = word (codes "SELECT ") ∷ part NameList ∷ word (codes " FROM ") ∷ part Name ∷ word (codes ".") ∷ part Name ∷ word (codes " ORDER BY ") ∷ part Keys ∷ []

abbrev pub rows_by_wide_key_made : rows_by_wide_key_values → Statement
rows_by_wide_key_made v = SomeQuery (RowsByWideKey v.0 v.1 v.2 v.3)

abbrev pub rows_by_wide_key_texts : rows_by_wide_key_values → List (List ℕ)
rows_by_wide_key_texts v = names v.0 ∷ quoted_name v.1 ∷ quoted_name v.2 ∷ names v.3 ∷ []

abbrev pub rows_by_wide_key_good : rows_by_wide_key_values → Type 0
rows_by_wide_key_good v = QueryHasText (RowsByWideKey v.0 v.1 v.2 v.3) × InRange (RowsByWideKey v.0 v.1 v.2 v.3)

rows_by_wide_key_flat : (w1 l w2 s w3 t wo k : List ℕ) → ((w1 ++ l ++ w2) ++ (s ++ w3 ++ t)) ++ (wo ++ k) ≡ w1 ++ (l ++ (w2 ++ (s ++ (w3 ++ (t ++ (wo ++ (k ++ [])))))))
rows_by_wide_key_flat w1 l w2 s w3 t wo k = simp (append_assoc, append-nil)

rows_by_wide_key_same : (v : rows_by_wide_key_values) → query_text (RowsByWideKey v.0 v.1 v.2 v.3) ≡ spelled rows_by_wide_key_slots 0 (rows_by_wide_key_texts v)
unfolding query_text
rows_by_wide_key_same v = rows_by_wide_key_flat (codes "SELECT ") (names v.0) (codes " FROM ") (quoted_name v.1) (codes ".") (quoted_name v.2) (codes " ORDER BY ") (names v.3)

pub rows_by_wide_key_form : Form rows_by_wide_key_slots (λ (v : rows_by_wide_key_values) t. IsTextOf (rows_by_wide_key_made v) t) rows_by_wide_key_good rows_by_wide_key_texts
rows_by_wide_key_form = record {
  clear = refl;
  to = λ v t h. subst (HasParts rows_by_wide_key_slots [] (rows_by_wide_key_texts v)) (sym (h.2 ∙ rows_by_wide_key_same v)) (has_spelled rows_by_wide_key_slots [] (rows_by_wide_key_texts v) 0 refl (names_text v.0 h.0.0, (name_text v.1, (name_text v.2, (keys_text v.3 h.0.1, tt)))) refl refl);
  good = λ v t h. (h.0, h.1);
  from = λ v t good has. (good.0, good.1, spelled_is rows_by_wide_key_slots [] (rows_by_wide_key_texts v) t has ∙ sym (rows_by_wide_key_same v));
  some = λ parts t has.
      let (columns, columns_some, columns_is) = names_of (get_or parts 0 []) (part_is rows_by_wide_key_slots [] parts t 0 has (omega arith)) in
      let (schema, schema_is) = name_of (get_or parts 1 []) (part_is rows_by_wide_key_slots [] parts t 1 has (omega arith)) in
      let (table, table_is) = name_of (get_or parts 2 []) (part_is rows_by_wide_key_slots [] parts t 2 has (omega arith)) in
      let (keys, keys_wide, keys_is) = keys_of (get_or parts 3 []) (part_is rows_by_wide_key_slots [] parts t 3 has (omega arith)) in
      ((columns, schema, table, keys), ((columns_some, keys_wide), tt), (λ i. sym columns_is i ∷ sym schema_is i ∷ sym table_is i ∷ sym keys_is i ∷ []) ∙ form_entries rows_by_wide_key_slots parts t has);
  single = λ u v gu gv e.
      let columns = one_names u.0 v.0 gu.0.0 gv.0.0 (cc) in
      let schema = one_name u.1 v.1 (cc) in
      let table = one_name u.2 v.2 (cc) in
      let keys = one_names u.3 v.3 (omega (arith, gu.0.1.0)) (omega (arith, gv.0.1.0)) (cc) in
      (λ i. (columns i, schema i, table i, keys i));
}

pub rows_by_wide_key_row : Row 53 rows_by_wide_key_made (λ (v : rows_by_wide_key_values) t. IsTextOf (rows_by_wide_key_made v) t)
rows_by_wide_key_row = record {
  all = λ s e. (((values_of s).columns, (values_of s).a, (values_of s).b, (values_of s).keys), made_of 53 s e);
  row = λ v. refl;
  to = λ v t h. h;
  from = λ v t h. h;
}

-- Those whose key is above a bound.

abbrev pub rows_above_wide_values : Type 0
rows_above_wide_values = List (List ℕ) × List ℕ × List ℕ × List (List ℕ) × List ℤ

abbrev pub rows_above_wide_slots : List Place
rows_above_wide_slots = word (codes "SELECT ") ∷ part NameList ∷ word (codes " FROM ") ∷ part Name ∷ word (codes ".") ∷ part Name ∷ word (codes " WHERE (") ∷ part Keys ∷ word (codes ") > (") ∷ part (Bounds 3) ∷ word (codes ") ORDER BY ") ∷ again 3 ∷ []

abbrev pub rows_above_wide_made : rows_above_wide_values → Statement
rows_above_wide_made v = SomeQuery (RowsAboveWide v.0 v.1 v.2 v.3 v.4)

abbrev pub rows_above_wide_texts : rows_above_wide_values → List (List ℕ)
rows_above_wide_texts v = names v.0 ∷ quoted_name v.1 ∷ quoted_name v.2 ∷ names v.3 ∷ numbers v.4 ∷ []

abbrev pub rows_above_wide_good : rows_above_wide_values → Type 0
rows_above_wide_good v = QueryHasText (RowsAboveWide v.0 v.1 v.2 v.3 v.4) × InRange (RowsAboveWide v.0 v.1 v.2 v.3 v.4)

rows_above_wide_flat : (w1 l w2 s w3 t ww wp k wq wg b wo : List ℕ) → ((w1 ++ l ++ w2) ++ (s ++ w3 ++ t)) ++ ww ++ ((wp ++ k ++ wq) ++ wg ++ (wp ++ b ++ wq)) ++ (wo ++ k) ≡ w1 ++ (l ++ (w2 ++ (s ++ (w3 ++ (t ++ (ww ++ (wp ++ (k ++ (wq ++ (wg ++ (wp ++ (b ++ (wq ++ (wo ++ (k ++ [])))))))))))))))
rows_above_wide_flat w1 l w2 s w3 t ww wp k wq wg b wo = simp (append_assoc, append-nil)

rows_above_wide_same : (v : rows_above_wide_values) → query_text (RowsAboveWide v.0 v.1 v.2 v.3 v.4) ≡ spelled rows_above_wide_slots 0 (rows_above_wide_texts v)
unfolding query_text
rows_above_wide_same v = rows_above_wide_flat (codes "SELECT ") (names v.0) (codes " FROM ") (quoted_name v.1) (codes ".") (quoted_name v.2) (codes " WHERE ") (codes "(") (names v.3) (codes ")") (codes " > ") (numbers v.4) (codes " ORDER BY ")

pub rows_above_wide_form : Form rows_above_wide_slots (λ (v : rows_above_wide_values) t. IsTextOf (rows_above_wide_made v) t) rows_above_wide_good rows_above_wide_texts
rows_above_wide_form = record {
  clear = refl;
  to = λ v t h. subst (HasParts rows_above_wide_slots [] (rows_above_wide_texts v)) (sym (h.2 ∙ rows_above_wide_same v)) (has_spelled rows_above_wide_slots [] (rows_above_wide_texts v) 0 refl (names_text v.0 h.0.0, (name_text v.1, (name_text v.2, (keys_text v.3 h.0.1.0, (bounded_text v.3 v.4 h.0.1 h.1, tt))))) refl refl);
  good = λ v t h. (h.0, h.1);
  from = λ v t good has. (good.0, good.1, spelled_is rows_above_wide_slots [] (rows_above_wide_texts v) t has ∙ sym (rows_above_wide_same v));
  some = λ parts t has.
      let (columns, columns_some, columns_is) = names_of (get_or parts 0 []) (part_is rows_above_wide_slots [] parts t 0 has (omega arith)) in
      let (schema, schema_is) = name_of (get_or parts 1 []) (part_is rows_above_wide_slots [] parts t 1 has (omega arith)) in
      let (table, table_is) = name_of (get_or parts 2 []) (part_is rows_above_wide_slots [] parts t 2 has (omega arith)) in
      let (keys, keys_wide, keys_is) = keys_of (get_or parts 3 []) (part_is rows_above_wide_slots [] parts t 3 has (omega arith)) in
      let (above, above_bounded, above_in, above_is) = bounded_of keys (get_or parts 3 []) (get_or parts 4 []) keys_is keys_wide (bounds_at parts 4 3 (get_or parts 4 []) (omega arith) (part_is rows_above_wide_slots [] parts t 4 has (omega arith))) in
      ((columns, schema, table, keys, above), ((columns_some, above_bounded), above_in), (λ i. sym columns_is i ∷ sym schema_is i ∷ sym table_is i ∷ sym keys_is i ∷ sym above_is i ∷ []) ∙ form_entries rows_above_wide_slots parts t has);
  single = λ u v gu gv e.
      let columns = one_names u.0 v.0 gu.0.0 gv.0.0 (cc) in
      let schema = one_name u.1 v.1 (cc) in
      let table = one_name u.2 v.2 (cc) in
      let keys = one_names u.3 v.3 (omega (arith, gu.0.1.0.0)) (omega (arith, gv.0.1.0.0)) (cc) in
      let above = one_numbers u.4 v.4 gu.1 gv.1 (omega (arith, gu.0.1.0.0, gu.0.1.1)) (omega (arith, gv.0.1.0.0, gv.0.1.1)) (cc) in
      (λ i. (columns i, schema i, table i, keys i, above i));
}

pub rows_above_wide_row : Row 54 rows_above_wide_made (λ (v : rows_above_wide_values) t. IsTextOf (rows_above_wide_made v) t)
rows_above_wide_row = record {
  all = λ s e. (((values_of s).columns, (values_of s).a, (values_of s).b, (values_of s).keys, (values_of s).above), made_of 54 s e);
  row = λ v. refl;
  to = λ v t h. h;
  from = λ v t h. h;
}

-- Those whose key is at most a bound.

abbrev pub rows_up_to_wide_values : Type 0
rows_up_to_wide_values = List (List ℕ) × List ℕ × List ℕ × List (List ℕ) × List ℤ

abbrev pub rows_up_to_wide_slots : List Place
rows_up_to_wide_slots = word (codes "SELECT ") ∷ part NameList ∷ word (codes " FROM ") ∷ part Name ∷ word (codes ".") ∷ part Name ∷ word (codes " WHERE (") ∷ part Keys ∷ word (codes ") <= (") ∷ part (Bounds 3) ∷ word (codes ") ORDER BY ") ∷ again 3 ∷ []

abbrev pub rows_up_to_wide_made : rows_up_to_wide_values → Statement
rows_up_to_wide_made v = SomeQuery (RowsUpToWide v.0 v.1 v.2 v.3 v.4)

abbrev pub rows_up_to_wide_texts : rows_up_to_wide_values → List (List ℕ)
rows_up_to_wide_texts v = names v.0 ∷ quoted_name v.1 ∷ quoted_name v.2 ∷ names v.3 ∷ numbers v.4 ∷ []

abbrev pub rows_up_to_wide_good : rows_up_to_wide_values → Type 0
rows_up_to_wide_good v = QueryHasText (RowsUpToWide v.0 v.1 v.2 v.3 v.4) × InRange (RowsUpToWide v.0 v.1 v.2 v.3 v.4)

rows_up_to_wide_flat : (w1 l w2 s w3 t ww wp k wq wu u wo : List ℕ) → ((w1 ++ l ++ w2) ++ (s ++ w3 ++ t)) ++ ww ++ ((wp ++ k ++ wq) ++ wu ++ (wp ++ u ++ wq)) ++ (wo ++ k) ≡ w1 ++ (l ++ (w2 ++ (s ++ (w3 ++ (t ++ (ww ++ (wp ++ (k ++ (wq ++ (wu ++ (wp ++ (u ++ (wq ++ (wo ++ (k ++ [])))))))))))))))
rows_up_to_wide_flat w1 l w2 s w3 t ww wp k wq wu u wo = simp (append_assoc, append-nil)

rows_up_to_wide_same : (v : rows_up_to_wide_values) → query_text (RowsUpToWide v.0 v.1 v.2 v.3 v.4) ≡ spelled rows_up_to_wide_slots 0 (rows_up_to_wide_texts v)
unfolding query_text
rows_up_to_wide_same v = rows_up_to_wide_flat (codes "SELECT ") (names v.0) (codes " FROM ") (quoted_name v.1) (codes ".") (quoted_name v.2) (codes " WHERE ") (codes "(") (names v.3) (codes ")") (codes " <= ") (numbers v.4) (codes " ORDER BY ")

pub rows_up_to_wide_form : Form rows_up_to_wide_slots (λ (v : rows_up_to_wide_values) t. IsTextOf (rows_up_to_wide_made v) t) rows_up_to_wide_good rows_up_to_wide_texts
rows_up_to_wide_form = record {
  clear = refl;
  to = λ v t h. subst (HasParts rows_up_to_wide_slots [] (rows_up_to_wide_texts v)) (sym (h.2 ∙ rows_up_to_wide_same v)) (has_spelled rows_up_to_wide_slots [] (rows_up_to_wide_texts v) 0 refl (names_text v.0 h.0.0, (name_text v.1, (name_text v.2, (keys_text v.3 h.0.1.0, (bounded_text v.3 v.4 h.0.1 h.1, tt))))) refl refl);
  good = λ v t h. (h.0, h.1);
  from = λ v t good has. (good.0, good.1, spelled_is rows_up_to_wide_slots [] (rows_up_to_wide_texts v) t has ∙ sym (rows_up_to_wide_same v));
  some = λ parts t has.
      let (columns, columns_some, columns_is) = names_of (get_or parts 0 []) (part_is rows_up_to_wide_slots [] parts t 0 has (omega arith)) in
      let (schema, schema_is) = name_of (get_or parts 1 []) (part_is rows_up_to_wide_slots [] parts t 1 has (omega arith)) in
      let (table, table_is) = name_of (get_or parts 2 []) (part_is rows_up_to_wide_slots [] parts t 2 has (omega arith)) in
      let (keys, keys_wide, keys_is) = keys_of (get_or parts 3 []) (part_is rows_up_to_wide_slots [] parts t 3 has (omega arith)) in
      let (up_to, up_to_bounded, up_to_in, up_to_is) = bounded_of keys (get_or parts 3 []) (get_or parts 4 []) keys_is keys_wide (bounds_at parts 4 3 (get_or parts 4 []) (omega arith) (part_is rows_up_to_wide_slots [] parts t 4 has (omega arith))) in
      ((columns, schema, table, keys, up_to), ((columns_some, up_to_bounded), up_to_in), (λ i. sym columns_is i ∷ sym schema_is i ∷ sym table_is i ∷ sym keys_is i ∷ sym up_to_is i ∷ []) ∙ form_entries rows_up_to_wide_slots parts t has);
  single = λ u v gu gv e.
      let columns = one_names u.0 v.0 gu.0.0 gv.0.0 (cc) in
      let schema = one_name u.1 v.1 (cc) in
      let table = one_name u.2 v.2 (cc) in
      let keys = one_names u.3 v.3 (omega (arith, gu.0.1.0.0)) (omega (arith, gv.0.1.0.0)) (cc) in
      let up_to = one_numbers u.4 v.4 gu.1 gv.1 (omega (arith, gu.0.1.0.0, gu.0.1.1)) (omega (arith, gv.0.1.0.0, gv.0.1.1)) (cc) in
      (λ i. (columns i, schema i, table i, keys i, up_to i));
}

pub rows_up_to_wide_row : Row 55 rows_up_to_wide_made (λ (v : rows_up_to_wide_values) t. IsTextOf (rows_up_to_wide_made v) t)
rows_up_to_wide_row = record {
  all = λ s e. (((values_of s).columns, (values_of s).a, (values_of s).b, (values_of s).keys, (values_of s).up_to), made_of 55 s e);
  row = λ v. refl;
  to = λ v t h. h;
  from = λ v t h. h;
}

-- Those whose key is above one bound and at most another.

abbrev pub rows_between_wide_values : Type 0
rows_between_wide_values = List (List ℕ) × List ℕ × List ℕ × List (List ℕ) × List ℤ × List ℤ

abbrev pub rows_between_wide_slots : List Place
rows_between_wide_slots = word (codes "SELECT ") ∷ part NameList ∷ word (codes " FROM ") ∷ part Name ∷ word (codes ".") ∷ part Name ∷ word (codes " WHERE (") ∷ part Keys ∷ word (codes ") > (") ∷ part (Bounds 3) ∷ word (codes ") AND (") ∷ again 3 ∷ word (codes ") <= (") ∷ part (Bounds 3) ∷ word (codes ") ORDER BY ") ∷ again 3 ∷ []

abbrev pub rows_between_wide_made : rows_between_wide_values → Statement
rows_between_wide_made v = SomeQuery (RowsBetweenWide v.0 v.1 v.2 v.3 v.4 v.5)

abbrev pub rows_between_wide_texts : rows_between_wide_values → List (List ℕ)
rows_between_wide_texts v = names v.0 ∷ quoted_name v.1 ∷ quoted_name v.2 ∷ names v.3 ∷ numbers v.4 ∷ numbers v.5 ∷ []

abbrev pub rows_between_wide_good : rows_between_wide_values → Type 0
rows_between_wide_good v = QueryHasText (RowsBetweenWide v.0 v.1 v.2 v.3 v.4 v.5) × InRange (RowsBetweenWide v.0 v.1 v.2 v.3 v.4 v.5)

rows_between_wide_flat : (w1 l w2 s w3 t ww wp k wq wg b wa wu u wo : List ℕ) → ((w1 ++ l ++ w2) ++ (s ++ w3 ++ t)) ++ ww ++ ((wp ++ k ++ wq) ++ wg ++ (wp ++ b ++ wq)) ++ wa ++ ((wp ++ k ++ wq) ++ wu ++ (wp ++ u ++ wq)) ++ (wo ++ k) ≡ w1 ++ (l ++ (w2 ++ (s ++ (w3 ++ (t ++ (ww ++ (wp ++ (k ++ (wq ++ (wg ++ (wp ++ (b ++ (wq ++ (wa ++ (wp ++ (k ++ (wq ++ (wu ++ (wp ++ (u ++ (wq ++ (wo ++ (k ++ [])))))))))))))))))))))))
rows_between_wide_flat w1 l w2 s w3 t ww wp k wq wg b wa wu u wo = simp (append_assoc, append-nil)

rows_between_wide_same : (v : rows_between_wide_values) → query_text (RowsBetweenWide v.0 v.1 v.2 v.3 v.4 v.5) ≡ spelled rows_between_wide_slots 0 (rows_between_wide_texts v)
unfolding query_text
rows_between_wide_same v = rows_between_wide_flat (codes "SELECT ") (names v.0) (codes " FROM ") (quoted_name v.1) (codes ".") (quoted_name v.2) (codes " WHERE ") (codes "(") (names v.3) (codes ")") (codes " > ") (numbers v.4) (codes " AND ") (codes " <= ") (numbers v.5) (codes " ORDER BY ")

pub rows_between_wide_form : Form rows_between_wide_slots (λ (v : rows_between_wide_values) t. IsTextOf (rows_between_wide_made v) t) rows_between_wide_good rows_between_wide_texts
rows_between_wide_form = record {
  clear = refl;
  to = λ v t h. subst (HasParts rows_between_wide_slots [] (rows_between_wide_texts v)) (sym (h.2 ∙ rows_between_wide_same v)) (has_spelled rows_between_wide_slots [] (rows_between_wide_texts v) 0 refl (names_text v.0 h.0.0, (name_text v.1, (name_text v.2, (keys_text v.3 h.0.1.0, (bounded_text v.3 v.4 h.0.1 h.1.0, (bounded_text v.3 v.5 h.0.2 h.1.1, tt)))))) refl refl);
  good = λ v t h. (h.0, h.1);
  from = λ v t good has. (good.0, good.1, spelled_is rows_between_wide_slots [] (rows_between_wide_texts v) t has ∙ sym (rows_between_wide_same v));
  some = λ parts t has.
      let (columns, columns_some, columns_is) = names_of (get_or parts 0 []) (part_is rows_between_wide_slots [] parts t 0 has (omega arith)) in
      let (schema, schema_is) = name_of (get_or parts 1 []) (part_is rows_between_wide_slots [] parts t 1 has (omega arith)) in
      let (table, table_is) = name_of (get_or parts 2 []) (part_is rows_between_wide_slots [] parts t 2 has (omega arith)) in
      let (keys, keys_wide, keys_is) = keys_of (get_or parts 3 []) (part_is rows_between_wide_slots [] parts t 3 has (omega arith)) in
      let (above, above_bounded, above_in, above_is) = bounded_of keys (get_or parts 3 []) (get_or parts 4 []) keys_is keys_wide (bounds_at parts 4 3 (get_or parts 4 []) (omega arith) (part_is rows_between_wide_slots [] parts t 4 has (omega arith))) in
      let (up_to, up_to_bounded, up_to_in, up_to_is) = bounded_of keys (get_or parts 3 []) (get_or parts 5 []) keys_is keys_wide (bounds_at parts 5 3 (get_or parts 5 []) (omega arith) (part_is rows_between_wide_slots [] parts t 5 has (omega arith))) in
      ((columns, schema, table, keys, above, up_to), ((columns_some, above_bounded, up_to_bounded), (above_in, up_to_in)), (λ i. sym columns_is i ∷ sym schema_is i ∷ sym table_is i ∷ sym keys_is i ∷ sym above_is i ∷ sym up_to_is i ∷ []) ∙ form_entries rows_between_wide_slots parts t has);
  single = λ u v gu gv e.
      let columns = one_names u.0 v.0 gu.0.0 gv.0.0 (cc) in
      let schema = one_name u.1 v.1 (cc) in
      let table = one_name u.2 v.2 (cc) in
      let keys = one_names u.3 v.3 (omega (arith, gu.0.1.0.0)) (omega (arith, gv.0.1.0.0)) (cc) in
      let above = one_numbers u.4 v.4 gu.1.0 gv.1.0 (omega (arith, gu.0.1.0.0, gu.0.1.1)) (omega (arith, gv.0.1.0.0, gv.0.1.1)) (cc) in
      let up_to = one_numbers u.5 v.5 gu.1.1 gv.1.1 (omega (arith, gu.0.2.0.0, gu.0.2.1)) (omega (arith, gv.0.2.0.0, gv.0.2.1)) (cc) in
      (λ i. (columns i, schema i, table i, keys i, above i, up_to i));
}

pub rows_between_wide_row : Row 56 rows_between_wide_made (λ (v : rows_between_wide_values) t. IsTextOf (rows_between_wide_made v) t)
rows_between_wide_row = record {
  all = λ s e. (((values_of s).columns, (values_of s).a, (values_of s).b, (values_of s).keys, (values_of s).above, (values_of s).up_to), made_of 56 s e);
  row = λ v. refl;
  to = λ v t h. h;
  from = λ v t h. h;
}
