-- The forms of the queries for rows and keys.
use Rattle.std.proofs.Common.{◌≡◌, ℕ, List, [], ◌∷◌, ◌++◌, get_or, refl, sym, ◌∙◌, subst, arith, append_assoc, append-nil, codes, decimal, ℤ}
use Rattle.std.specs.Fmt.{signed_decimal}
use Rattle.sql_cells.specs.Name.{quoted_name}
use Rattle.statement_reading.specs.Slots.{HasParts, Place}
use Rattle.statement_reading.specs.Slots.Place.{word, part, again}
use Rattle.statement_forms.specs.Statement.{IsTextOf, QueryHasText, InRange}
use Rattle.statement_forms.specs.Text.{names, query_text}
use Rattle.statement_forms.specs.declared.query.Query.TheVariants.{Key, KeyAbove, Rows, RowsByKey, RowsAbove, RowsUpTo, RowsBetween}
use Rattle.statement_reading.specs.declared.reading.kind.PartKind.TheVariants.{Name, NameList, Count, Bound}
use Rattle.statement_forms.specs.declared.statement.Statement.{Statement}
use Rattle.statement_forms.specs.declared.statement.Statement.TheVariants.{Query as SomeQuery}
use Rattle.statement_reading.proofs.Forms.{Form, part_is, form_entries}
use Rattle.statement_reading.proofs.NameValues.{name_of, name_text, one_name, names_of, names_text, one_names}
use Rattle.statement_reading.proofs.NumberValues.{count_of, count_text, one_count, bound_of, bound_text, one_bound}
use Rattle.statement_reading.proofs.RowValues.{values_of}
use Rattle.statement_reading.proofs.Rows.{Row, made_of}
use Rattle.statement_reading.proofs.Spelled.{spelled, spelled_is, has_spelled}

-- One key of a table, in order, after so many others.

abbrev pub key_values : Type 0
key_values = List ℕ × List ℕ × List ℕ × ℕ

abbrev pub key_slots : List Place
key_slots = word (codes "SELECT ") ∷ part Name ∷ word (codes " FROM ") ∷ part Name ∷ word (codes ".") ∷ part Name ∷ word (codes " ORDER BY ") ∷ again 0 ∷ word (codes " LIMIT ") ∷ part Count ∷ word (codes ",1") ∷ []

abbrev pub key_made : key_values → Statement
key_made v = SomeQuery (Key v.0 v.1 v.2 v.3)

abbrev pub key_texts : key_values → List (List ℕ)
key_texts v = quoted_name v.0 ∷ quoted_name v.1 ∷ quoted_name v.2 ∷ decimal v.3 ∷ []

abbrev pub key_good : key_values → Type 0
key_good v = QueryHasText (Key v.0 v.1 v.2 v.3) × InRange (Key v.0 v.1 v.2 v.3)

key_flat : (w1 k w2 s w3 t wo wl d wc : List ℕ) → ((w1 ++ k ++ w2) ++ (s ++ w3 ++ t)) ++ (wo ++ k) ++ (wl ++ d ++ wc) ≡ w1 ++ (k ++ (w2 ++ (s ++ (w3 ++ (t ++ (wo ++ (k ++ (wl ++ (d ++ (wc ++ []))))))))))
key_flat w1 k w2 s w3 t wo wl d wc = simp (append_assoc, append-nil)

key_same : (v : key_values) → query_text (Key v.0 v.1 v.2 v.3) ≡ spelled key_slots 0 (key_texts v)
unfolding query_text
key_same v = key_flat (codes "SELECT ") (quoted_name v.0) (codes " FROM ") (quoted_name v.1) (codes ".") (quoted_name v.2) (codes " ORDER BY ") (codes " LIMIT ") (decimal v.3) (codes ",1")

pub key_form : Form key_slots (λ (v : key_values) t. IsTextOf (key_made v) t) key_good key_texts
key_form = record {
  clear = refl;
  to = λ v t h. subst (HasParts key_slots [] (key_texts v)) (sym (h.2 ∙ key_same v)) (has_spelled key_slots [] (key_texts v) 0 refl (name_text v.0, (name_text v.1, (name_text v.2, (count_text v.3 h.1, tt)))) refl refl);
  good = λ v t h. (h.0, h.1);
  from = λ v t good has. (good.0, good.1, spelled_is key_slots [] (key_texts v) t has ∙ sym (key_same v));
  some = λ parts t has.
      let (key, key_is) = name_of (get_or parts 0 []) (part_is key_slots [] parts t 0 has (omega arith)) in
      let (schema, schema_is) = name_of (get_or parts 1 []) (part_is key_slots [] parts t 1 has (omega arith)) in
      let (table, table_is) = name_of (get_or parts 2 []) (part_is key_slots [] parts t 2 has (omega arith)) in
      let (skipped, skipped_in, skipped_is) = count_of (get_or parts 3 []) (part_is key_slots [] parts t 3 has (omega arith)) in
      ((key, schema, table, skipped), (tt, skipped_in), (λ i. sym key_is i ∷ sym schema_is i ∷ sym table_is i ∷ sym skipped_is i ∷ []) ∙ form_entries key_slots parts t has);
  single = λ u v gu gv e.
      let key = one_name u.0 v.0 (cc) in
      let schema = one_name u.1 v.1 (cc) in
      let table = one_name u.2 v.2 (cc) in
      let skipped = one_count u.3 v.3 gu.1 gv.1 (cc) in
      (λ i. (key i, schema i, table i, skipped i));
}

pub key_row : Row 44 key_made (λ (v : key_values) t. IsTextOf (key_made v) t)
key_row = record {
  all = λ s e. (((values_of s).a, (values_of s).b, (values_of s).c, (values_of s).n), made_of 44 s e);
  row = λ v. refl;
  to = λ v t h. h;
  from = λ v t h. h;
}

-- One key above a bound, after so many others.

abbrev pub key_above_values : Type 0
key_above_values = List ℕ × List ℕ × List ℕ × ℤ × ℕ

abbrev pub key_above_slots : List Place
key_above_slots = word (codes "SELECT ") ∷ part Name ∷ word (codes " FROM ") ∷ part Name ∷ word (codes ".") ∷ part Name ∷ word (codes " WHERE ") ∷ again 0 ∷ word (codes " > ") ∷ part Bound ∷ word (codes " ORDER BY ") ∷ again 0 ∷ word (codes " LIMIT ") ∷ part Count ∷ word (codes ",1") ∷ []

abbrev pub key_above_made : key_above_values → Statement
key_above_made v = SomeQuery (KeyAbove v.0 v.1 v.2 v.3 v.4)

abbrev pub key_above_texts : key_above_values → List (List ℕ)
key_above_texts v = quoted_name v.0 ∷ quoted_name v.1 ∷ quoted_name v.2 ∷ signed_decimal v.3 ∷ decimal v.4 ∷ []

abbrev pub key_above_good : key_above_values → Type 0
key_above_good v = QueryHasText (KeyAbove v.0 v.1 v.2 v.3 v.4) × InRange (KeyAbove v.0 v.1 v.2 v.3 v.4)

key_above_flat : (w1 k w2 s w3 t ww wg b wo wl d wc : List ℕ) → ((w1 ++ k ++ w2) ++ (s ++ w3 ++ t)) ++ (ww ++ k ++ wg ++ b) ++ (wo ++ k) ++ (wl ++ d ++ wc) ≡ w1 ++ (k ++ (w2 ++ (s ++ (w3 ++ (t ++ (ww ++ (k ++ (wg ++ (b ++ (wo ++ (k ++ (wl ++ (d ++ (wc ++ []))))))))))))))
key_above_flat w1 k w2 s w3 t ww wg b wo wl d wc = simp (append_assoc, append-nil)

key_above_same : (v : key_above_values) → query_text (KeyAbove v.0 v.1 v.2 v.3 v.4) ≡ spelled key_above_slots 0 (key_above_texts v)
unfolding query_text
key_above_same v = key_above_flat (codes "SELECT ") (quoted_name v.0) (codes " FROM ") (quoted_name v.1) (codes ".") (quoted_name v.2) (codes " WHERE ") (codes " > ") (signed_decimal v.3) (codes " ORDER BY ") (codes " LIMIT ") (decimal v.4) (codes ",1")

pub key_above_form : Form key_above_slots (λ (v : key_above_values) t. IsTextOf (key_above_made v) t) key_above_good key_above_texts
key_above_form = record {
  clear = refl;
  to = λ v t h. subst (HasParts key_above_slots [] (key_above_texts v)) (sym (h.2 ∙ key_above_same v)) (has_spelled key_above_slots [] (key_above_texts v) 0 refl (name_text v.0, (name_text v.1, (name_text v.2, (bound_text v.3 h.1.0, (count_text v.4 h.1.1, tt))))) refl refl);
  good = λ v t h. (h.0, h.1);
  from = λ v t good has. (good.0, good.1, spelled_is key_above_slots [] (key_above_texts v) t has ∙ sym (key_above_same v));
  some = λ parts t has.
      let (key, key_is) = name_of (get_or parts 0 []) (part_is key_above_slots [] parts t 0 has (omega arith)) in
      let (schema, schema_is) = name_of (get_or parts 1 []) (part_is key_above_slots [] parts t 1 has (omega arith)) in
      let (table, table_is) = name_of (get_or parts 2 []) (part_is key_above_slots [] parts t 2 has (omega arith)) in
      let (above, above_in, above_is) = bound_of (get_or parts 3 []) (part_is key_above_slots [] parts t 3 has (omega arith)) in
      let (skipped, skipped_in, skipped_is) = count_of (get_or parts 4 []) (part_is key_above_slots [] parts t 4 has (omega arith)) in
      ((key, schema, table, above, skipped), (tt, (above_in, skipped_in)), (λ i. sym key_is i ∷ sym schema_is i ∷ sym table_is i ∷ sym above_is i ∷ sym skipped_is i ∷ []) ∙ form_entries key_above_slots parts t has);
  single = λ u v gu gv e.
      let key = one_name u.0 v.0 (cc) in
      let schema = one_name u.1 v.1 (cc) in
      let table = one_name u.2 v.2 (cc) in
      let above = one_bound u.3 v.3 gu.1.0 gv.1.0 (cc) in
      let skipped = one_count u.4 v.4 gu.1.1 gv.1.1 (cc) in
      (λ i. (key i, schema i, table i, above i, skipped i));
}

pub key_above_row : Row 45 key_above_made (λ (v : key_above_values) t. IsTextOf (key_above_made v) t)
key_above_row = record {
  all = λ s e. (((values_of s).a, (values_of s).b, (values_of s).c, (values_of s).y, (values_of s).n), made_of 45 s e);
  row = λ v. refl;
  to = λ v t h. h;
  from = λ v t h. h;
}

-- The rows of a table.

abbrev pub rows_values : Type 0
rows_values = List (List ℕ) × List ℕ × List ℕ

abbrev pub rows_slots : List Place
rows_slots = word (codes "SELECT ") ∷ part NameList ∷ word (codes " FROM ") ∷ part Name ∷ word (codes ".") ∷ part Name ∷ []

abbrev pub rows_made : rows_values → Statement
rows_made v = SomeQuery (Rows v.0 v.1 v.2)

abbrev pub rows_texts : rows_values → List (List ℕ)
rows_texts v = names v.0 ∷ quoted_name v.1 ∷ quoted_name v.2 ∷ []

abbrev pub rows_good : rows_values → Type 0
rows_good v = QueryHasText (Rows v.0 v.1 v.2) × InRange (Rows v.0 v.1 v.2)

rows_flat : (w1 l w2 s w3 t : List ℕ) → (w1 ++ l ++ w2) ++ (s ++ w3 ++ t) ≡ w1 ++ (l ++ (w2 ++ (s ++ (w3 ++ (t ++ [])))))
rows_flat w1 l w2 s w3 t = simp (append_assoc, append-nil)

rows_same : (v : rows_values) → query_text (Rows v.0 v.1 v.2) ≡ spelled rows_slots 0 (rows_texts v)
unfolding query_text
rows_same v = rows_flat (codes "SELECT ") (names v.0) (codes " FROM ") (quoted_name v.1) (codes ".") (quoted_name v.2)

pub rows_form : Form rows_slots (λ (v : rows_values) t. IsTextOf (rows_made v) t) rows_good rows_texts
rows_form = record {
  clear = refl;
  to = λ v t h. subst (HasParts rows_slots [] (rows_texts v)) (sym (h.2 ∙ rows_same v)) (has_spelled rows_slots [] (rows_texts v) 0 refl (names_text v.0 h.0, (name_text v.1, (name_text v.2, tt))) refl refl);
  good = λ v t h. (h.0, h.1);
  from = λ v t good has. (good.0, good.1, spelled_is rows_slots [] (rows_texts v) t has ∙ sym (rows_same v));
  some = λ parts t has.
      let (columns, columns_some, columns_is) = names_of (get_or parts 0 []) (part_is rows_slots [] parts t 0 has (omega arith)) in
      let (schema, schema_is) = name_of (get_or parts 1 []) (part_is rows_slots [] parts t 1 has (omega arith)) in
      let (table, table_is) = name_of (get_or parts 2 []) (part_is rows_slots [] parts t 2 has (omega arith)) in
      ((columns, schema, table), (columns_some, tt), (λ i. sym columns_is i ∷ sym schema_is i ∷ sym table_is i ∷ []) ∙ form_entries rows_slots parts t has);
  single = λ u v gu gv e.
      let columns = one_names u.0 v.0 gu.0 gv.0 (cc) in
      let schema = one_name u.1 v.1 (cc) in
      let table = one_name u.2 v.2 (cc) in
      (λ i. (columns i, schema i, table i));
}

pub rows_row : Row 46 rows_made (λ (v : rows_values) t. IsTextOf (rows_made v) t)
rows_row = record {
  all = λ s e. (((values_of s).columns, (values_of s).a, (values_of s).b), made_of 46 s e);
  row = λ v. refl;
  to = λ v t h. h;
  from = λ v t h. h;
}

-- The rows of a table in the order of its key.

abbrev pub rows_by_key_values : Type 0
rows_by_key_values = List (List ℕ) × List ℕ × List ℕ × List ℕ

abbrev pub rows_by_key_slots : List Place
rows_by_key_slots = word (codes "SELECT ") ∷ part NameList ∷ word (codes " FROM ") ∷ part Name ∷ word (codes ".") ∷ part Name ∷ word (codes " ORDER BY ") ∷ part Name ∷ []

abbrev pub rows_by_key_made : rows_by_key_values → Statement
rows_by_key_made v = SomeQuery (RowsByKey v.0 v.1 v.2 v.3)

abbrev pub rows_by_key_texts : rows_by_key_values → List (List ℕ)
rows_by_key_texts v = names v.0 ∷ quoted_name v.1 ∷ quoted_name v.2 ∷ quoted_name v.3 ∷ []

abbrev pub rows_by_key_good : rows_by_key_values → Type 0
rows_by_key_good v = QueryHasText (RowsByKey v.0 v.1 v.2 v.3) × InRange (RowsByKey v.0 v.1 v.2 v.3)

rows_by_key_flat : (w1 l w2 s w3 t wo k : List ℕ) → ((w1 ++ l ++ w2) ++ (s ++ w3 ++ t)) ++ (wo ++ k) ≡ w1 ++ (l ++ (w2 ++ (s ++ (w3 ++ (t ++ (wo ++ (k ++ [])))))))
rows_by_key_flat w1 l w2 s w3 t wo k = simp (append_assoc, append-nil)

rows_by_key_same : (v : rows_by_key_values) → query_text (RowsByKey v.0 v.1 v.2 v.3) ≡ spelled rows_by_key_slots 0 (rows_by_key_texts v)
unfolding query_text
rows_by_key_same v = rows_by_key_flat (codes "SELECT ") (names v.0) (codes " FROM ") (quoted_name v.1) (codes ".") (quoted_name v.2) (codes " ORDER BY ") (quoted_name v.3)

pub rows_by_key_form : Form rows_by_key_slots (λ (v : rows_by_key_values) t. IsTextOf (rows_by_key_made v) t) rows_by_key_good rows_by_key_texts
rows_by_key_form = record {
  clear = refl;
  to = λ v t h. subst (HasParts rows_by_key_slots [] (rows_by_key_texts v)) (sym (h.2 ∙ rows_by_key_same v)) (has_spelled rows_by_key_slots [] (rows_by_key_texts v) 0 refl (names_text v.0 h.0, (name_text v.1, (name_text v.2, (name_text v.3, tt)))) refl refl);
  good = λ v t h. (h.0, h.1);
  from = λ v t good has. (good.0, good.1, spelled_is rows_by_key_slots [] (rows_by_key_texts v) t has ∙ sym (rows_by_key_same v));
  some = λ parts t has.
      let (columns, columns_some, columns_is) = names_of (get_or parts 0 []) (part_is rows_by_key_slots [] parts t 0 has (omega arith)) in
      let (schema, schema_is) = name_of (get_or parts 1 []) (part_is rows_by_key_slots [] parts t 1 has (omega arith)) in
      let (table, table_is) = name_of (get_or parts 2 []) (part_is rows_by_key_slots [] parts t 2 has (omega arith)) in
      let (key, key_is) = name_of (get_or parts 3 []) (part_is rows_by_key_slots [] parts t 3 has (omega arith)) in
      ((columns, schema, table, key), (columns_some, tt), (λ i. sym columns_is i ∷ sym schema_is i ∷ sym table_is i ∷ sym key_is i ∷ []) ∙ form_entries rows_by_key_slots parts t has);
  single = λ u v gu gv e.
      let columns = one_names u.0 v.0 gu.0 gv.0 (cc) in
      let schema = one_name u.1 v.1 (cc) in
      let table = one_name u.2 v.2 (cc) in
      let key = one_name u.3 v.3 (cc) in
      (λ i. (columns i, schema i, table i, key i));
}

pub rows_by_key_row : Row 47 rows_by_key_made (λ (v : rows_by_key_values) t. IsTextOf (rows_by_key_made v) t)
rows_by_key_row = record {
  all = λ s e. (((values_of s).columns, (values_of s).a, (values_of s).b, (values_of s).c), made_of 47 s e);
  row = λ v. refl;
  to = λ v t h. h;
  from = λ v t h. h;
}

-- Those whose key is above a bound.

abbrev pub rows_above_values : Type 0
rows_above_values = List (List ℕ) × List ℕ × List ℕ × List ℕ × ℤ

abbrev pub rows_above_slots : List Place
rows_above_slots = word (codes "SELECT ") ∷ part NameList ∷ word (codes " FROM ") ∷ part Name ∷ word (codes ".") ∷ part Name ∷ word (codes " WHERE ") ∷ part Name ∷ word (codes " > ") ∷ part Bound ∷ word (codes " ORDER BY ") ∷ again 3 ∷ []

abbrev pub rows_above_made : rows_above_values → Statement
rows_above_made v = SomeQuery (RowsAbove v.0 v.1 v.2 v.3 v.4)

abbrev pub rows_above_texts : rows_above_values → List (List ℕ)
rows_above_texts v = names v.0 ∷ quoted_name v.1 ∷ quoted_name v.2 ∷ quoted_name v.3 ∷ signed_decimal v.4 ∷ []

abbrev pub rows_above_good : rows_above_values → Type 0
rows_above_good v = QueryHasText (RowsAbove v.0 v.1 v.2 v.3 v.4) × InRange (RowsAbove v.0 v.1 v.2 v.3 v.4)

rows_above_flat : (w1 l w2 s w3 t ww k wg b wo : List ℕ) → ((w1 ++ l ++ w2) ++ (s ++ w3 ++ t)) ++ (ww ++ k ++ wg ++ b) ++ (wo ++ k) ≡ w1 ++ (l ++ (w2 ++ (s ++ (w3 ++ (t ++ (ww ++ (k ++ (wg ++ (b ++ (wo ++ (k ++ [])))))))))))
rows_above_flat w1 l w2 s w3 t ww k wg b wo = simp (append_assoc, append-nil)

rows_above_same : (v : rows_above_values) → query_text (RowsAbove v.0 v.1 v.2 v.3 v.4) ≡ spelled rows_above_slots 0 (rows_above_texts v)
unfolding query_text
rows_above_same v = rows_above_flat (codes "SELECT ") (names v.0) (codes " FROM ") (quoted_name v.1) (codes ".") (quoted_name v.2) (codes " WHERE ") (quoted_name v.3) (codes " > ") (signed_decimal v.4) (codes " ORDER BY ")

pub rows_above_form : Form rows_above_slots (λ (v : rows_above_values) t. IsTextOf (rows_above_made v) t) rows_above_good rows_above_texts
rows_above_form = record {
  clear = refl;
  to = λ v t h. subst (HasParts rows_above_slots [] (rows_above_texts v)) (sym (h.2 ∙ rows_above_same v)) (has_spelled rows_above_slots [] (rows_above_texts v) 0 refl (names_text v.0 h.0, (name_text v.1, (name_text v.2, (name_text v.3, (bound_text v.4 h.1, tt))))) refl refl);
  good = λ v t h. (h.0, h.1);
  from = λ v t good has. (good.0, good.1, spelled_is rows_above_slots [] (rows_above_texts v) t has ∙ sym (rows_above_same v));
  some = λ parts t has.
      let (columns, columns_some, columns_is) = names_of (get_or parts 0 []) (part_is rows_above_slots [] parts t 0 has (omega arith)) in
      let (schema, schema_is) = name_of (get_or parts 1 []) (part_is rows_above_slots [] parts t 1 has (omega arith)) in
      let (table, table_is) = name_of (get_or parts 2 []) (part_is rows_above_slots [] parts t 2 has (omega arith)) in
      let (key, key_is) = name_of (get_or parts 3 []) (part_is rows_above_slots [] parts t 3 has (omega arith)) in
      let (above, above_in, above_is) = bound_of (get_or parts 4 []) (part_is rows_above_slots [] parts t 4 has (omega arith)) in
      ((columns, schema, table, key, above), (columns_some, above_in), (λ i. sym columns_is i ∷ sym schema_is i ∷ sym table_is i ∷ sym key_is i ∷ sym above_is i ∷ []) ∙ form_entries rows_above_slots parts t has);
  single = λ u v gu gv e.
      let columns = one_names u.0 v.0 gu.0 gv.0 (cc) in
      let schema = one_name u.1 v.1 (cc) in
      let table = one_name u.2 v.2 (cc) in
      let key = one_name u.3 v.3 (cc) in
      let above = one_bound u.4 v.4 gu.1 gv.1 (cc) in
      (λ i. (columns i, schema i, table i, key i, above i));
}

pub rows_above_row : Row 48 rows_above_made (λ (v : rows_above_values) t. IsTextOf (rows_above_made v) t)
rows_above_row = record {
  all = λ s e. (((values_of s).columns, (values_of s).a, (values_of s).b, (values_of s).c, (values_of s).y), made_of 48 s e);
  row = λ v. refl;
  to = λ v t h. h;
  from = λ v t h. h;
}

-- Those whose key is at most a bound.

abbrev pub rows_up_to_values : Type 0
rows_up_to_values = List (List ℕ) × List ℕ × List ℕ × List ℕ × ℤ

abbrev pub rows_up_to_slots : List Place
rows_up_to_slots = word (codes "SELECT ") ∷ part NameList ∷ word (codes " FROM ") ∷ part Name ∷ word (codes ".") ∷ part Name ∷ word (codes " WHERE ") ∷ part Name ∷ word (codes " <= ") ∷ part Bound ∷ word (codes " ORDER BY ") ∷ again 3 ∷ []

abbrev pub rows_up_to_made : rows_up_to_values → Statement
rows_up_to_made v = SomeQuery (RowsUpTo v.0 v.1 v.2 v.3 v.4)

abbrev pub rows_up_to_texts : rows_up_to_values → List (List ℕ)
rows_up_to_texts v = names v.0 ∷ quoted_name v.1 ∷ quoted_name v.2 ∷ quoted_name v.3 ∷ signed_decimal v.4 ∷ []

abbrev pub rows_up_to_good : rows_up_to_values → Type 0
rows_up_to_good v = QueryHasText (RowsUpTo v.0 v.1 v.2 v.3 v.4) × InRange (RowsUpTo v.0 v.1 v.2 v.3 v.4)

rows_up_to_flat : (w1 l w2 s w3 t ww k wu u wo : List ℕ) → ((w1 ++ l ++ w2) ++ (s ++ w3 ++ t)) ++ ww ++ k ++ wu ++ u ++ (wo ++ k) ≡ w1 ++ (l ++ (w2 ++ (s ++ (w3 ++ (t ++ (ww ++ (k ++ (wu ++ (u ++ (wo ++ (k ++ [])))))))))))
rows_up_to_flat w1 l w2 s w3 t ww k wu u wo = simp (append_assoc, append-nil)

rows_up_to_same : (v : rows_up_to_values) → query_text (RowsUpTo v.0 v.1 v.2 v.3 v.4) ≡ spelled rows_up_to_slots 0 (rows_up_to_texts v)
unfolding query_text
rows_up_to_same v = rows_up_to_flat (codes "SELECT ") (names v.0) (codes " FROM ") (quoted_name v.1) (codes ".") (quoted_name v.2) (codes " WHERE ") (quoted_name v.3) (codes " <= ") (signed_decimal v.4) (codes " ORDER BY ")

pub rows_up_to_form : Form rows_up_to_slots (λ (v : rows_up_to_values) t. IsTextOf (rows_up_to_made v) t) rows_up_to_good rows_up_to_texts
rows_up_to_form = record {
  clear = refl;
  to = λ v t h. subst (HasParts rows_up_to_slots [] (rows_up_to_texts v)) (sym (h.2 ∙ rows_up_to_same v)) (has_spelled rows_up_to_slots [] (rows_up_to_texts v) 0 refl (names_text v.0 h.0, (name_text v.1, (name_text v.2, (name_text v.3, (bound_text v.4 h.1, tt))))) refl refl);
  good = λ v t h. (h.0, h.1);
  from = λ v t good has. (good.0, good.1, spelled_is rows_up_to_slots [] (rows_up_to_texts v) t has ∙ sym (rows_up_to_same v));
  some = λ parts t has.
      let (columns, columns_some, columns_is) = names_of (get_or parts 0 []) (part_is rows_up_to_slots [] parts t 0 has (omega arith)) in
      let (schema, schema_is) = name_of (get_or parts 1 []) (part_is rows_up_to_slots [] parts t 1 has (omega arith)) in
      let (table, table_is) = name_of (get_or parts 2 []) (part_is rows_up_to_slots [] parts t 2 has (omega arith)) in
      let (key, key_is) = name_of (get_or parts 3 []) (part_is rows_up_to_slots [] parts t 3 has (omega arith)) in
      let (up_to, up_to_in, up_to_is) = bound_of (get_or parts 4 []) (part_is rows_up_to_slots [] parts t 4 has (omega arith)) in
      ((columns, schema, table, key, up_to), (columns_some, up_to_in), (λ i. sym columns_is i ∷ sym schema_is i ∷ sym table_is i ∷ sym key_is i ∷ sym up_to_is i ∷ []) ∙ form_entries rows_up_to_slots parts t has);
  single = λ u v gu gv e.
      let columns = one_names u.0 v.0 gu.0 gv.0 (cc) in
      let schema = one_name u.1 v.1 (cc) in
      let table = one_name u.2 v.2 (cc) in
      let key = one_name u.3 v.3 (cc) in
      let up_to = one_bound u.4 v.4 gu.1 gv.1 (cc) in
      (λ i. (columns i, schema i, table i, key i, up_to i));
}

pub rows_up_to_row : Row 49 rows_up_to_made (λ (v : rows_up_to_values) t. IsTextOf (rows_up_to_made v) t)
rows_up_to_row = record {
  all = λ s e. (((values_of s).columns, (values_of s).a, (values_of s).b, (values_of s).c, (values_of s).y), made_of 49 s e);
  row = λ v. refl;
  to = λ v t h. h;
  from = λ v t h. h;
}

-- Those whose key is above one bound and at most another.

abbrev pub rows_between_values : Type 0
rows_between_values = List (List ℕ) × List ℕ × List ℕ × List ℕ × ℤ × ℤ

abbrev pub rows_between_slots : List Place
rows_between_slots = word (codes "SELECT ") ∷ part NameList ∷ word (codes " FROM ") ∷ part Name ∷ word (codes ".") ∷ part Name ∷ word (codes " WHERE ") ∷ part Name ∷ word (codes " > ") ∷ part Bound ∷ word (codes " AND ") ∷ again 3 ∷ word (codes " <= ") ∷ part Bound ∷ word (codes " ORDER BY ") ∷ again 3 ∷ []

abbrev pub rows_between_made : rows_between_values → Statement
rows_between_made v = SomeQuery (RowsBetween v.0 v.1 v.2 v.3 v.4 v.5)

abbrev pub rows_between_texts : rows_between_values → List (List ℕ)
rows_between_texts v = names v.0 ∷ quoted_name v.1 ∷ quoted_name v.2 ∷ quoted_name v.3 ∷ signed_decimal v.4 ∷ signed_decimal v.5 ∷ []

abbrev pub rows_between_good : rows_between_values → Type 0
rows_between_good v = QueryHasText (RowsBetween v.0 v.1 v.2 v.3 v.4 v.5) × InRange (RowsBetween v.0 v.1 v.2 v.3 v.4 v.5)

rows_between_flat : (w1 l w2 s w3 t ww k wg b wa wu u wo : List ℕ) → ((w1 ++ l ++ w2) ++ (s ++ w3 ++ t)) ++ (ww ++ k ++ wg ++ b) ++ wa ++ k ++ wu ++ u ++ (wo ++ k) ≡ w1 ++ (l ++ (w2 ++ (s ++ (w3 ++ (t ++ (ww ++ (k ++ (wg ++ (b ++ (wa ++ (k ++ (wu ++ (u ++ (wo ++ (k ++ [])))))))))))))))
rows_between_flat w1 l w2 s w3 t ww k wg b wa wu u wo = simp (append_assoc, append-nil)

rows_between_same : (v : rows_between_values) → query_text (RowsBetween v.0 v.1 v.2 v.3 v.4 v.5) ≡ spelled rows_between_slots 0 (rows_between_texts v)
unfolding query_text
rows_between_same v = rows_between_flat (codes "SELECT ") (names v.0) (codes " FROM ") (quoted_name v.1) (codes ".") (quoted_name v.2) (codes " WHERE ") (quoted_name v.3) (codes " > ") (signed_decimal v.4) (codes " AND ") (codes " <= ") (signed_decimal v.5) (codes " ORDER BY ")

pub rows_between_form : Form rows_between_slots (λ (v : rows_between_values) t. IsTextOf (rows_between_made v) t) rows_between_good rows_between_texts
rows_between_form = record {
  clear = refl;
  to = λ v t h. subst (HasParts rows_between_slots [] (rows_between_texts v)) (sym (h.2 ∙ rows_between_same v)) (has_spelled rows_between_slots [] (rows_between_texts v) 0 refl (names_text v.0 h.0, (name_text v.1, (name_text v.2, (name_text v.3, (bound_text v.4 h.1.0, (bound_text v.5 h.1.1, tt)))))) refl refl);
  good = λ v t h. (h.0, h.1);
  from = λ v t good has. (good.0, good.1, spelled_is rows_between_slots [] (rows_between_texts v) t has ∙ sym (rows_between_same v));
  some = λ parts t has.
      let (columns, columns_some, columns_is) = names_of (get_or parts 0 []) (part_is rows_between_slots [] parts t 0 has (omega arith)) in
      let (schema, schema_is) = name_of (get_or parts 1 []) (part_is rows_between_slots [] parts t 1 has (omega arith)) in
      let (table, table_is) = name_of (get_or parts 2 []) (part_is rows_between_slots [] parts t 2 has (omega arith)) in
      let (key, key_is) = name_of (get_or parts 3 []) (part_is rows_between_slots [] parts t 3 has (omega arith)) in
      let (above, above_in, above_is) = bound_of (get_or parts 4 []) (part_is rows_between_slots [] parts t 4 has (omega arith)) in
      let (up_to, up_to_in, up_to_is) = bound_of (get_or parts 5 []) (part_is rows_between_slots [] parts t 5 has (omega arith)) in
      ((columns, schema, table, key, above, up_to), (columns_some, (above_in, up_to_in)), (λ i. sym columns_is i ∷ sym schema_is i ∷ sym table_is i ∷ sym key_is i ∷ sym above_is i ∷ sym up_to_is i ∷ []) ∙ form_entries rows_between_slots parts t has);
  single = λ u v gu gv e.
      let columns = one_names u.0 v.0 gu.0 gv.0 (cc) in
      let schema = one_name u.1 v.1 (cc) in
      let table = one_name u.2 v.2 (cc) in
      let key = one_name u.3 v.3 (cc) in
      let above = one_bound u.4 v.4 gu.1.0 gv.1.0 (cc) in
      let up_to = one_bound u.5 v.5 gu.1.1 gv.1.1 (cc) in
      (λ i. (columns i, schema i, table i, key i, above i, up_to i));
}

pub rows_between_row : Row 50 rows_between_made (λ (v : rows_between_values) t. IsTextOf (rows_between_made v) t)
rows_between_row = record {
  all = λ s e. (((values_of s).columns, (values_of s).a, (values_of s).b, (values_of s).c, (values_of s).y, (values_of s).z), made_of 50 s e);
  row = λ v. refl;
  to = λ v t h. h;
  from = λ v t h. h;
}
