-- Queries over a key of two columns, and databases in which it stands once or twice.
use lib.Utf8.{encode}
use Rattle.std.proofs.Common.{◌≡◌, ◌≢◌, ℕ, ℤ, Bool, true, false, List, [], ◌∷◌, Option, Some, None, refl, ap, sym, ◌∙◌, subst, arith, codes, pos, ◌⊎◌, inl, inr, map, filter, filter_map, take, drop, All, IfSome}
use Rattle.std.proofs.lemmas.Bool.{false≢true, true≢false}
use Rattle.std.proofs.lemmas.List.Elements.{All-cons, All-nil}
use Rattle.std.proofs.lemmas.List.Kept.{AllPairs-cons}
use Rattle.std.proofs.lemmas.List.Sums.{AllPass-from_list_all}
use Rattle.std.specs.Str.{chars, is_utf8}
use Rattle.object_forms.specs.Shape.{TableCounter, counter}
use Rattle.object_forms.specs.Token.{tokens}
use Rattle.object_forms.specs.declared.shape.Column.{Column}
use Rattle.server_data.specs.Bag.{IsSameBag, count_of}
use Rattle.server_data.specs.Fold.{change_db, db, has_object, may_make, rows_of}
use Rattle.server_data.specs.History.{none_left}
use Rattle.server_data.specs.declared.data.Change.TheVariants.{Make, Put}
use Rattle.server_data.specs.declared.data.Database.{Database}
use Rattle.sql_cells.specs.declared.cell.Cell.{Cell}
use Rattle.sql_cells.specs.declared.cell.Cell.TheVariants.{Value}
use Rattle.honest_server.specs.Columns.{are_numbers, plain_columns}
use Rattle.honest_server.specs.Link.{IsSoundState}
use Rattle.honest_server.specs.WellFormed.{HasGoodMark, HasGoodRows, HasItsHead, IsCountedWhere, IsShaped, IsSound, IsWellFormedObject, is_name}
use Rattle.honest_server.specs.WideKey.{HasWideKey, HasWideKeys, KeepsWideKey, KeepsWideKeys, are_in_types, columns_at, integers_at, is_within, key_cells, no_bounds, wide_key, wide_keys_rise}
use Rattle.honest_examples.specs.WideKeys.{AWideKeyIsNamedInItsOrder, AWideKeyMayStandTwice, BoundsAreComparedAsLists, RowsComeInTheOrderOfTheWideKey, WideKeysAreSkipped, history, keys, one_one, one_two, table, table_text, the_table, turned, two_zero, wide_link, with_rows}
use Rattle.honest_examples.specs.Worked.{schema, server, the_schema, unmarked}
use Rattle.honest_examples.proofs.Bags.{first_of_three, other_order, rotated, same_rows}
use Rattle.honest_examples.proofs.Returning.{two_empty}
use Rattle.honest_examples.proofs.SideBySide.{narrow, schema_narrow}
use Rattle.honest_examples.proofs.Soundness.{all_of_one, good_schema, printed_in}
use Rattle.honest_examples.proofs.Worked.{schema_named}
use Rattle.plain_data.proofs.Options.{same_some}

-- the table's key is both its columns

abbrev both : List ℕ
both = 0 ∷ 1 ∷ []

key_is : wide_key the_table ≡ Some both
unfolding tokens is_utf8 chars encode
key_is = refl

abbrev by_both : HasWideKey the_table keys
by_both = record { indices = both; key_is = key_is; columns = the_table.columns; columns_are = refl; names = refl }

are_both : (indices : List ℕ) → wide_key the_table ≡ Some indices → indices ≡ both
are_both indices is = same_some (sym is ∙ key_is)

pub as_lists : BoundsAreComparedAsLists
as_lists = record { later_differs = refl; turned_round = refl; same = refl }

-- what a row shows in the key's columns, and where it stands
abbrev key_of : List Cell → Option (List ℤ)
key_of cells = integers_at the_table.columns both cells

abbrev rise : List (List Cell) → Bool
rise rows = wide_keys_rise (map key_of rows)

-- one of the three
abbrev IsOne : List Cell → Type 0
IsOne cells = (cells ≡ two_zero) ⊎ ((cells ≡ one_one) ⊎ (cells ≡ one_two))

-- none of them stands before (1,1)
second : (first cells : List Cell) (rows : List (List Cell)) → IsOne first → rise (first ∷ cells ∷ rows) ≡ true → one_one ∷ [] ≡ filter_map (key_cells the_table.columns both) (cells ∷ []) → ⊥
second first [] rows is_first rises shown = absurd (cc)
second first (cell ∷ []) rows is_first rises shown = absurd (cc)
second first (cell ∷ other ∷ cells) rows (inl is) rises shown = let is_cell : cell ≡ Value (codes "1") = cc in let is_other : other ≡ Value (codes "1") = cc in false≢true (rw (is, is_cell, is_other) at rises)
second first (cell ∷ other ∷ cells) rows (inr (inl is)) rises shown = let is_cell : cell ≡ Value (codes "1") = cc in let is_other : other ≡ Value (codes "1") = cc in false≢true (rw (is, is_cell, is_other) at rises)
second first (cell ∷ other ∷ cells) rows (inr (inr is)) rises shown = let is_cell : cell ≡ Value (codes "1") = cc in let is_other : other ≡ Value (codes "1") = cc in false≢true (rw (is, is_cell, is_other) at rises)

of_whole : (whole : List (List Cell)) → IsSameBag whole (two_zero ∷ one_one ∷ one_two ∷ []) → rise whole ≡ true → one_one ∷ [] ≡ filter_map (key_cells the_table.columns both) (take 1 (drop 1 whole)) → ⊥
of_whole [] same rises shown = absurd (cc)
of_whole (first ∷ []) same rises shown = absurd (cc)
of_whole (first ∷ cells ∷ rows) same rises shown = second first cells rows (first_of_three first two_zero one_one one_two (cells ∷ rows) same) rises shown

pub skipped : WideKeysAreSkipped
unfolding rows_of
skipped = record {
  allowed = record { has_key = by_both; whole = one_one ∷ one_two ∷ two_zero ∷ []; in_order = record { same = rotated one_one one_two two_zero; rise = refl }; rows_are = refl };
  none_left = record { has_key = by_both; whole = one_one ∷ one_two ∷ two_zero ∷ []; in_order = record { same = rotated one_one one_two two_zero; rise = refl }; rows_are = refl };
  above = record { has_key = by_both; whole = two_zero ∷ []; in_order = record { same = same_rows _; rise = refl }; rows_are = refl };
  refused = λ answer. never answer.has_key.indices answer.has_key.key_is answer.whole answer.in_order.same answer.in_order.rise answer.rows_are;
}
  where
    never : (indices : List ℕ) → wide_key the_table ≡ Some indices → (whole : List (List Cell)) → IsSameBag whole (filter (λ row. is_within no_bounds (integers_at the_table.columns indices row)) (two_zero ∷ one_one ∷ one_two ∷ [])) → wide_keys_rise (map (integers_at the_table.columns indices) whole) ≡ true
        → one_one ∷ [] ≡ filter_map (key_cells the_table.columns indices) (take 1 (drop 1 whole)) → ⊥
    never indices is whole bag rises shown =
        of_whole whole
        (subst (λ indices. IsSameBag whole (filter (λ row. is_within no_bounds (integers_at the_table.columns indices row)) (two_zero ∷ one_one ∷ one_two ∷ []))) (are_both indices is) bag)
        (subst (λ indices. wide_keys_rise (map (integers_at the_table.columns indices) whole) ≡ true) (are_both indices is) rises)
        (subst (λ indices. one_one ∷ [] ≡ filter_map (key_cells the_table.columns indices) (take 1 (drop 1 whole))) (are_both indices is) shown)

pub in_order : RowsComeInTheOrderOfTheWideKey
unfolding rows_of count_of
in_order = record {
  all = record { all_columns = refl; has_key = by_both; in_order = record { same = rotated one_one one_two two_zero; rise = refl } };
  above = record { all_columns = refl; has_key = by_both; in_order = record { same = other_order one_two two_zero; rise = refl } };
  above_last = record { all_columns = refl; has_key = by_both; in_order = record { same = same_rows _; rise = refl } };
  up_to = record { all_columns = refl; has_key = by_both; in_order = record { same = same_rows _; rise = refl } };
  out_of_order = λ answer. turned_rows answer.has_key.indices answer.has_key.key_is answer.in_order.rise;
  refused = λ answer. below answer.has_key.indices answer.has_key.key_is answer.in_order.same;
}
  where
    turned_rows : (indices : List ℕ) → wide_key the_table ≡ Some indices → wide_keys_rise (map (integers_at the_table.columns indices) (two_zero ∷ one_two ∷ [])) ≡ true → ⊥
    turned_rows indices is rises = false≢true (subst (λ indices. wide_keys_rise (map (integers_at the_table.columns indices) (two_zero ∷ one_two ∷ [])) ≡ true) (are_both indices is) rises)

    below : (indices : List ℕ) → wide_key the_table ≡ Some indices → IsSameBag (one_two ∷ two_zero ∷ []) (filter (λ row. is_within (record { above = Some (pos 1 ∷ pos 2 ∷ []); up_to = None }) (integers_at the_table.columns indices row)) (two_zero ∷ one_one ∷ one_two ∷ [])) → ⊥
    below indices is bag = absurd (cc ((subst (λ indices. IsSameBag (one_two ∷ two_zero ∷ []) (filter (λ row. is_within (record { above = Some (pos 1 ∷ pos 2 ∷ []); up_to = None }) (integers_at the_table.columns indices row)) (two_zero ∷ one_one ∷ one_two ∷ []))) (are_both indices is) bag).counts one_two))

-- the first byte of the first name
abbrev first_byte : List (List ℕ) → ℕ
first_byte ((byte ∷ bytes) ∷ names) = byte
first_byte names = 0

-- the columns of the key stand in one order
other_order_of_names : HasWideKey the_table turned → ⊥
other_order_of_names has = omega (arith, ap first_byte (sym has.names ∙ ap (λ (columns : List Column). map (λ column. column.name) columns) columns))
  where
    columns : has.columns ≡ the_table.columns
    columns = same_some (sym has.columns_are ∙ ap (λ (indices : List ℕ). columns_at the_table.columns indices) (are_both has.indices has.key_is))

pub named : AWideKeyIsNamedInItsOrder
named = record {
  refused = λ rows answer. other_order_of_names answer.has_key;
  rows_refused = λ rows answer. other_order_of_names answer.has_key;
  part = λ rows answer. absurd (cc (answer.has_key.key_is));
}

-- keys that stand twice

stands_once : db (history (one_one ∷ one_two ∷ [])) ≡ Some (with_rows (one_one ∷ one_two ∷ []))
unfolding change_db has_object may_make
stands_once = refl

stands_twice : db (history (one_one ∷ one_one ∷ [])) ≡ Some (with_rows (one_one ∷ one_one ∷ []))
unfolding change_db has_object may_make
stands_twice = refl

rows_are : (rows : List (List Cell)) → rows_of (with_rows rows) schema table ≡ rows
unfolding rows_of
rows_are [] = refl
rows_are (cells ∷ rows) = ap (λ (rows : List (List Cell)). cells ∷ rows) (rows_are rows)

abbrev HasIntegers : List Cell → Type 0
HasIntegers cells = IfSome (key_of cells) (λ numbers. are_in_types the_table.columns numbers ≡ true) × (key_of cells ≢ None)

abbrev Differ : List Cell → List Cell → Type 0
Differ one other = key_of one ≢ key_of other

once : HasWideKeys the_table both (one_one ∷ one_two ∷ [])
once = record {
  columns = the_table.columns;
  columns_are = refl;
  integers = All-cons HasIntegers one_one (one_two ∷ []) (refl, λ e. cc) (all_of_one HasIntegers one_two (refl, λ e. cc));
  distinct = AllPairs-cons Differ one_one (one_two ∷ []) (all_of_one (λ other. Differ one_one other) one_two (λ e. cc)) (AllPairs-cons Differ one_two [] (All-nil _) (λ i j d below within. absurd (omega arith)));
}

kept : KeepsWideKeys (history (one_one ∷ one_two ∷ []))
kept = rw stands_once (All-cons (KeepsWideKey end) the_schema (the_table ∷ []) (narrow end the_schema schema_narrow) (all_of_one (KeepsWideKey end) the_table (rw (key_is, rows_are (one_one ∷ one_two ∷ [])) once)))
  where
    end : Database
    end = with_rows (one_one ∷ one_two ∷ [])

not_kept : KeepsWideKeys (history (one_one ∷ one_one ∷ [])) → ⊥
not_kept keeps = (subst (λ (rows : List (List Cell)). HasWideKeys the_table both rows) (rows_are (one_one ∷ one_one ∷ [])) of_key).distinct 0 1 one_one (omega arith) (omega arith) refl
  where
    of_end : All (KeepsWideKey (with_rows (one_one ∷ one_one ∷ []))) (the_schema ∷ the_table ∷ [])
    of_end = subst (λ (end : Option Database). IfSome end (λ end. All (KeepsWideKey end) end.objects)) stands_twice keeps

    of_key : HasWideKeys the_table both (rows_of (with_rows (one_one ∷ one_one ∷ [])) schema table)
    of_key = subst (λ (found : Option (List ℕ)). IfSome found (λ indices. HasWideKeys the_table indices (rows_of (with_rows (one_one ∷ one_one ∷ [])) schema table))) key_is (of_end 1 the_table (omega arith))

head : HasItsHead the_table
unfolding tokens
head = record { found = _; is_making = refl; kind = refl; name = refl; schema = tt; own = λ e. cc }

shape : IsShaped the_table
unfolding tokens is_utf8 chars encode
shape = record { found = _; is_shape = refl; columns = refl; key = refl }

no_counter : counter table_text ≡ None
unfolding tokens is_utf8 chars encode
no_counter = refl

table_named : is_name table ≡ true
unfolding is_utf8 chars encode
table_named = refl

good_table : IsWellFormedObject (with_rows (one_one ∷ one_one ∷ [])) the_table
good_table = record { named = table_named; in_schema = schema_named; head = head; settings = refl; shape = shape; table = tt; rows = subst (λ (rows : List (List Cell)). HasGoodRows the_table rows) (sym (rows_are (one_one ∷ one_one ∷ []))) good; needs = All-nil _; rank = omega arith }
  where
    good : HasGoodRows the_table (one_one ∷ one_one ∷ [])
    good = record { numbers = AllPass-from_list_all (are_numbers (plain_columns the_table.columns)) (one_one ∷ one_one ∷ []) refl; keys = tt; counted = subst (λ (found : Option TableCounter). IsCountedWhere the_table.columns found (one_one ∷ one_one ∷ [])) (sym no_counter) tt }

sound : IsSound server (history (one_one ∷ one_one ∷ []))
sound = record {
  database = with_rows (one_one ∷ one_one ∷ []);
  stands = stands_twice;
  well_formed = record { objects = All-cons (IsWellFormedObject (with_rows (one_one ∷ one_one ∷ []))) the_schema (the_table ∷ []) (good_schema _) (all_of_one (IsWellFormedObject (with_rows (one_one ∷ one_one ∷ []))) the_table good_table) };
  printed = printed_in (with_rows (one_one ∷ one_one ∷ [])) (the_schema ∷ the_table ∷ []) refl;
  marks = All-cons HasGoodMark (unmarked (Make the_schema ∷ [])) (unmarked (Make the_table ∷ Put schema table one_one ∷ Put schema table one_one ∷ []) ∷ []) tt (all_of_one HasGoodMark (unmarked (Make the_table ∷ Put schema table one_one ∷ Put schema table one_one ∷ [])) tt);
}

of_link : (told : Bool) → IsSoundState (wide_link told (one_one ∷ one_one ∷ [])).state
of_link told = record {
  quiet = λ p. record { more = []; joined = refl; catalogue = λ q. absurd (true≢false q); alone = λ q. refl };
  own = record { more = []; joined = refl; others = []; own = none_left two_empty };
  seen = sound;
  view = tt;
  grants = All-nil _;
}

pub may_stand_twice : AWideKeyMayStandTwice
may_stand_twice = record {
  allowed = kept;
  sound = sound;
  refused = not_kept;
  untold = record { state = of_link false; wide = λ told. absurd (false≢true told); wide_view = λ told. tt; wide_grants = λ told. All-nil _ };
  told = λ link. not_kept (link.wide refl);
}
