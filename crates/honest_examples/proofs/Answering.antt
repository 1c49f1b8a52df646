-- What answers queries over the worked database.
use lib.Utf8.{encode}
use Rattle.std.proofs.Common.{◌≡◌, ℕ, true, false, List, [], ◌∷◌, Some, None, refl, subst, pos, inl, inr, map, filter, filter_map, take, drop, codes, ◌⊎◌}
use Rattle.std.proofs.lemmas.Bool.{false≢true, true≢false}
use Rattle.std.specs.Fmt.{digits}
use Rattle.std.specs.Str.{chars, is_utf8}
use Rattle.object_forms.specs.Token.{tokens}
use Rattle.server_data.specs.Bag.{IsSameBag, count_of}
use Rattle.server_data.specs.Fold.{rows_of}
use Rattle.sql_cells.specs.declared.cell.Cell.{Cell}
use Rattle.sql_cells.specs.declared.cell.Cell.TheVariants.{Value}
use Rattle.honest_server.specs.Answer.{HasKey, IsColumnRow, everything, has_bytes, is_between, keys_rise, only_cell}
use Rattle.honest_server.specs.Columns.{integer_at}
use Rattle.honest_examples.specs.Answered.{column_row, key, told, AllRowsCome, ATableIsToldWithItsEngine, ATextIsShown, ColumnsAreAskedForInOrder, ColumnsAreToldWithTheirTypes, EachSchemaIsTold, KeysAreSkipped, NoPositionIsShown, NoTriggersAreTold, RowsInsideTheBoundsCome, RowsComeInTheOrderOfTheKey, TheKeyIsTold, TheLastPositionIsShown, TheSignOfPlainIntegersIsTold}
use Rattle.honest_examples.proofs.Bags.{first_of_two, other_order, same_rows, some_row}
use Rattle.honest_examples.specs.Worked.{id, one, schema, the_table, two}

-- the table's key is its first column
abbrev by_id : HasKey the_table key
by_id = record { index = 0; column = id; key_is = refl; column_is = refl; name = refl }

pub by_key : RowsComeInTheOrderOfTheKey
unfolding rows_of
by_key = record {
  allowed = record {
    all_columns = refl;
    has_key = by_id;
    in_order = record { same = same_rows _; rise = refl };
  };
  refused = λ answer. never answer.has_key.index answer.has_key.key_is answer.in_order.rise;
}
  where
    never : (index : ℕ) → the_table.key ≡ Some index → keys_rise (map (integer_at the_table.columns index) (two ∷ one ∷ [])) ≡ true → ⊥
    never index is_key rise = let same : index ≡ 0 = cc in false≢true (subst (λ index. keys_rise (map (integer_at the_table.columns index) (two ∷ one ∷ [])) ≡ true) same rise)

pub above : RowsInsideTheBoundsCome
unfolding rows_of count_of
above = record {
  above = record { all_columns = refl; has_key = by_id; in_order = record { same = same_rows _; rise = refl } };
  up_to = record { all_columns = refl; has_key = by_id; in_order = record { same = same_rows _; rise = refl } };
  between = record { all_columns = refl; has_key = by_id; in_order = record { same = same_rows _; rise = refl } };
  refused = λ answer. never answer.has_key.index answer.has_key.key_is answer.in_order.same;
}
  where
    never : (index : ℕ) → the_table.key ≡ Some index → IsSameBag (one ∷ two ∷ []) (filter (λ row. is_between (record { above = Some (pos 1); up_to = None }) (integer_at the_table.columns index row)) (one ∷ two ∷ [])) → ⊥
    never index is_key bag = let same : index ≡ 0 = cc in absurd (cc ((subst (λ index. IsSameBag (one ∷ two ∷ []) (filter (λ row. is_between (record { above = Some (pos 1); up_to = None }) (integer_at the_table.columns index row)) (one ∷ two ∷ []))) same bag).counts one))

pub all : AllRowsCome
unfolding rows_of count_of
all = record { allowed = record { all_columns = refl; same = other_order two one }; refused = λ answer. absurd (cc (answer.same.counts two)) }

pub columns_in_order : ColumnsAreAskedForInOrder
columns_in_order = record { refused = λ rows answer. absurd (cc (answer.all_columns)) }

pub skipped : KeysAreSkipped
unfolding rows_of
skipped = record {
  allowed = record {
    has_key = by_id;
    whole = one ∷ two ∷ [];
    in_order = record { same = same_rows _; rise = refl };
    rows_are = refl;
  };
  none_left = record {
    has_key = by_id;
    whole = one ∷ two ∷ [];
    in_order = record { same = same_rows _; rise = refl };
    rows_are = refl;
  };
  above = record { has_key = by_id; whole = two ∷ []; in_order = record { same = same_rows _; rise = refl }; rows_are = refl };
  refused = λ answer. never answer.has_key.index answer.has_key.key_is answer.whole answer.in_order.same answer.in_order.rise answer.rows_are;
}
  where
    -- what begins such rows, and what stands second
    second : (first cells : List Cell) (rows : List (List Cell)) → (first ≡ one) ⊎ (first ≡ two) → keys_rise (map (integer_at the_table.columns 0) (first ∷ cells ∷ rows)) ≡ true
        → (Value (codes "1") ∷ []) ∷ [] ≡ filter_map (only_cell the_table.columns 0) (cells ∷ []) → ⊥
    second first [] rows is_first rise shown = absurd (cc)
    second first (cell ∷ cells) rows (inl is_one) rise shown = let is_cell : cell ≡ Value (codes "1") = cc in false≢true (rw (is_one, is_cell) at rise)
    second first (cell ∷ cells) rows (inr is_two) rise shown = let is_cell : cell ≡ Value (codes "1") = cc in false≢true (rw (is_two, is_cell) at rise)

    of_whole : (whole : List (List Cell)) → IsSameBag whole (one ∷ two ∷ []) → keys_rise (map (integer_at the_table.columns 0) whole) ≡ true
        → (Value (codes "1") ∷ []) ∷ [] ≡ filter_map (only_cell the_table.columns 0) (take 1 (drop 1 whole)) → ⊥
    of_whole [] same rise shown = absurd (cc)
    of_whole (first ∷ []) same rise shown = absurd (cc)
    of_whole (first ∷ cells ∷ rows) same rise shown = second first cells rows (first_of_two first one two (cells ∷ rows) same) rise shown

    never : (index : ℕ) → the_table.key ≡ Some index → (whole : List (List Cell)) → IsSameBag whole (filter (λ row. is_between everything (integer_at the_table.columns index row)) (one ∷ two ∷ [])) → keys_rise (map (integer_at the_table.columns index) whole) ≡ true
        → (Value (codes "1") ∷ []) ∷ [] ≡ filter_map (only_cell the_table.columns index) (take 1 (drop 1 whole)) → ⊥
    never index is_key whole bag rise shown =
        let same : index ≡ 0 = cc in
        of_whole whole
        (subst (λ index. IsSameBag whole (filter (λ row. is_between everything (integer_at the_table.columns index row)) (one ∷ two ∷ []))) same bag)
        (subst (λ index. keys_rise (map (integer_at the_table.columns index) whole) ≡ true) same rise)
        (subst (λ index. (Value (codes "1") ∷ []) ∷ [] ≡ filter_map (only_cell the_table.columns index) (take 1 (drop 1 whole))) same shown)

pub engine : ATableIsToldWithItsEngine
unfolding tokens is_utf8 chars encode count_of
engine = record { allowed = same_rows _; refused = λ answer. absurd (cc (answer.counts (told (codes "InnoDB")))) }

pub each_schema : EachSchemaIsTold
unfolding count_of
each_schema = record { allowed = same_rows _; refused = λ answer. absurd (cc (answer.counts (Value schema ∷ []))) }

-- a plain integer whose type holds the word is unsigned
signed : IsColumnRow id (column_row key (codes "int") (codes "int unsigned")) → ⊥
signed row = let same : row.column_type ≡ codes "int unsigned" = cc (row.row_is) in absurd (cc (subst (λ column_type. has_bytes (codes "unsigned") column_type ≡ false) same (row.unsigned refl refl)))

pub column_types : ColumnsAreToldWithTheirTypes
column_types = record {
  allowed = (
    record { column_type = codes "int"; extra = []; row_is = refl; unsigned = λ p q. refl; generated = refl },
    (record { column_type = codes "varchar(9)"; extra = []; row_is = refl; unsigned = λ p q. refl; generated = refl }, tt),
  );
  none = refl;
  refused = λ answer. signed answer.0;
}

pub signs : TheSignOfPlainIntegersIsTold
signs = record {
  allowed = record { column_type = codes "enum('unsigned')"; extra = []; row_is = refl; unsigned = λ p q. absurd (false≢true p); generated = refl };
  generated = record { column_type = codes "int"; extra = codes "VIRTUAL GENERATED"; row_is = refl; unsigned = λ p q. absurd (true≢false q); generated = refl };
  refused = signed;
}

pub key_told : TheKeyIsTold
key_told = record { allowed = record { names = refl; key = refl }; refused = λ answer. absurd (cc (answer.key)) }

pub no_triggers : NoTriggersAreTold
unfolding count_of
no_triggers = record { allowed = same_rows _; refused = λ row answer. some_row row [] answer }

pub text_shown : ATextIsShown
text_shown = record { allowed = (_, _, refl); withheld = λ answer. absurd (cc (answer.2)); refused = λ rows answer. answer }

pub last_position : TheLastPositionIsShown
unfolding digits
last_position = record { allowed = record { third = Value []; fourth = Value []; gtid = []; more = []; rows_are = refl; gtid_is = refl }; another = λ shown. absurd (cc (shown.rows_are)); refused = λ shown. absurd (cc (shown.rows_are)); of_database = λ rows answer. answer }

pub no_position : NoPositionIsShown
no_position = record { allowed = refl; refused = λ shown. absurd (cc (shown)) }
