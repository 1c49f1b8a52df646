-- The rise of a counter.
use lib.Utf8.{encode}
use Rattle.std.proofs.Common.{append-nil, ◌++◌, ◌≡◌, ◌<◌, ℕ, zero, suc, true, List, [], ◌∷◌, Some, None, refl, ap, sym, ◌∙◌, subst, arith, inl, inr, codes, pos, slice_index_or, map, drop, IfSome, ◌≢◌, Option, ℤ, All}
use Rattle.std.proofs.lemmas.Bool.{false≢true}
use Rattle.std.specs.List.{list_all}
use Rattle.std.proofs.lemmas.List.Sums.{AllPass-from_list_all}
use Rattle.server_data.proofs.Counts.{and_left, and_right}
use Rattle.honest_server.specs.Insert.{is_under_where}
use Rattle.std.proofs.lemmas.List.Elements.{All-cons, All-nil}
use Rattle.std.specs.Str.{chars, is_utf8}
use Rattle.object_forms.specs.Shape.{TableCounter, counter}
use Rattle.object_forms.specs.Token.{tokens}
use Rattle.object_forms.specs.declared.kind.Kind.TheVariants.{Table}
use Rattle.object_forms.specs.declared.shape.Column.{Column}
use Rattle.server_data.specs.Bag.{IsSameBag, count_of}
use Rattle.server_data.specs.Fold.{change_db, has_object, may_drop, may_make, rows_of}
use Rattle.server_data.specs.declared.data.Change.{Change}
use Rattle.server_data.specs.declared.data.Change.TheVariants.{Make, Put}
use Rattle.server_data.specs.declared.data.Object.{Object}
use Rattle.sql_cells.specs.declared.cell.Cell.{Cell}
use Rattle.honest_server.specs.Catalogue.{IsRise, RaisesCounter, a_rise, no_more, one_more}
use Rattle.sql_cells.specs.Number.{is_digits}
use Rattle.honest_server.specs.Columns.{are_numbers, integer_at, is_under, plain_columns, whole_at}
use Rattle.honest_server.specs.WellFormed.{HasGoodRows, HasItsHead, IsUnderCounter, IsCountedWhere, IsShaped, IsWellFormed, IsWellFormedObject, is_name}
use Rattle.honest_examples.specs.Catalogue.{ACounterRises, ANumberIsUnderItsCounter, RowsAndCountersKeepTheCatalogue, anew, counted, five, numbered, of_number, seven, six, text_with, with_counter}
use Rattle.honest_examples.specs.Worked.{id, schema, the_schema}
use Rattle.honest_examples.proofs.Bags.{same_rows}
use Rattle.honest_examples.proofs.Changes.{drops_nothing, keeps_three, makes_nothing}
use Rattle.honest_examples.proofs.Soundness.{all_of_one, are_keys, good_schema, keys_of, some_key}
use Rattle.honest_examples.proofs.Worked.{schema_named}

-- what the texts say

abbrev pub counter_at : ℕ → TableCounter
counter_at next = record { column = 0; next = next }

says_one : counter (text_with []) ≡ Some (counter_at 1)
unfolding tokens is_utf8 chars encode
says_one = refl

pub says_five : counter (text_with five) ≡ Some (counter_at 5)
unfolding tokens is_utf8 chars encode
says_five = refl

says_seven : counter (text_with seven) ≡ Some (counter_at 7)
unfolding tokens is_utf8 chars encode
says_seven = refl

-- numbers under the counter

named : is_name numbered ≡ true
unfolding is_utf8 chars encode
named = refl

-- the table with its counter, its text's head and shape
pub record IsCountedTable (after : List ℕ) (next : ℕ) : Type 0 where
  pub head : HasItsHead (with_counter after)
  pub shape : IsShaped (with_counter after)
  pub says : counter (text_with after) ≡ Some (counter_at next)

pub is_five : IsCountedTable five 5
unfolding tokens is_utf8 chars encode
is_five = record { head = record { found = _; is_making = refl; kind = refl; name = refl; schema = tt; own = λ e. cc }; shape = record { found = _; is_shape = refl; columns = refl; key = refl }; says = says_five }

pub is_six : IsCountedTable six 6
unfolding tokens is_utf8 chars encode
is_six = record { head = record { found = _; is_making = refl; kind = refl; name = refl; schema = tt; own = λ e. cc }; shape = record { found = _; is_shape = refl; columns = refl; key = refl }; says = refl }

numbered_rows : (after : List ℕ) (numbers : List (List ℕ)) → rows_of (counted after numbers) schema numbered ≡ map of_number numbers
unfolding rows_of
numbered_rows after [] = refl
numbered_rows after (digits ∷ numbers) = ap (λ (rows : List (List Cell)). of_number digits ∷ rows) (numbered_rows after numbers)

abbrev IsUnder : ℕ → List Cell → Type 0
IsUnder next cells = IfSome (whole_at (id ∷ []) 0 cells) (λ number. is_under id next number ≡ true) × (whole_at (id ∷ []) 0 cells ≢ None)

under_each : (next : ℕ) (rows : List (List Cell)) → list_all (λ cells. is_under_where id next (whole_at (id ∷ []) 0 cells)) rows ≡ true → All (IsUnder next) rows
under_each next [] all = All-nil _
under_each next (cells ∷ rows) all = All-cons (IsUnder next) cells rows (by_number (whole_at (id ∷ []) 0 cells) (and_left _ _ all)) (under_each next rows (and_right (is_under_where id next (whole_at (id ∷ []) 0 cells)) _ all))
  where
    by_number : (found : Option ℤ) → is_under_where id next found ≡ true → IfSome found (λ number. is_under id next number ≡ true) × (found ≢ None)
    by_number None is = absurd (cc)
    by_number (Some number) is = (is, λ e. cc)

-- the rows of such a table are good where their keys are, and are under the counter
pub well_counted : (after : List ℕ) (next : ℕ) (digits : List (List ℕ)) (numbers : List ℕ) → IsCountedTable after next → list_all (are_numbers (plain_columns (id ∷ []))) (map of_number digits) ≡ true → map (integer_at (id ∷ []) 0) (map of_number digits) ≡ map some_key numbers → are_keys numbers ≡ true
    → list_all (λ cells. is_under_where id next (whole_at (id ∷ []) 0 cells)) (map of_number digits) ≡ true → IsWellFormed (counted after digits)
well_counted after next digits numbers is are_numbers_all read keys under = record { objects = All-cons (IsWellFormedObject (counted after digits)) the_schema (with_counter after ∷ []) (good_schema (counted after digits)) (all_of_one (IsWellFormedObject (counted after digits)) (with_counter after) second) }
  where
    rows : List (List Cell)
    rows = map of_number digits

    good : HasGoodRows (with_counter after) (map of_number digits)
    good = record { numbers = AllPass-from_list_all _ (map of_number digits) are_numbers_all; keys = keys_of [] (map of_number digits) numbers read keys; counted = subst (λ (found : Option TableCounter). IsCountedWhere (id ∷ []) found (map of_number digits)) (sym is.says) (record { column = id; column_is = refl; integers = under_each next (map of_number digits) under }) }

    second : IsWellFormedObject (counted after digits) (with_counter after)
    second = record { named = named; in_schema = schema_named; head = is.head; settings = refl; shape = is.shape; table = tt; rows = subst (λ (rows : List (List Cell)). HasGoodRows (with_counter after) rows) (sym (numbered_rows after digits)) good; needs = All-nil _; rank = omega arith }

-- and a number at the counter isn't
pub not_under : (digits : List (List ℕ)) (more : List (List Cell)) → map of_number digits ≡ of_number (codes "4") ∷ of_number (codes "5") ∷ more → IsWellFormed (counted five digits) → ⊥
not_under digits more is wrong = never (subst (λ (rows : List (List Cell)). IsCountedWhere (id ∷ []) (Some (counter_at 5)) rows) (numbered_rows five digits ∙ is) (subst (λ (found : Option TableCounter). IsCountedWhere (id ∷ []) found (rows_of (counted five digits) schema numbered)) says_five (wrong.objects 1 (with_counter five) (omega arith)).rows.counted))
  where
    never : IsUnderCounter (id ∷ []) (counter_at 5) (of_number (codes "4") ∷ of_number (codes "5") ∷ more) → ⊥
    never wrong = let same : wrong.column ≡ id = cc (wrong.column_is) in false≢true (subst (λ (column : Column). is_under column 5 (pos 5) ≡ true) same (wrong.integers 1 [] (omega arith)).0)

pub under : ANumberIsUnderItsCounter
under = record {
  allowed = well_counted five 5 (codes "4" ∷ []) (4 ∷ []) is_five refl refl refl refl;
  refused = not_under (codes "4" ∷ codes "5" ∷ []) [] refl;
}

-- rises

from_none : RaisesCounter (text_with []) (text_with five)
from_none = record {
  front = text_with [];
  before = [];
  now = five;
  after = [];
  old_is = refl;
  new_is = refl;
  before_is = inl refl;
  now_is = inr (codes "5", refl, refl);
  without = counter_at 1;
  is_without = says_one;
  only_option = refl;
  old_counter = counter_at 1;
  new_counter = counter_at 5;
  is_old_counter = says_one;
  is_new_counter = says_five;
  column = refl;
  greater = omega arith;
}

from_five : (digits : List ℕ) (next : ℕ) → is_digits digits ≡ true → counter (text_with (codes " AUTO_INCREMENT=" ++ digits)) ≡ Some (counter_at next) → 5 < next → RaisesCounter (text_with five) (text_with (codes " AUTO_INCREMENT=" ++ digits))
from_five digits next are_digits says greater = record {
  front = text_with [];
  before = five;
  now = codes " AUTO_INCREMENT=" ++ digits;
  after = [];
  old_is = refl;
  new_is = sym (append-nil (text_with (codes " AUTO_INCREMENT=" ++ digits)));
  before_is = inr (codes "5", refl, refl);
  now_is = inr (digits, are_digits, refl);
  without = counter_at 1;
  is_without = says_one;
  only_option = refl;
  old_counter = counter_at 5;
  new_counter = counter_at next;
  is_old_counter = says_five;
  is_new_counter = says;
  column = refl;
  greater = greater;
}

pub rises_to_six : IsRise (counted five (codes "4" ∷ [])) (anew six (codes "4" ∷ []))
unfolding rows_of
rises_to_six = record { object = with_counter five; is_table = refl; is_there = (1, omega arith, refl); text = text_with six; raises = from_five (codes "6") 6 refl is_six.says (omega arith); rows = of_number (codes "4") ∷ []; same_rows = same_rows _; changes_are = refl }

rises_again : IsRise (counted five (codes "4" ∷ [])) (anew seven (codes "4" ∷ []))
unfolding rows_of
rises_again = record { object = with_counter five; is_table = refl; is_there = (1, omega arith, refl); text = text_with seven; raises = from_five (codes "7") 7 refl says_seven (omega arith); rows = of_number (codes "4") ∷ []; same_rows = same_rows _; changes_are = refl }

-- the only table of such a database
the_table : (after : List ℕ) (numbers : List (List ℕ)) (object : Object) (k : ℕ) → k < 2 → slice_index_or (counted after numbers).objects k object ≡ object → object.kind ≡ Table → with_counter after ≡ object
the_table after numbers object zero within is is_table = absurd (cc)
the_table after numbers object (suc zero) within is is_table = is
the_table after numbers object (suc (suc k)) within is is_table = absurd (omega arith)

next_of : {one other : TableCounter} → Some one ≡ Some other → one.next ≡ other.next
next_of {one} {other} e = let same : one ≡ other = cc in ap (λ (found : TableCounter). found.next) same

-- the text that the second of changes makes something with
abbrev second_text : List Change → List ℕ
second_text (change ∷ Make object ∷ changes) = object.text
second_text changes = []

none : (in_schema name : List ℕ) (rows : List (List Cell)) → [] ≡ map (λ row. Put in_schema name row) rows → rows ≡ []
none in_schema name [] e = refl
none in_schema name (row ∷ rows) e = absurd (cc)

pub counter_rises : ACounterRises
unfolding rows_of count_of
counter_rises = record {
  from_none = record { object = with_counter []; is_table = refl; is_there = (1, omega arith, refl); text = text_with five; raises = from_none; rows = []; same_rows = same_rows _; changes_are = refl };
  from_five = rises_again;
  falls = falls;
  loses = loses;
}
  where
    falls : IsRise (counted seven (codes "4" ∷ [])) (anew five (codes "4" ∷ [])) → ⊥
    falls rise = omega (arith, rise.raises.greater, old, new)
      where
        object : with_counter seven ≡ rise.object
        object = the_table seven (codes "4" ∷ []) rise.object rise.is_there.0 rise.is_there.1 rise.is_there.2 rise.is_table

        old : rise.raises.old_counter.next ≡ 7
        old = next_of (sym rise.raises.is_old_counter ∙ (ap (λ (object : Object). counter object.text) (sym object) ∙ says_seven))

        new : rise.raises.new_counter.next ≡ 5
        new = next_of (sym rise.raises.is_new_counter ∙ (ap counter (sym (ap second_text rise.changes_are)) ∙ says_five))

    loses : IsRise (counted five (codes "4" ∷ [])) (anew seven []) → ⊥
    loses rise = absurd (cc (bag.counts (of_number (codes "4"))))
      where
        object : with_counter five ≡ rise.object
        object = the_table five (codes "4" ∷ []) rise.object rise.is_there.0 rise.is_there.1 rise.is_there.2 rise.is_table

        bag : IsSameBag [] (of_number (codes "4") ∷ [])
        bag = subst (λ (rows : List (List Cell)). IsSameBag rows (of_number (codes "4") ∷ [])) (none _ _ rise.rows (ap (drop 2) rise.changes_are))
            (subst (λ (object : Object). IsSameBag rise.rows (rows_of (counted five (codes "4" ∷ [])) object.schema object.name)) (sym object) rise.same_rows)

pub keep : RowsAndCountersKeepTheCatalogue
unfolding change_db has_object may_make may_drop
keep = record {
  of_a_row = keeps_three;
  of_a_counter = record { old = counted five (codes "4" ∷ []); new = counted seven (codes "4" ∷ []); stands = refl; keeps = one_more (a_rise {changes = []} rises_again refl refl no_more) no_more };
  made = makes_nothing _ _ (with_counter []) refl;
  dropped = drops_nothing _ _ Table schema _ refl;
}
