-- Counters of tables: numbers up to a greatest one, and places among columns.
use Rattle.std.proofs.Common.{◌≡◌, ℕ, suc, ◌+◌, ◌*◌, ◌^◌, min, Bool, true, false, cond, ltb, List, [], ◌∷◌, length, Option, Some, None, position, refl, ◌∙◌, ap, arith}
use Rattle.std.specs.List.{cons_option, filter_map, position_or_len}
use Rattle.std.proofs.lemmas.Bool.Decides.{nat_tests}
use Rattle.std.proofs.lemmas.List.Sums.{fold_more}
use Rattle.object_texts.specs.Reading.{columns_of, is_auto_column, parts_left, column_items, with_parts}
use Rattle.object_forms.specs.Shape.{ColumnItem, column_of, is_auto, parts}
use Rattle.object_forms.specs.Token.{Token, more, tokens}

-- one digit more
pub capped-more : (n digit : ℕ) → min (2 ^ 64) (min n (2 ^ 64) * 10 + digit) ≡ min (n * 10 + digit) (2 ^ 64)
capped-more n digit = omega arith

pub ruleset numbers = (capped-more, fold_more)

position-more : (places count : ℕ) → cond (ltb (1 + places) (suc count)) (Some (1 + places)) None ≡ more 1 (cond (ltb places count) (Some places) None)
position-more places count = grind (arith, nat_tests)

position-test : (test : ColumnItem → Bool) (told : ColumnItem) (others : List ColumnItem) (passes : Bool) → test told ≡ passes → position test (told ∷ others) ≡ cond passes (Some 0) (more 1 (position test others))
position-test test told others true e = rw e (grind (arith, nat_tests))
position-test test told others false e = rw e (position-more (position_or_len test others) (length others))

more-zero : (size : Option ℕ) → size ≡ more 0 size
more-zero None = refl
more-zero (Some size) = ap Some (omega arith)

position-cons : (first : Option ColumnItem) (others : List ColumnItem) → position is_auto (cons_option first others) ≡ cond (is_auto_column first) (Some 0) (more (length (columns_of first)) (position is_auto others))
position-cons None others = more-zero (position is_auto others)
position-cons (Some told) others = position-test is_auto told others (is_auto told) refl

-- the columns of what is left
abbrev pub told_left : Option (List ℕ) → List ColumnItem
told_left None = []
told_left (Some text) = column_items text

told-parts_left : (left : Option (List ℕ)) → filter_map column_of (parts_left left) ≡ told_left left
told-parts_left None = refl
told-parts_left (Some text) = refl

-- the first column with AUTO_INCREMENT is that of the first item, or stands after it
pub place-next : (text item : List ℕ) (left : Option (List ℕ)) → parts 0 (tokens text) ≡ with_parts (tokens item) left → position is_auto (column_items text) ≡ cond (is_auto_column (column_of (tokens item))) (Some 0) (more (length (columns_of (column_of (tokens item)))) (position is_auto (told_left left)))
place-next text item left e =
    ap (λ (all : List (List Token)). position is_auto (filter_map column_of all)) e
    ∙ position-cons (column_of (tokens item)) (filter_map column_of (parts_left left)) ∙ ap (λ (others : List ColumnItem). cond (is_auto_column (column_of (tokens item))) (Some 0) (more (length (columns_of (column_of (tokens item)))) (position is_auto others))) (told-parts_left left)

pub ruleset places = (place-next)
