-- Columns by their indices, all at once or one after another.
use Rattle.std.proofs.Common.{◌≡◌, ℕ, suc, refl, ap, sym, ◌∙◌, subst, Bool, true, false, ◌&&◌, List, [], ◌∷◌, Option, Some, None, length, map}
use Rattle.std.specs.Prelude.{⊤, nat_le, slice_get, option_map}
use Rattle.std.specs.List.{list_all}
use Rattle.object_forms.specs.declared.shape.Column.{Column}
use Rattle.honest_server.specs.WideKey.{all_of, are_wide, columns_at, is_plain_integer}
use Rattle.composite_chunks.specs.Indices.{is_plain_integer_at}

-- these are columns, each plain and of an integer type
abbrev all_plain : Option (List Column) → Bool
all_plain None = false
all_plain (Some columns) = list_all is_plain_integer columns

-- one column more in front, where all are there
abbrev onto : Option Column → Option (List Column) → Option (List Column)
onto None others = None
onto (Some column) others = option_map (λ rest. column ∷ rest) others

-- they are as many, where all are there
abbrev has_length : ℕ → Option (List Column) → Type 0
has_length count None = ⊤
has_length count (Some columns) = length columns ≡ count

grouped : (a b c : Bool) → ((a && b) && c) ≡ (a && (b && c))
grouped true b c = refl
grouped false b c = refl

none_plain : (b : Bool) → (b && false) ≡ false
none_plain true = refl
none_plain false = refl

one_plain : (found : Option Column) (others : Option (List Column)) → (is_plain_integer_at found && all_plain others) ≡ all_plain (onto found others)
one_plain None others = refl
one_plain (Some column) None = none_plain (is_plain_integer column)
one_plain (Some column) (Some others) = refl

one_longer : (count : ℕ) (found : Option Column) (others : Option (List Column)) → has_length count others → has_length (suc count) (onto found others)
one_longer count None others h = tt
one_longer count (Some column) None h = tt
one_longer count (Some column) (Some others) h = ap suc h

found_first : (columns : List Column) (found : Option Column) (indices : List ℕ) → all_of (found ∷ map (slice_get columns) indices) ≡ onto found (columns_at columns indices)
found_first columns None indices = refl
found_first columns (Some column) indices = refl

module _ (columns : List Column) where
  each_plain : (indices : List ℕ) → list_all (λ index. is_plain_integer_at (slice_get columns index)) indices ≡ all_plain (columns_at columns indices)
  each_plain [] = refl
  each_plain (index ∷ indices) =
      ap (λ b. is_plain_integer_at (slice_get columns index) && b) (each_plain indices)
      ∙ (one_plain (slice_get columns index) (columns_at columns indices) ∙ ap all_plain (sym (found_first columns (slice_get columns index) indices)))

  as_many : (indices : List ℕ) → has_length (length indices) (columns_at columns indices)
  as_many [] = refl
  as_many (index ∷ indices) =
      subst (has_length (suc (length indices))) (sym (found_first columns (slice_get columns index) indices))
      (one_longer (length indices) (slice_get columns index) (columns_at columns indices) (as_many indices))

  wide_where_plain : (count : ℕ) (found : Option (List Column)) → has_length count found → ((nat_le 2 count && nat_le count 4) && all_plain found) ≡ are_wide found
  wide_where_plain count None h = none_plain (nat_le 2 count && nat_le count 4)
  wide_where_plain count (Some found) h = grouped (nat_le 2 count) (nat_le count 4) (list_all is_plain_integer found) ∙ ap (λ n. nat_le 2 n && (nat_le n 4 && list_all is_plain_integer found)) (sym h)

  -- indices are of a wide key where they are two to four, and each is of a plain column of an integer type
  pub by_index : (indices : List ℕ) → ((nat_le 2 (length indices) && nat_le (length indices) 4) && list_all (λ index. is_plain_integer_at (slice_get columns index)) indices) ≡ are_wide (columns_at columns indices)
  by_index indices =
      ap (λ b. (nat_le 2 (length indices) && nat_le (length indices) 4) && b) (each_plain indices)
      ∙ wide_where_plain (length indices) (columns_at columns indices) (as_many indices)

  -- the same where the count was tested before
  pub where_counted : (indices : List ℕ) (count plain : Bool) → count ≡ (nat_le 2 (length indices) && nat_le (length indices) 4) → count ≡ true
      → plain ≡ list_all (λ index. is_plain_integer_at (slice_get columns index)) indices → plain ≡ are_wide (columns_at columns indices)
  where_counted indices count plain is so all =
      all ∙ (ap (λ b. b && list_all (λ index. is_plain_integer_at (slice_get columns index)) indices) (sym so ∙ is) ∙ by_index indices)

  pub where_not_counted : (indices : List ℕ) (count : Bool) → count ≡ (nat_le 2 (length indices) && nat_le (length indices) 4) → count ≡ false
      → count ≡ are_wide (columns_at columns indices)
  where_not_counted indices count is so =
      so ∙ (ap (λ b. b && list_all (λ index. is_plain_integer_at (slice_get columns index)) indices) (sym so ∙ is) ∙ by_index indices)
