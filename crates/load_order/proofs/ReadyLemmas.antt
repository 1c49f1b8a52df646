-- Whether views are ready.
use Rattle.std.proofs.Common.{◌≡◌, ◌<◌, ◌≤◌, ◌+◌, ℕ, Bool, true, false, ◌&&◌, ◌||◌, ◌++◌, not, List, [], ◌∷◌, length, get_or, take, Option, Result, Ok, Err, MatchResult, refl, sym, ◌∙◌, ap, subst, suc, ◌-◌, drop, Contains, IsPermutation, arith, is_ok, bytes_eq, IsSorted, MatchOption, Some, None, rules, inl, inr, ◌⊎◌}
use Rattle.std.specs.Cmp.{IsEquivalence, IsStrictWeakOrder}
use Rattle.std.specs.Cmp.Lexicographic.{slice_cmp, texts_ties}
use Rattle.std.specs.List.{list_any, All, remove}
use Rattle.std.specs.List.Sorted.{IsBinarySearchResult, IsSearchInRange, IsNonDecreasingBy, IsSortedBy}
use Rattle.std.specs.Ordering.{is_eq, is_lt, nat_cmp, ordering_index, ordering_then}
use Rattle.std.specs.declared.cmp.Ordering.{Ordering}
use Rattle.std.specs.declared.cmp.Ordering.TheVariants.{Less, Equal, Greater}
use Rattle.std.proofs.lemmas.Cmp.{nat_list_eq_equiv}
use Rattle.std.proofs.lemmas.List.Folds.{list_any_at, list_any_none, list_any_more}
use Rattle.std.proofs.lemmas.List.Sorted.{IsPermutation-remove, searchable_from_sorted, sorted_far}
use Rattle.std.proofs.lemmas.List.{get_or_default, length-take-le, take_all, take_more}
use Rattle.std.proofs.lemmas.List.Edits.{get_or-remove_above, get_or-remove_below, length-remove}
use Rattle.std.proofs.Math.Seq.{drop-append_seam, take-append_seam}
use Rattle.folder_forms.specs.LoadOrder.{by_name, is_ready, name_cmp, needs_view}
use Rattle.load_order.specs.Stages.{IsFirstReady, PutsFirst, against_need, names_view}
use Rattle.load_order.proofs.OrderLemmas.{called, name_ranks, need_cmp, need_total}
use Rattle.server_data.specs.declared.data.Need.{Need}
use Rattle.server_data.specs.declared.data.Object.{Object}

module _ {X : Type 0} where
  at_some : (p : X → Bool) (xs : List X) (i : ℕ) → i < length xs → ((d : X) → p (get_or xs i d) ≡ true) → list_any p xs ≡ true
  at_some p [] i below all = absurd (omega arith)
  at_some p (x ∷ xs) i below all = list_any_at p (x ∷ xs) i x below (all x)

  -- what a binary search by an order finds
  pub search_finds : (o : X → Ordering) (xs : List X) (r : Result ℕ ℕ) → IsSearchInRange r (length xs) → IsBinarySearchResult o xs r
      → IsNonDecreasingBy (λ y. ordering_index (o y)) xs → is_ok r ≡ list_any (λ y. is_eq (o y)) xs
  search_finds o xs (Ok i) below is rises = sym (at_some (λ y. is_eq (o y)) xs i below (λ d. ap is_eq (is d)))
  search_finds o xs (Err i) below is rises =
      let parts = is rises in
      sym (list_any_none (λ y. is_eq (o y)) xs (λ k d under. by_place k d under parts (side k i)))
    where
      side : (k i : ℕ) → (k < i) ⊎ (i ≤ k)
      side k i = search rules

      by_place : (k : ℕ) (d : X) → k < length xs → ((j : ℕ) (d : X) → 0 ≤ j → j < i → o (get_or xs j d) ≡ Less) × ((j : ℕ) (d : X) → i ≤ j → j < length xs → o (get_or xs j d) ≡ Greater) → (k < i) ⊎ (i ≤ k) → is_eq (o (get_or xs k d)) ≡ false
      by_place k d under parts (inl in_front) = ap is_eq (parts.0 k d (omega arith) in_front)
      by_place k d under parts (inr after) = ap is_eq (parts.1 k d after under)

  -- two tests that agree
  pub any_alike : (p q : X → Bool) → ((x : X) → p x ≡ q x) → (xs : List X) → list_any p xs ≡ list_any q xs
  any_alike p q same [] = refl
  any_alike p q same (x ∷ xs) = rw (same x, any_alike p q same xs) refl

  pub any_never : (xs : List X) → list_any (λ (x : X). false) xs ≡ false
  any_never xs = list_any_none (λ (x : X). false) xs (λ k d h. refl)

is_eq_then : (one other : Ordering) → is_eq (ordering_then one other) ≡ (is_eq one && is_eq other)
is_eq_then Less other = refl
is_eq_then Equal other = refl
is_eq_then Greater other = refl

-- names that are the same in the order are equal
pub same_name_eq : (one other : List ℕ) → is_eq (name_cmp one other) ≡ bytes_eq other one
same_name_eq one other = sym (texts_ties one other) ∙ nat_list_eq_equiv.symm one other

pub named_is : (need : Need) (view : Object) → is_eq (against_need need view) ≡ names_view need view
named_is need view =
    is_eq_then (name_cmp view.schema need.schema) (name_cmp view.name need.name)
    ∙ rw (same_name_eq view.schema need.schema, same_name_eq view.name need.name) refl

-- the search of a need among views that are by name
pub need_found : (need : Need) (left : List Object) (r : Result ℕ ℕ) → IsSorted by_name left → IsSearchInRange r (length left)
    → IsBinarySearchResult (against_need need) left r → is_ok r ≡ list_any (names_view need) left
need_found need left r sorted below is =
    search_finds (against_need need) left r below is (searchable_from_sorted need_total called left need sorted)
    ∙ any_alike (λ y. is_eq (against_need need y)) (names_view need) (named_is need) left

or_false : (a b : Bool) → a ≡ false → b ≡ false → (a || b) ≡ false
or_false a b e f = rw (e, f) refl

swap_or : (a b c d : Bool) → ((a || b) || (c || d)) ≡ ((a || c) || (b || d))
swap_or true b c d = refl
swap_or false true true d = refl
swap_or false true false d = refl
swap_or false false c d = refl

module _ {X : Type 0} where
  any_or : (p q : X → Bool) (xs : List X) → list_any (λ x. p x || q x) xs ≡ (list_any p xs || list_any q xs)
  any_or p q [] = refl
  any_or p q (x ∷ xs) = rw (any_or p q xs) (swap_or (p x) (q x) (list_any p xs) (list_any q xs))

module _ {X Y : Type 0} where
  -- whether any of these meets any of those
  pub any_swap : (f : Y → X → Bool) (xs : List X) (ys : List Y) → list_any (λ x. list_any (λ y. f y x) ys) xs ≡ list_any (λ y. list_any (f y) xs) ys
  any_swap f xs [] = any_never xs
  any_swap f xs (y ∷ ys) = any_or (f y) (λ x. list_any (λ z. f z x) ys) xs ∙ rw (any_swap f xs ys) refl

-- a view is ready where none of its needs names one of the views
pub ready_is : (left : List Object) (view : Object) → is_ready left view ≡ not (list_any (λ need. list_any (names_view need) left) view.needs)
ready_is left view = ap not (any_swap names_view left view.needs)

pub ready_none : (left : List Object) (view : Object) → list_any (λ need. list_any (names_view need) left) view.needs ≡ false → true ≡ is_ready left view
ready_none left view none = sym (ready_is left view ∙ ap not none)

pub ready_some : (left : List Object) (view : Object) (i : ℕ) (need : Need) → i < length view.needs → need ≡ get_or view.needs i need
    → true ≡ list_any (names_view need) left → false ≡ is_ready left view
ready_some left view i need below is found =
    let here : list_any (names_view (get_or view.needs i need)) left ≡ true = rw (← is) (sym found) in
    sym (ready_is left view ∙ ap not (list_any_at (λ one. list_any (names_view one) left) view.needs i need below here))

pub ready_all : (left : List Object) (view : Object) (i : ℕ) → length view.needs ≤ i
    → list_any (λ need. list_any (names_view need) left) (take i view.needs) ≡ false → true ≡ is_ready left view
ready_all left view i all none = ready_none left view (rw (take_all i view.needs all) at none)

cases : (k i : ℕ) → (k < i) ⊎ (i ≤ k)
cases k i = search rules

module _ {X : Type 0} where
  -- a sorted list without the element at a place
  pub removed_sorted : (lt : X → X → Bool) → IsStrictWeakOrder lt → (xs : List X) (i : ℕ) → i < length xs → IsSortedBy lt xs → IsSortedBy lt (remove xs i)
  removed_sorted lt o xs i below up k d low under = by_place (cases k i) (cases (k + 1) i)
    where
      size : length (remove xs i) + 1 ≡ length xs
      size = length-remove xs i below

      by_place : (k < i) ⊎ (i ≤ k) → (k + 1 < i) ⊎ (i ≤ k + 1) → lt (get_or (remove xs i) (k + 1) d) (get_or (remove xs i) k d) ≡ false
      by_place (inl one) (inl other) =
          rw (get_or-remove_below xs i d k one below, get_or-remove_below xs i d (k + 1) other below)
          (sorted_far lt o xs up k (k + 1) d (omega arith) (omega (arith, size)))
      by_place (inl one) (inr other) =
          rw (get_or-remove_below xs i d k one below, get_or-remove_above xs i d (k + 1) other below)
          (sorted_far lt o xs up k (k + 1 + 1) d (omega arith) (omega (arith, size)))
      by_place (inr one) (inl other) = absurd (omega arith)
      by_place (inr one) (inr other) =
          rw (get_or-remove_above xs i d k one below, get_or-remove_above xs i d (k + 1) other below)
          (sorted_far lt o xs up (k + 1) (k + 1 + 1) d (omega arith) (omega (arith, size)))

  -- the last element of a front comes before the others of it
  pub turned : (xs : List X) (at : ℕ) (x : X) (moved : List X) → at < length xs → x ≡ get_or xs at x
      → moved ≡ drop (length (take (at + 1) xs) - 1) (take (at + 1) xs) ++ take (length (take (at + 1) xs) - 1) (take (at + 1) xs)
      → moved ++ drop (at + 1) xs ≡ x ∷ remove xs at
  turned xs at x moved below is turn =
      let front : take (at + 1) xs ≡ take at xs ++ x ∷ [] = take_more xs at x below ∙ ap (λ (y : X). take at xs ++ y ∷ []) (sym is) in
      let size : length (take (at + 1) xs) - 1 ≡ length (take at xs) = omega (arith, length-take-le (at + 1) xs (omega arith), length-take-le at xs (omega arith)) in
      let back : drop (length (take (at + 1) xs) - 1) (take (at + 1) xs) ≡ x ∷ [] = rw (size, front) (drop-append_seam (take at xs) (x ∷ [])) in
      let rest : take (length (take (at + 1) xs) - 1) (take (at + 1) xs) ≡ take at xs = rw (size, front) (take-append_seam (take at xs) (x ∷ [])) in
      let more : at + 1 ≡ suc at = omega arith in
      let next : drop (at + 1) xs ≡ drop (suc at) xs = ap (λ (n : ℕ). drop n xs) more in
      let whole : moved ≡ x ∷ take at xs = turn ∙ ap (λ (ys : List X). ys ++ take (length (take (at + 1) xs) - 1) (take (at + 1) xs)) back ∙ ap (λ (ys : List X). x ∷ ys) rest in
      ap (λ (ys : List X). ys ++ drop (at + 1) xs) whole ∙ ap (λ (ys : List X). x ∷ (take at xs ++ ys)) next

-- the first view that is ready is put in front of the others
pub put_first : (left : List Object) (at : ℕ) (view : Object) (moved : List Object) → IsSorted by_name left → IsFirstReady left at → view ≡ get_or left at view
    → moved ≡ drop (length (take (at + 1) left) - 1) (take (at + 1) left) ++ take (length (take (at + 1) left) - 1) (take (at + 1) left)
    → PutsFirst left (moved ++ drop (at + 1) left)
put_first left at view moved up first is turn =
    let parts = turned left at view moved first.within is turn in
    record {
      view = view;
      rest = remove left at;
      parts = parts;
      least = record {
        ready = rw is (first.ready view);
        least = λ other has ready. by_place other has ready (cases has.0 at);
      };
      sorted = removed_sorted (λ (x y : Object). is_lt (by_name x y)) name_ranks left at first.within up;
      same = rw parts (IsPermutation-remove left at view first.within is);
    }
  where
    by_place : (other : Object) (has : Contains left other) → is_ready left other ≡ true → (has.0 < at) ⊎ (at ≤ has.0) → is_lt (by_name other view) ≡ false
    by_place other has ready (inl in_front) =
        let none : is_ready left other ≡ false = rw (sym has.2) (first.before has.0 other (omega arith) in_front) in
        absurd (cc)
    by_place other has ready (inr after) =
        let far = sorted_far (λ (x y : Object). is_lt (by_name x y)) name_ranks left up at has.0 view after has.1 in
        rw (sym (get_or_default left has.0 other view has.1) ∙ has.2, sym is) at far

pub put_first_at : (left : List Object) (at : ℕ) (moved : List Object) → IsSorted by_name left → IsFirstReady left at
    → moved ≡ drop (length (take (at + 1) left) - 1) (take (at + 1) left) ++ take (length (take (at + 1) left) - 1) (take (at + 1) left)
    → PutsFirst left (moved ++ drop (at + 1) left)
put_first_at [] at moved up first turn = let none = first.within in absurd (omega arith)
put_first_at (x ∷ xs) at moved up first turn =
    put_first (x ∷ xs) at (get_or (x ∷ xs) at x) moved up first (get_or_default (x ∷ xs) at x (get_or (x ∷ xs) at x) first.within) turn
