-- Objects in order: those before the views, the views, and those after them.
use Rattle.std.proofs.Common.{◌≡◌, ◌<◌, ◌≤◌, ◌+◌, ◌-◌, ℕ, Bool, true, false, not, cond, List, [], ◌∷◌, ◌++◌, length, take, drop, get_or, map, replicate, Contains, IsPermutation, IsSorted, refl, sym, ◌∙◌, ap, subst, arith, ◌⊎◌, inl, inr, rules}
use Rattle.std.proofs.Math.ListN.{get_or-map}
use Rattle.std.specs.Prelude.{IsSortedByKey}
use Rattle.std.specs.List.{All, AllWithin, filter}
use Rattle.std.specs.Ordering.{is_lt, nat_cmp, ordering_then}
use Rattle.std.specs.declared.cmp.Ordering.{Ordering}
use Rattle.std.specs.declared.cmp.Ordering.TheVariants.{Less, Equal, Greater}
use Rattle.std.proofs.lemmas.Bool.Decides.{nat_tests}
use Rattle.std.proofs.lemmas.List.{append-nil, get_or_default, length-map, map-append, get_or-drop, get_or-take, length-append, length-drop, length-take-le, take-append-drop}
use Rattle.std.proofs.lemmas.List.Elements.{All-head, All-tail, filter-append}
use Rattle.std.proofs.lemmas.List.Kept.{IsSortedBy-filter}
use Rattle.std.proofs.lemmas.List.Sorted.{All-permutation, Contains-permutation, IsPermutation-sym, length_permutation, sorted_far}
use Rattle.object_forms.specs.declared.kind.Kind.{Kind}
use Rattle.object_forms.specs.declared.kind.Kind.TheVariants.{Schema, Table, Procedure, Function, View, Trigger, Event}
use Rattle.server_data.specs.Equal.{kind_eq, kind_number}
use Rattle.server_data.specs.declared.data.Object.{Object}
use Rattle.folder_forms.specs.LoadOrder.{IsLoadOrder, IsViewOrder, by_name, is_view, load_cmp, views_of, without_views}
use Rattle.load_order.specs.Stages.{HasStuck, Parts}
use Rattle.load_order.proofs.OrderLemmas.{load_ranks, name_ranks}

abbrev pub kind_of : Object → ℕ
kind_of object = kind_number object.kind

-- what comes first decides
first_decides : (one other : Ordering) → is_lt (ordering_then one other) ≡ false → is_lt one ≡ false
first_decides Less other e = e
first_decides Equal other e = refl
first_decides Greater other e = refl

not_less : (a b : ℕ) → is_lt (nat_cmp a b) ≡ false → b ≤ a
not_less a b e = grind (arith, nat_tests)

-- no later object is of a kind before that of an earlier one
pub kinds_rise : (objects : List Object) → IsSorted load_cmp objects → (i j : ℕ) (d : Object) → i ≤ j → j < length objects
    → kind_number (get_or objects i d).kind ≤ kind_number (get_or objects j d).kind
kinds_rise objects up i j d low under =
    not_less _ _ (first_decides _ _ (sorted_far (λ (x y : Object). is_lt (load_cmp x y)) load_ranks objects up i j d low under))

as_view : (o : Object) → 4 ≤ kind_number o.kind → kind_number o.kind < 5 → is_view o ≡ true
as_view o low high = let is : kind_number o.kind ≡ 4 = omega arith in rw is refl

pub parts_are : (objects : List Object) (from to : ℕ) → IsSorted load_cmp objects → from ≤ length objects → to ≤ length objects
    → AllWithin (λ (o : Object). kind_number o.kind < 4) objects 0 from → AllWithin (λ (o : Object). 4 ≤ kind_number o.kind) objects from (length objects)
    → AllWithin (λ (o : Object). kind_number o.kind < 5) objects 0 to → AllWithin (λ (o : Object). 5 ≤ kind_number o.kind) objects to (length objects)
    → Parts objects from to
parts_are objects from to up first second below above under over = record {
  up = up;
  low = rises objects first below over (sides to from);
  high = second;
  front = below;
  middle = λ k d low high. as_view (get_or objects k d) (above k d low (omega arith)) (under k d (omega arith) high);
  back = over;
}
  where
    sides : (a b : ℕ) → (a < b) ⊎ (b ≤ a)
    sides a b = search rules

    rises : (objects : List Object) → from ≤ length objects → AllWithin (λ (o : Object). kind_number o.kind < 4) objects 0 from
        → AllWithin (λ (o : Object). 5 ≤ kind_number o.kind) objects to (length objects) → (to < from) ⊎ (from ≤ to) → from ≤ to
    rises objects first below over (inr low) = low
    rises [] first below over (inl less) = absurd (omega arith)
    rises (x ∷ xs) first below over (inl less) =
        let one = below to x (omega arith) less in
        let other = over to x (omega arith) (omega arith) in
        absurd (omega arith)

kind_is : (kind : Kind) → kind_eq kind View ≡ true → kind ≡ View
kind_is Schema e = absurd (cc)
kind_is Table e = absurd (cc)
kind_is Procedure e = absurd (cc)
kind_is Function e = absurd (cc)
kind_is View e = refl
kind_is Trigger e = absurd (cc)
kind_is Event e = absurd (cc)

-- views are in order by name
pub views_cmp : (one other : Object) → is_view one ≡ true → is_view other ≡ true → load_cmp one other ≡ by_name one other
views_cmp one other e f = rw (kind_is one.kind e, kind_is other.kind f) refl

module _ {X : Type 0} where
  filter_all : (p : X → Bool) (xs : List X) → All (λ x. p x ≡ true) xs → filter p xs ≡ xs
  filter_all p [] all = refl
  filter_all p (x ∷ xs) all = rw (All-head (λ y. p y ≡ true) x xs all) (ap (λ (l : List X). x ∷ l) (filter_all p xs (All-tail (λ y. p y ≡ true) x xs all)))

  filter_none : (p : X → Bool) (xs : List X) → All (λ x. p x ≡ false) xs → filter p xs ≡ []
  filter_none p [] all = refl
  filter_none p (x ∷ xs) all = rw (All-head (λ y. p y ≡ false) x xs all) (filter_none p xs (All-tail (λ y. p y ≡ false) x xs all))

  mid_length : (xs : List X) (from to : ℕ) → from ≤ to → to ≤ length xs → length (take (to - from) (drop from xs)) ≡ to - from
  mid_length xs from to low high = omega (arith, length-take-le (to - from) (drop from xs) (omega (arith, length-drop from xs)))

  mid_at : (xs : List X) (from to k : ℕ) (d : X) → k < to - from → get_or (take (to - from) (drop from xs)) k d ≡ get_or xs (from + k) d
  mid_at xs from to k d below = get_or-take (to - from) (drop from xs) k d below ∙ get_or-drop from xs k d

  mid_all : (P : X → Type 0) (xs : List X) (from to : ℕ) → from ≤ to → to ≤ length xs → AllWithin P xs from to → All P (take (to - from) (drop from xs))
  mid_all P xs from to low high all k d below =
      let size = mid_length xs from to low high in
      subst P (sym (mid_at xs from to k d (omega arith))) (all (from + k) d (omega arith) (omega arith))

pub views_sorted : (objects : List Object) (from to : ℕ) → Parts objects from to → IsSorted by_name (take (to - from) (drop from objects))
views_sorted objects from to parts k d low under =
    let size = mid_length objects from to parts.low parts.high in
    let next : from + (k + 1) ≡ (from + k) + 1 = omega arith in
    rw (mid_at objects from to (k + 1) d (omega arith), mid_at objects from to k d (omega arith), next)
    (rw (views_cmp (get_or objects (from + k + 1) d) (get_or objects (from + k) d)
    (parts.middle (from + k + 1) d (omega arith) (omega arith)) (parts.middle (from + k) d (omega arith) (omega arith)))
    at (parts.up (from + k) d (omega arith) (omega (arith, parts.high))))

pub from_here : (objects : List Object) → IsSorted load_cmp objects → (at number : ℕ) (object : Object) → at < length objects → object ≡ get_or objects at object
    → number ≤ kind_number object.kind → AllWithin (λ (o : Object). number ≤ kind_number o.kind) objects at (length objects)
from_here objects up at number object below is large k d low high =
    let same : get_or objects at d ≡ object = get_or_default objects at d object below ∙ sym is in
    let rises = rw same at (kinds_rise objects up at k d low high) in
    omega arith

-- two lists of views of one length have the same kinds
map_const : {X : Type 0} (f : X → ℕ) (n : ℕ) (xs : List X) → All (λ x. f x ≡ n) xs → map f xs ≡ replicate (length xs) n
map_const f n [] all = refl
map_const f n (x ∷ xs) all = rw (All-head (λ y. f y ≡ n) x xs all) (ap (λ (l : List ℕ). n ∷ l) (map_const f n xs (All-tail (λ y. f y ≡ n) x xs all)))

view_number : (o : Object) → is_view o ≡ true → kind_number o.kind ≡ 4
view_number o e = ap kind_number (kind_is o.kind e)

no_view_below : (o : Object) → kind_number o.kind < 4 → is_view o ≡ false
no_view_below o below = grind (arith, nat_tests)

no_view_above : (o : Object) → 5 ≤ kind_number o.kind → is_view o ≡ false
no_view_above o above = grind (arith, nat_tests)

-- a list whose kinds are those of a sorted one
kinds_alike : (objects others : List Object) → IsSorted load_cmp objects → map kind_of others ≡ map kind_of objects
    → IsSortedByKey kind_of nat_cmp others
kinds_alike objects others up same k d low under =
    let at : (j : ℕ) → kind_of (get_or others j d) ≡ kind_of (get_or objects j d) =
    λ j. sym (get_or-map kind_of others j d) ∙ (ap (λ (l : List ℕ). get_or l j (kind_of d)) same ∙ get_or-map kind_of objects j d) in
    let size : length others ≡ length objects = sym (length-map others kind_of) ∙ (ap length same ∙ length-map objects kind_of) in
    rw (at (k + 1), at k) (first_decides _ _ (up k d low (omega arith)))

pub record Cut (objects front views back : List Object) : Type 0 where
  pub whole : front ++ (views ++ back) ≡ objects
  pub before : All (λ (o : Object). is_view o ≡ false) front
  pub are : All (λ (o : Object). is_view o ≡ true) views
  pub after : All (λ (o : Object). is_view o ≡ false) back

pub cut : (objects : List Object) (from to : ℕ) → Parts objects from to
    → Cut objects (take from objects) (take (to - from) (drop from objects)) (drop (to - from) (drop from objects))
cut objects from to parts = record {
  whole = ap (λ (l : List Object). take from objects ++ l) (take-append-drop (to - from) (drop from objects)) ∙ take-append-drop from objects;
  before = λ k d below.
      let low : k < from = omega (arith, length-take-le from objects (omega (arith, parts.low, parts.high))) in
      rw (get_or-take from objects k d low) (no_view_below (get_or objects k d) (parts.front k d (omega arith) low));
  are = mid_all (λ (o : Object). is_view o ≡ true) objects from to parts.low parts.high parts.middle;
  after = λ k d below.
      let size = length-drop (to - from) (drop from objects) in
      let more = length-drop from objects in
      rw (get_or-drop (to - from) (drop from objects) k d, get_or-drop from objects (to - from + k) d)
      (no_view_above (get_or objects (from + (to - from + k)) d) (parts.back (from + (to - from + k)) d (omega (arith, parts.low)) (omega (arith, parts.low, parts.high, size, more))));
}

negated : (o : Object) (b : Bool) → is_view o ≡ b → not (is_view o) ≡ not b
negated o b e = ap not e

views_kept : (front views back : List Object) → All (λ (o : Object). is_view o ≡ false) front → All (λ (o : Object). is_view o ≡ true) views
    → All (λ (o : Object). is_view o ≡ false) back → views_of (front ++ (views ++ back)) ≡ views
views_kept front views back before are after =
    filter-append is_view front (views ++ back)
    ∙ (rw (filter_none is_view front before, filter-append is_view views back, filter_all is_view views are, filter_none is_view back after) (append-nil views))

others_kept : (front views back : List Object) → All (λ (o : Object). is_view o ≡ false) front → All (λ (o : Object). is_view o ≡ true) views
    → All (λ (o : Object). is_view o ≡ false) back → without_views (front ++ (views ++ back)) ≡ front ++ back
others_kept front views back before are after =
    let test : Object → Bool = λ o. not (is_view o) in
    filter-append test front (views ++ back)
    ∙ (rw (filter_all test front (λ k d h. ap not (before k d h)), filter-append test views back, filter_none test views (λ k d h. ap not (are k d h)), filter_all test back (λ k d h. ap not (after k d h))) refl)

pub placed : (objects front views back arranged : List Object) → IsSorted load_cmp objects → Cut objects front views back → IsPermutation views arranged
    → IsViewOrder arranged → IsLoadOrder (front ++ (arranged ++ back))
placed objects front views back arranged up cuts same order =
    let are = All-permutation (λ (o : Object). is_view o ≡ true) views arranged same cuts.are in
    let inside : map kind_of arranged ≡ map kind_of views =
    map_const kind_of 4 arranged (λ k d h. view_number (get_or arranged k d) (are k d h))
    ∙ (ap (λ (n : ℕ). replicate n 4) (length_permutation views arranged same) ∙ sym (map_const kind_of 4 views (λ k d h. view_number (get_or views k d) (cuts.are k d h)))) in
    let kinds : map kind_of (front ++ (arranged ++ back)) ≡ map kind_of (front ++ (views ++ back)) =
    rw (map-append kind_of front (arranged ++ back), map-append kind_of arranged back, map-append kind_of front (views ++ back), map-append kind_of views back, inside) refl in
    let others : without_views (front ++ (arranged ++ back)) ≡ without_views objects =
    others_kept front arranged back cuts.before are cuts.after
    ∙ (sym (others_kept front views back cuts.before cuts.are cuts.after) ∙ ap without_views cuts.whole) in
    record {
      kinds = kinds_alike objects (front ++ (arranged ++ back)) up (kinds ∙ ap (λ (l : List Object). map kind_of l) cuts.whole);
      others = subst (IsSorted load_cmp) (sym others) (IsSortedBy-filter (λ (x y : Object). is_lt (load_cmp x y)) load_ranks (λ (o : Object). not (is_view o)) objects up);
      views = subst IsViewOrder (sym (views_kept front arranged back cuts.before are cuts.after)) order;
    }

pub unplaced : (objects front views back arranged : List Object) → Cut objects front views back → IsPermutation views arranged
    → HasStuck views → HasStuck (views_of (front ++ (arranged ++ back)))
unplaced objects front views back arranged cuts same stuck =
    let are = All-permutation (λ (o : Object). is_view o ≡ true) views arranged same cuts.are in
    subst HasStuck (sym (views_kept front arranged back cuts.before are cuts.after)) (record {
      left = stuck.left;
      some = stuck.some;
      among = λ view has. Contains-permutation views arranged view same (stuck.among view has);
      stuck = stuck.stuck;
    })
