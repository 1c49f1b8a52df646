-- Views that are put in order one by one.
use Rattle.std.proofs.Common.{◌≡◌, ◌<◌, ◌≤◌, ◌+◌, ◌-◌, ℕ, Bool, true, false, not, List, [], ◌∷◌, ◌++◌, length, take, drop, Contains, IsPermutation, IsSorted, refl, sym, ◌∙◌, ap, subst, arith, append_assoc}
use borrow.Rule.Slice.PartMut.{put_mid}
use Rattle.std.specs.List.{list_any}
use Rattle.std.specs.Ordering.{is_lt}
use Rattle.std.proofs.lemmas.List.{append-nil, length-append, length-take-le, length-drop, take-append-drop, take_all, take_rest}
use Rattle.std.proofs.lemmas.List.Elements.{Contains-append_right}
use Rattle.std.proofs.lemmas.List.Sorted.{Contains-permutation, IsPermutation-append_right, IsPermutation-cons, IsPermutation-refl, IsPermutation-sym, IsPermutation-trans, list_any-IsPermutation}
use Rattle.std.proofs.Math.Seq.{drop-append_seam, take-append_seam}
use Rattle.folder_forms.specs.LoadOrder.{IsLeastReady, IsViewOrder, by_name, is_ready, needs_view}
use Rattle.load_order.specs.Stages.{CompletesOrder, HasStuck, IsStuck, PutsFirst}
use Rattle.server_data.specs.declared.data.Object.{Object}

-- the same of the views in another order
pub least_alike : (left others : List Object) (view : Object) → IsPermutation left others → IsLeastReady left view → IsLeastReady others view
least_alike left others view moves is = record {
  ready = sym (alike view) ∙ is.ready;
  least = λ other has ready. is.least other (Contains-permutation others left other (IsPermutation-sym left others moves) has) (alike other ∙ ready);
}
  where
    alike : (other : Object) → is_ready left other ≡ is_ready others other
    alike other = ap not (list_any-IsPermutation (needs_view other) left others moves)

pub starts : (views : List Object) → CompletesOrder (take 0 views) (drop 0 views)
starts views rest moves order = order

-- one more view stands
pub one_more : (made left rest : List Object) (view : Object) → IsLeastReady left view → IsPermutation left (view ∷ rest)
    → CompletesOrder made left → CompletesOrder (made ++ view ∷ []) rest
one_more made left rest view least same whole others moves order =
    let front = IsPermutation-trans left (view ∷ rest) (view ∷ others) same (IsPermutation-cons view rest others moves) in
    let joined : made ++ view ∷ others ≡ (made ++ view ∷ []) ++ others = sym (append_assoc made (view ∷ []) others) in
    subst IsViewOrder joined (whole (view ∷ others) front (least_alike left (view ∷ others) view front least, order))

-- what the front and the rest are after a step
pub step_parts : (made rest : List Object) (view : Object) (done : ℕ) (views : List Object) → done ≡ length made → views ≡ made ++ view ∷ rest
    → (take (done + 1) views ≡ made ++ view ∷ []) × (drop (done + 1) views ≡ rest)
step_parts made rest view done views size is =
    let whole : views ≡ (made ++ view ∷ []) ++ rest = is ∙ sym (append_assoc made (view ∷ []) rest) in
    let long : done + 1 ≡ length (made ++ view ∷ []) = omega (arith, length-append made (view ∷ [])) in
    (rw (whole, long) (take-append_seam (made ++ view ∷ []) rest), rw (whole, long) (drop-append_seam (made ++ view ∷ []) rest))

pub record Standing (first views : List Object) (done : ℕ) : Type 0 where
  pub same : IsPermutation first views
  pub sorted : IsSorted by_name (drop done views)
  pub completes : CompletesOrder (take done views) (drop done views)

pub standing_first : (views : List Object) → IsSorted by_name views → Standing views views 0
standing_first views up = record { same = IsPermutation-refl views; sorted = up; completes = starts views }

pub standing_more : (first views arranged : List Object) (done : ℕ) → done < length views → Standing first views done → PutsFirst (drop done views) arranged
    → Standing first (take done views ++ arranged) (done + 1)
standing_more first views arranged done below stands put =
    let made = take done views in
    let parts = step_parts made put.rest put.view done (made ++ arranged) (sym (length-take-le done views (omega arith))) (ap (λ (l : List Object). made ++ l) put.parts) in
    let moved : IsPermutation (made ++ drop done views) (made ++ arranged) = IsPermutation-append_right made (drop done views) arranged put.same in
    record {
      same = IsPermutation-trans first views (made ++ arranged) stands.same (rw (take-append-drop done views) at moved);
      sorted = rw (parts.1) put.sorted;
      completes = rw (parts.0, parts.1) (one_more made (drop done views) put.rest put.view put.least (rw put.parts at put.same) stands.completes);
    }

pub standing_end : (first views : List Object) (done : ℕ) → length views ≤ done → Standing first views done → IsViewOrder views
standing_end first views done all stands =
    let front : take done views ≡ views = take_all done views all in
    let none : drop done views ≡ [] = empty (drop done views) (omega (arith, length-drop done views)) in
    rw (append-nil {A = Object} views) at (rw (front, none) at stands.completes [] (IsPermutation-refl []) tt)
  where
    empty : (l : List Object) → length l ≤ 0 → l ≡ []
    empty [] h = refl
    empty (x ∷ xs) h = absurd (omega arith)

pub standing_stuck : (first views : List Object) (done : ℕ) → done < length views → Standing first views done → IsStuck (drop done views) → HasStuck first
standing_stuck first views done below stands stuck = record {
  left = drop done views;
  some = omega (arith, length-drop done views);
  among = λ view has. Contains-permutation views first view (IsPermutation-sym first views stands.same)
      (rw (take-append-drop done views) at (Contains-append_right (take done views) (drop done views) view has));
  stuck = stuck;
}

-- the same, where the rest of a slice was written
pub standing_put : (first views arranged : List Object) (done : ℕ) → done < length views → Standing first views done → PutsFirst (take (length views - done) (drop done views)) arranged
    → Standing first (put_mid done (length views - done) views arranged) (done + 1)
standing_put first views arranged done below stands put =
    let none : drop (length views - done) (drop done views) ≡ [] = empty (drop (length views - done) (drop done views)) (omega (arith, length-drop (length views - done) (drop done views), length-drop done views)) in
    let written : put_mid done (length views - done) views arranged ≡ take done views ++ arranged =
    ap (λ (l : List Object). take done views ++ (arranged ++ l)) none ∙ ap (λ (l : List Object). take done views ++ l) (append-nil arranged) in
    rw written (standing_more first views arranged done below stands (rw (take_rest views done) at put))
  where
    empty : (l : List Object) → length l ≤ 0 → l ≡ []
    empty [] h = refl
    empty (x ∷ xs) h = absurd (omega arith)
