-- A text has one bad line at most.
use Rattle.std.proofs.Common.{◌≡◌, ℕ, suc, ◌+◌, List, [], ◌∷◌, ◌++◌, length, refl, sym, ◌∙◌, ap, subst, append_assoc}
use Rattle.std.specs.List.{AllByRecursion, flat_map}
use Rattle.folder_forms.specs.Metadata.{BeginsMetadata, IsBadLine, IsMetadata, ended}
use Rattle.metadata_ini.proofs.CleanLines.{Clean, metadata_clean}
use Rattle.metadata_ini.proofs.CutTexts.{same_cut}
use Rattle.metadata_ini.proofs.FileFronts.{ended_cons}
use Rattle.metadata_ini.proofs.Fronts.{front_clean}

-- one list of lines goes on where the other ends
record GoesFurther (a b : List (List ℕ)) (r : List ℕ) : Type 0 where
  line : List ℕ
  more : List (List ℕ)
  after : List ℕ
  is : b ≡ a ++ line ∷ more
  text : r ≡ ended line ++ after

data Relation (a b : List (List ℕ)) (r s : List ℕ) : Type 0 where
  equal : length a ≡ length b → Relation a b r s
  shorter : GoesFurther a b r → Relation a b r s
  longer : GoesFurther b a s → Relation a b r s

wider : (x : List ℕ) (a b : List (List ℕ)) (r s : List ℕ) → Relation a b r s → Relation (x ∷ a) (x ∷ b) r s
wider x a b r s (equal e) = equal (ap suc e)
wider x a b r s (shorter g) = shorter (record { line = g.line; more = g.more; after = g.after; is = ap (λ l. x ∷ l) g.is; text = g.text })
wider x a b r s (longer g) = longer (record { line = g.line; more = g.more; after = g.after; is = ap (λ l. x ∷ l) g.is; text = g.text })

related : (a b : List (List ℕ)) (r s : List ℕ) → AllByRecursion Clean a → AllByRecursion Clean b → flat_map ended a ++ r ≡ flat_map ended b ++ s → Relation a b r s
related [] [] r s h k e = equal refl
related [] (y ∷ b) r s h k e = shorter (record { line = y; more = b; after = flat_map ended b ++ s; is = refl; text = e ∙ append_assoc (ended y) (flat_map ended b) s })
related (x ∷ a) [] r s h k e = longer (record { line = x; more = a; after = flat_map ended a ++ r; is = refl; text = sym e ∙ append_assoc (ended x) (flat_map ended a) r })
related (x ∷ a) (y ∷ b) r s h k e =
    let cut = same_cut 10 x y (flat_map ended a ++ r) (flat_map ended b ++ s) h.0 k.0
    (sym (append_assoc (ended x) (flat_map ended a) r ∙ ended_cons x (flat_map ended a ++ r)) ∙ e ∙ append_assoc (ended y) (flat_map ended b) s ∙ ended_cons y (flat_map ended b ++ s)) in
    subst (λ z. Relation (x ∷ a) (z ∷ b) r s) cut.0 (wider x a b r s (related a b r s h.1 k.1 cut.1))

clean_of : (before : List (List ℕ)) → BeginsMetadata before → AllByRecursion Clean before
clean_of before front = front_clean before front.more (metadata_clean (before ++ front.more) front.value front.is)

-- lines begin what more lines begin
begins_less : (a : List (List ℕ)) (line : List ℕ) (more : List (List ℕ)) → BeginsMetadata (a ++ line ∷ more) → BeginsMetadata (a ++ line ∷ [])
begins_less a line more front = record {
  more = more ++ front.more;
  value = front.value;
  is = subst (λ l. IsMetadata l front.value) (append_assoc a (line ∷ more) front.more ∙ sym (append_assoc a (line ∷ []) (more ++ front.more))) front.is;
}

pub one_bad_line : (text : List ℕ) (m n : ℕ) → IsBadLine text m → IsBadLine text n → m ≡ n
one_bad_line text m n p q = by (related p.before q.before p.rest q.rest (clean_of p.before p.front) (clean_of q.before q.front) (sym p.divided ∙ q.divided)) where
  by : Relation p.before q.before p.rest q.rest → m ≡ n
  by (equal e) = p.is ∙ ap (λ k. k + 1) e ∙ sym q.is
  by (shorter g) = absurd (p.stops g.line g.after g.text (begins_less p.before g.line g.more (subst BeginsMetadata g.is q.front)))
  by (longer g) = absurd (q.stops g.line g.after g.text (begins_less q.before g.line g.more (subst BeginsMetadata g.is p.front)))
