-- A name is UTF-8 exactly where it is with each doubled backquote as one.
use Rattle.std.proofs.Common.{◌≡◌, ℕ, ◌+◌, ◌<◌, ◌==◌, ◌&&◌, Bool, true, false, List, [], ◌∷◌, ◌++◌, length, get_or, IsUtf8, refl, sym, ◌∙◌, ap, subst, arith, append_assoc, eqb-true, length-append}
use Rattle.std.proofs.Math.Seq.{drop-append-add, get_or-append_seam, take-append_seam}
use Rattle.std.specs.Str.{is_utf8}
use Rattle.std.proofs.lemmas.Str.{IsCharBoundary-after_ascii, IsCharBoundary-before_ascii, IsUtf8-append, IsUtf8-drop, IsUtf8-from_is_utf8, IsUtf8-nil, IsUtf8-take, is_utf8-from_IsUtf8}
use Rattle.object_forms.specs.Shape.{name_value}
use Rattle.sql_tokens.proofs.Tokens.{cond_by}

-- text on both sides of a backquote
pub record Sides (front back : List ℕ) : Type 0 where
  pub before : IsUtf8 front
  pub after : IsUtf8 back

sides : (front back : List ℕ) → IsUtf8 (front ++ (96 ∷ back)) → Sides front back
sides front back whole =
    let text = front ++ (96 ∷ back) in
    let long : length front < length text = omega (arith, length-append front (96 ∷ back)) in
    let ascii : get_or text (length front) 0 < 128 = omega (arith, get_or-append_seam front 96 back 0) in
    record {
      before = subst IsUtf8 (take-append_seam front (96 ∷ back)) (IsUtf8-take text (length front) whole (IsCharBoundary-before_ascii text (length front) long ascii));
      after = subst IsUtf8 (drop-append-add front (96 ∷ back) 1) (IsUtf8-drop text (length front + 1) whole (IsCharBoundary-after_ascii text (length front) whole long ascii));
    }

backquote : IsUtf8 (96 ∷ [])
unfolding lib.Utf8.encode
backquote = (96 ∷ [], (refl, refl))

together : (front back : List ℕ) → IsUtf8 front → IsUtf8 back → IsUtf8 (front ++ (96 ∷ back))
together front back a b = IsUtf8-append front (96 ∷ back) a (IsUtf8-append (96 ∷ []) back backquote b)

-- either is text where the other is
pub record Same (name other : List ℕ) : Type 0 where
  pub there : IsUtf8 name → IsUtf8 other
  pub back : IsUtf8 other → IsUtf8 name

pub both_true : (a b : Bool) → (a && b) ≡ true → (a ≡ true) × (b ≡ true)
both_true true b e = (refl, e)
both_true false b e = absurd (cc)

same-after : (front name : List ℕ) → Same (front ++ name) (front ++ name_value name)
same-after front [] = record { there = λ u. u; back = λ u. u }
same-after front (byte ∷ []) = record { there = λ u. u; back = λ u. u }
same-after front (byte ∷ next ∷ bytes) =
    let P : List ℕ → Type 0 = λ name. Same (front ++ (byte ∷ next ∷ bytes)) (front ++ name) in
    cond_by P (byte == 96 && next == 96) _ _
    (λ e.
    let two = both_true (byte == 96) (next == 96) e in
    let first : byte ≡ 96 = eqb-true byte 96 two.0 in
    let second : next ≡ 96 = eqb-true next 96 two.1 in
    let shorter = same-after [] bytes in
    let Q : List ℕ → Type 0 = λ name. Same name (front ++ (96 ∷ name_value bytes)) in
    subst Q (ap (λ (b : ℕ). front ++ (b ∷ next ∷ bytes)) (sym first) ∙ refl) (
    let R : List ℕ → Type 0 = λ name. Same name (front ++ (96 ∷ name_value bytes)) in
    subst R (ap (λ (b : ℕ). front ++ (96 ∷ b ∷ bytes)) (sym second)) (record {
      there = λ whole. let outer = sides front (96 ∷ bytes) whole in let inner = sides [] bytes outer.after in together front (name_value bytes) outer.before (shorter.there inner.after);
      back = λ whole. let outer = sides front (name_value bytes) whole in together front (96 ∷ bytes) outer.before (together [] bytes IsUtf8-nil (shorter.back outer.after));
    })))
    (λ e.
    let shorter = same-after (front ++ (byte ∷ [])) (next ∷ bytes) in
    let whole : (front ++ (byte ∷ [])) ++ (next ∷ bytes) ≡ front ++ (byte ∷ next ∷ bytes) = append_assoc front (byte ∷ []) (next ∷ bytes) in
    let again : (front ++ (byte ∷ [])) ++ name_value (next ∷ bytes) ≡ front ++ (byte ∷ name_value (next ∷ bytes)) = append_assoc front (byte ∷ []) (name_value (next ∷ bytes)) in
    record { there = λ u. subst IsUtf8 again (shorter.there (subst IsUtf8 (sym whole) u)); back = λ u. subst IsUtf8 whole (shorter.back (subst IsUtf8 (sym again) u)) })

pub is_utf8-undoubled : (name : List ℕ) → IsUtf8 name → is_utf8 (name_value name) ≡ true
is_utf8-undoubled name u = is_utf8-from_IsUtf8 (name_value name) ((same-after [] name).there u)

not_true : (b : Bool) → (b ≡ true → ⊥) → b ≡ false
not_true true never = absurd (never refl)
not_true false never = refl

pub is_utf8-none : (name : List ℕ) → (IsUtf8 name → ⊥) → is_utf8 (name_value name) ≡ false
is_utf8-none name never = not_true (is_utf8 (name_value name)) (λ e. never ((same-after [] name).back (IsUtf8-from_is_utf8 (name_value name) e)))

pub is_utf8-is : (bytes : List ℕ) → IsUtf8 bytes → is_utf8 bytes ≡ true
is_utf8-is bytes u = is_utf8-from_IsUtf8 bytes u

pub is_utf8-isnt : (bytes : List ℕ) → (IsUtf8 bytes → ⊥) → is_utf8 bytes ≡ false
is_utf8-isnt bytes never = not_true (is_utf8 bytes) (λ e. never (IsUtf8-from_is_utf8 bytes e))

pub ruleset texts = (is_utf8-is, is_utf8-isnt)

pub ruleset names = (is_utf8-undoubled, is_utf8-none)
