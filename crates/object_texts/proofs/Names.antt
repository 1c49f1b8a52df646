-- Names with doubled backquotes.
use Rattle.std.proofs.Common.{◌≡◌, ℕ, ◌+◌, ◌<◌, ◌==◌, Bool, true, false, List, [], ◌∷◌, length, drop, get_or, refl, sym, ◌∙◌, ap, eqb-true}
use Rattle.std.proofs.lemmas.List.{drop-drop}
use Rattle.object_texts.specs.Reading.{doubled_step}
use Rattle.object_forms.specs.Shape.{name_value}
use Rattle.sql_tokens.proofs.Quotes.{drop-at}

-- two equal backquotes stand for the first of them
undoubled-both : (byte next : ℕ) (bytes : List ℕ) (first second : Bool) → (byte == 96) ≡ first → (next == 96) ≡ second → name_value (byte ∷ next ∷ bytes) ≡ byte ∷ name_value (drop (doubled_step (byte ∷ next ∷ bytes)) (byte ∷ next ∷ bytes))
undoubled-both byte next bytes true true e f = let same : byte ≡ 96 = eqb-true byte 96 e in rw (e, f) (ap (λ (b : ℕ). b ∷ name_value bytes) (sym same))
undoubled-both byte next bytes true false e f = rw (e, f) refl
undoubled-both byte next bytes false second e f = rw e refl

undoubled-cons : (byte : ℕ) (bytes : List ℕ) → name_value (byte ∷ bytes) ≡ byte ∷ name_value (drop (doubled_step (byte ∷ bytes)) (byte ∷ bytes))
undoubled-cons byte [] = refl
undoubled-cons byte (next ∷ bytes) = undoubled-both byte next bytes _ _ refl refl

pub undoubled-step : (at : ℕ) (name : List ℕ) → at < length name → name_value (drop at name) ≡ get_or name at 0 ∷ name_value (drop (at + doubled_step (drop at name)) name)
undoubled-step at name inside =
    let front = drop-at name at inside in
    let one : name_value (drop at name) ≡ get_or name at 0 ∷ name_value (drop (doubled_step (drop at name)) (drop at name)) = rw front (undoubled-cons (get_or name at 0) (drop (at + 1) name)) in
    one ∙ ap (λ (left : List ℕ). get_or name at 0 ∷ name_value left) (drop-drop (doubled_step (drop at name)) at name)

pub ruleset undoubled_step = (undoubled-step)
