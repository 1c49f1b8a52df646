-- A stage of a reading, and what follows it.
use Rattle.std.proofs.Common.{◌≡◌, Ok, Err, ap, sym, subst, inl, inr}
use Rattle.std.specs.Prelude.{IsErrAnd, Result}
use Rattle.command_words.specs.Meant.{FailsAsMeant, IsAsMeant, and_then}
use Rattle.command_words.specs.declared.fault.WordsFault.{WordsFault}

-- a fault that is handed on
pub handed_on : {T : Type 0} (meant result : Result T WordsFault) (e : WordsFault) → IsErrAnd result (λ y. y ≡ e)
    → FailsAsMeant meant e → IsAsMeant meant result
handed_on meant (Ok x) e same fails = absurd same
handed_on meant (Err y) e same fails = subst (FailsAsMeant meant) (sym same) fails

-- where the first stage fails, the whole does
pub first_fails : {T U : Type 0} (first : Result T WordsFault) (read : T → Result U WordsFault) (e : WordsFault)
    → FailsAsMeant first e → FailsAsMeant (and_then first read) e
first_fails first read e (inl memory) = inl memory
first_fails {T} {U} first read e (inr is) = inr (ap (λ (r : Result T WordsFault). and_then r read) is)

-- where it is read, the second stage answers
pub second_answers : {T U : Type 0} (first : Result T WordsFault) (read : T → Result U WordsFault) (x : T) (result : Result U WordsFault)
    → first ≡ Ok x → IsAsMeant (read x) result → IsAsMeant (and_then first read) result
second_answers {T} {U} first read x result is answer =
    subst (λ (r : Result T WordsFault). IsAsMeant (and_then r read) result) (sym is) answer
