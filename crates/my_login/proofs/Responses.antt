-- The response, piece by piece.
use Rattle.std.proofs.Common.{◌≡◌, ℕ, ◌+◌, List, [], ◌∷◌, ◌++◌, length, Option, Some, None, unwrap_or, append_assoc, length-append, refl, ◌∙◌, ap, arith}
use Rattle.std.specs.Prelude.{replicate}
use Rattle.wire_forms.specs.Texts.{native_password}
use Rattle.wire_forms.specs.Response.{asked_capabilities, answer_field, response}
use Rattle.wire_forms.specs.declared.ends.Ends.{Ends}
use Rattle.wire_forms.specs.declared.ends.Ends.TheVariants.{Eof, Ok}

-- what stands between the capabilities and the user
abbrev pub before_user : List ℕ
before_user = 0x00 ∷ 0x00 ∷ 0x00 ∷ 0x04 ∷ 0x2d ∷ replicate 23 0

-- what stands after the answer
abbrev pub plugin : List ℕ
plugin = native_password ++ 0 ∷ []

-- six pieces, one after the other
joined : (old user : List ℕ) (answer : Option (List ℕ)) (ends : Ends) → (((((old ++ asked_capabilities ends) ++ before_user) ++ user) ++ 0 ∷ length (unwrap_or answer []) ∷ []) ++ unwrap_or answer []) ++ plugin ≡ old ++ response user answer ends
joined old user None Eof = simp append_assoc refl
joined old user None Ok = simp append_assoc refl
joined old user (Some answer) Eof = simp append_assoc refl
joined old user (Some answer) Ok = simp append_assoc refl

-- as they were appended
pub appended : (old user bytes : List ℕ) (answer : Option (List ℕ)) (ends : Ends) (a b c d e f : List ℕ) → bytes ≡ unwrap_or answer [] → a ≡ old ++ asked_capabilities ends → b ≡ a ++ before_user → c ≡ b ++ user → d ≡ c ++ 0 ∷ length bytes ∷ [] → e ≡ d ++ bytes → f ≡ e ++ plugin → f ≡ old ++ response user answer ends
appended old user bytes answer ends a b c d e f is o p q r s t =
    t
    ∙ ap (λ (l : List ℕ). l ++ plugin) (s ∙ ap (λ (l : List ℕ). l ++ bytes) (r ∙ ap (λ (l : List ℕ). l ++ 0 ∷ length bytes ∷ []) (q ∙ ap (λ (l : List ℕ). l ++ user) (p ∙ ap (λ (l : List ℕ). l ++ before_user) o))))
    ∙ ap (λ (bytes : List ℕ). (((((old ++ asked_capabilities ends) ++ before_user) ++ user) ++ 0 ∷ length bytes ∷ []) ++ bytes) ++ plugin) is
    ∙ joined old user answer ends

-- the size of a response
pub response_length : (user : List ℕ) (answer : Option (List ℕ)) (ends : Ends) → length (response user answer ends) ≡ 33 + length user + length (answer_field answer) + 22
response_length user answer Eof = simp length-append (omega arith)
response_length user answer Ok = simp length-append (omega arith)
