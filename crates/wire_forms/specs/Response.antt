-- The response to a greeting (MySQL source documentation, Protocol::HandshakeResponse41).
use Rattle.std.specs.Prelude.{ℕ, List, [], ◌∷◌, ◌++◌, length, replicate, Option, Some, None}
use Rattle.wire_forms.specs.Texts.{native_password}
use Rattle.wire_forms.specs.declared.ends.Ends.{Ends}
use Rattle.wire_forms.specs.declared.ends.Ends.TheVariants.{Eof, Ok}

-- the capabilities that are asked for: 0x0008a205, and CLIENT_DEPRECATE_EOF (0x1000000) where result sets end by an OK
abbrev pub asked_capabilities : Ends → List ℕ
asked_capabilities Eof = 0x05 ∷ 0xa2 ∷ 0x08 ∷ 0x00 ∷ []
asked_capabilities Ok = 0x05 ∷ 0xa2 ∷ 0x08 ∷ 0x01 ∷ []

-- the answer to the scramble after its length; an empty password has no answer
abbrev pub answer_field : Option (List ℕ) → List ℕ
answer_field None = 0 ∷ []
answer_field (Some answer) = length answer ∷ answer

-- capabilities, largest packet, character set, 23 zeros, user and 00, answer, plugin and 00
abbrev pub response : List ℕ → Option (List ℕ) → Ends → List ℕ
response user answer ends =
    asked_capabilities ends ++ (0x00 ∷ 0x00 ∷ 0x00 ∷ 0x04 ∷ []) ++ (0x2d ∷ []) ++ replicate 23 0
    ++ user ++ (0 ∷ []) ++ answer_field answer ++ native_password ++ (0 ∷ [])
