-- A reply's first message is told by its front.
use Rattle.std.proofs.Common.{◌≡◌, ◌≤◌, inl, inr, ℕ, ◌+◌, ◌*◌, ◌==◌, ◌&&◌, nat_le, Bool, false, if◌then◌else◌, List, [], ◌∷◌, ◌++◌, length, take, drop, Option, Some, None, refl, sym, ◌∙◌, ap, option_map, option_and_then, arith, length-append, length-drop}
use Rattle.std.specs.Option.{option_map_or}
use Rattle.std.proofs.lemmas.Bool.{cases_lt}
use Rattle.std.proofs.lemmas.Bool.Decides.{nat_tests}
use Rattle.std.proofs.lemmas.List.{take-append-drop, take-append-le, drop-append-le, length-take-le, take_all}
use Rattle.wire_forms.specs.Lenenc.{lenenc_of}
use Rattle.wire_forms.specs.Reply.{reply_of, after_number, refusal_of, refusal_of_code, is_ok_packet}
use Rattle.wire_forms.specs.Definition.{column_count}

-- a number of at most nine bytes is read in as many
lenenc_append : (bytes rest : List ℕ) → 9 ≤ length bytes → lenenc_of (bytes ++ rest) ≡ lenenc_of bytes
lenenc_append [] rest long = absurd (omega arith)
lenenc_append (a ∷ []) rest long = absurd (omega arith)
lenenc_append (a ∷ b ∷ []) rest long = absurd (omega arith)
lenenc_append (a ∷ b ∷ c ∷ []) rest long = absurd (omega arith)
lenenc_append (a ∷ b ∷ c ∷ d ∷ []) rest long = absurd (omega arith)
lenenc_append (a ∷ b ∷ c ∷ d ∷ e ∷ []) rest long = absurd (omega arith)
lenenc_append (a ∷ b ∷ c ∷ d ∷ e ∷ f ∷ []) rest long = absurd (omega arith)
lenenc_append (a ∷ b ∷ c ∷ d ∷ e ∷ f ∷ g ∷ []) rest long = absurd (omega arith)
lenenc_append (a ∷ b ∷ c ∷ d ∷ e ∷ f ∷ g ∷ h ∷ []) rest long = absurd (omega arith)
lenenc_append (a ∷ b ∷ c ∷ d ∷ e ∷ f ∷ g ∷ h ∷ i ∷ more) rest long = grind (arith, nat_tests, length-append {A = ℕ})

lenenc_short : (bytes : List ℕ) (number : ℕ × ℕ) → lenenc_of bytes ≡ Some number → number.1 ≤ 9
lenenc_short bytes number found = grind (arith, nat_tests)

-- whether four bytes are after a number
abbrev four_left : Option (List ℕ) → Bool
four_left found = option_map_or (λ (rest : List ℕ). nat_le 4 (length rest)) found false

both_left : (found : Option (ℕ × ℕ)) (bytes rest : List ℕ) → ((number : ℕ × ℕ) → found ≡ Some number → number.1 ≤ 9) → 13 ≤ length bytes → four_left (option_map (λ (number : ℕ × ℕ). drop number.1 (bytes ++ rest)) found) ≡ four_left (option_map (λ (number : ℕ × ℕ). drop number.1 bytes) found)
both_left None bytes rest short long = refl
both_left (Some number) bytes rest short long =
    let bound : number.1 ≤ 9 = short number refl in
    let some = length-drop number.1 bytes in
    let more = length-drop number.1 (bytes ++ rest) in
    grind (arith, nat_tests, length-append {A = ℕ})

second_number : (bytes rest : List ℕ) → 13 ≤ length bytes → four_left (after_number (bytes ++ rest)) ≡ four_left (after_number bytes)
second_number bytes rest long = rw (lenenc_append bytes rest (omega arith)) (both_left (lenenc_of bytes) bytes rest (lenenc_short bytes) long)

first_number : (found : Option (ℕ × ℕ)) (bytes rest : List ℕ) → ((number : ℕ × ℕ) → found ≡ Some number → number.1 ≤ 9) → 22 ≤ length bytes → four_left (option_and_then after_number (option_map (λ (number : ℕ × ℕ). drop number.1 (bytes ++ rest)) found)) ≡ four_left (option_and_then after_number (option_map (λ (number : ℕ × ℕ). drop number.1 bytes) found))
first_number None bytes rest short long = refl
first_number (Some number) bytes rest short long =
    let bound : number.1 ≤ 9 = short number refl in
    rw (drop-append-le number.1 bytes rest (omega arith)) (second_number (drop number.1 bytes) rest (let some = length-drop number.1 bytes in omega arith))

ok_append : (byte : ℕ) (bytes rest : List ℕ) → 22 ≤ length bytes → is_ok_packet (byte ∷ bytes ++ rest) ≡ is_ok_packet (byte ∷ bytes)
ok_append byte bytes rest long = rw (lenenc_append bytes rest (omega arith)) (ap (λ (b : Bool). byte == 0 && b) (first_number (lenenc_of bytes) bytes rest (lenenc_short bytes) long))

said_append : (code byte : ℕ) (bytes rest : List ℕ) → 517 ≤ length bytes → refusal_of_code code (byte ∷ bytes ++ rest) ≡ refusal_of_code code (byte ∷ bytes)
said_append code byte bytes rest long =
    let state = take-append-le 5 bytes rest (omega arith) in
    let after = drop-append-le 5 bytes rest (omega arith) in
    let text = take-append-le 512 (drop 5 bytes) rest (let l = length-drop 5 bytes in omega arith) in
    let all = take-append-le 512 (byte ∷ bytes) rest (omega arith) in
    let there : 5 ≤ length (bytes ++ rest) = let l = length-append bytes rest in omega arith in
    grind (arith, nat_tests)

refusal_append : (byte : ℕ) (bytes rest : List ℕ) → 520 ≤ length bytes → refusal_of (byte ∷ bytes ++ rest) ≡ refusal_of (byte ∷ bytes)
refusal_append byte [] rest long = absurd (omega arith)
refusal_append byte (low ∷ []) rest long = absurd (omega arith)
refusal_append byte (low ∷ high ∷ []) rest long = absurd (omega arith)
refusal_append byte (low ∷ high ∷ first ∷ bytes) rest long = rw (said_append (low + 256 * high) first bytes rest (omega arith))

-- a longer message is no number
no_count : (payload : List ℕ) → 10 ≤ length payload → column_count payload ≡ None
no_count payload long = by_number (lenenc_of payload) (lenenc_short payload) where
  by_number : (found : Option (ℕ × ℕ)) → ((number : ℕ × ℕ) → found ≡ Some number → number.1 ≤ 9) → option_and_then (λ (number : ℕ × ℕ). if number.1 == length payload && nat_le 1 number.0 && nat_le number.0 65535 then Some number.0 else None) found ≡ None
  by_number None short = refl
  by_number (Some number) short = let bound : number.1 ≤ 9 = short number refl in grind (arith, nat_tests)

reply_append : (front rest : List ℕ) → 1024 ≤ length front → reply_of (front ++ rest) ≡ reply_of front
reply_append [] rest long = absurd (omega arith)
reply_append (byte ∷ bytes) rest long =
    let count = no_count (byte ∷ bytes) (omega arith) in
    let more = no_count (byte ∷ bytes ++ rest) (let l = length-append bytes rest in omega arith) in
    rw (ok_append byte bytes rest (omega arith), refusal_append byte bytes rest (omega arith), count, more)

pub front_tells : (payload : List ℕ) → reply_of (take 1024 payload) ≡ reply_of payload
front_tells payload = elim (cases_lt 1024 (length payload)) [
  | inl long ↦ sym (reply_append (take 1024 payload) (drop 1024 payload) (let l = length-take-le 1024 payload (omega arith) in omega arith)) ∙ ap reply_of (take-append-drop 1024 payload)
  | inr short ↦ ap reply_of (take_all 1024 payload short)
]
