-- A part of a message that gets no more bytes than it wants holds nothing after the message.
use Rattle.std.proofs.Common.{◌≡◌, ◌≤◌, ◌<◌, ◌+◌, ◌-◌, ℕ, List, [], ◌∷◌, ◌++◌, length, take, refl, sym, ◌∙◌, ap, subst, arith, append_assoc, length-append}
use Rattle.std.proofs.Math.Seq.{take-append-add}
use Rattle.std.proofs.lemmas.Bool.Decides.{nat_tests}
use Rattle.std.proofs.lemmas.List.{append-nil, length-take-le, nil_from_length}
use Rattle.my_packets.proofs.Fronts.{one_front}
use Rattle.my_packets.specs.Front.{HasMessage, IsPart}
use Rattle.wire_forms.specs.Packet.{packets, full_packets, id_after, missing}
use Rattle.my_session.specs.Receiving.{HoldsAtMostOne}

-- bytes that are fewer than those that are missing leave the others missing
missing_less : (room id : ℕ) (bytes piece : List ℕ) → length piece < missing room id bytes → missing room id (bytes ++ piece) ≡ missing room id bytes - length piece
missing_less room id [] [] less = refl
missing_less room id [] (a ∷ []) less = refl
missing_less room id [] (a ∷ b ∷ []) less = refl
missing_less room id [] (a ∷ b ∷ c ∷ []) less = refl
missing_less room id [] (a ∷ b ∷ c ∷ d ∷ piece) less = absurd (omega arith)
missing_less room id (a ∷ []) [] less = refl
missing_less room id (a ∷ []) (b ∷ []) less = refl
missing_less room id (a ∷ []) (b ∷ c ∷ []) less = refl
missing_less room id (a ∷ []) (b ∷ c ∷ d ∷ piece) less = absurd (omega arith)
missing_less room id (a ∷ b ∷ []) [] less = refl
missing_less room id (a ∷ b ∷ []) (c ∷ []) less = refl
missing_less room id (a ∷ b ∷ []) (c ∷ d ∷ piece) less = absurd (omega arith)
missing_less room id (a ∷ b ∷ c ∷ []) [] less = refl
missing_less room id (a ∷ b ∷ c ∷ []) (d ∷ piece) less = absurd (omega arith)
missing_less room id (a ∷ b ∷ c ∷ d ∷ bytes) piece less = let all = length-append bytes piece in grind (arith, nat_tests)

-- so a part stays a part
still_part : (limit id more : ℕ) (bytes piece : List ℕ) → IsPart limit id more bytes → length piece < more → IsPart limit id (more - length piece) (bytes ++ piece)
still_part limit id more bytes piece part less =
    let missing_is = part.missing_is in
    record {
      count = part.count;
      payload = part.payload;
      after = part.after ++ piece;
      full = record {
        size_is = part.full.size_is;
        short = part.full.short;
        bytes_are = ap (λ (l : List ℕ). l ++ piece) part.full.bytes_are ∙ append_assoc (full_packets part.count id part.payload) part.after piece;
      };
      missing_is = ap (λ (n : ℕ). n - length piece) missing_is ∙ sym (missing_less (limit - length part.payload) (id_after part.count id) part.after piece (omega arith));
      some = omega arith;
    }

-- the same bytes without the last one
shorter : (xs ys us : List ℕ) (y u : ℕ) (vs : List ℕ) → xs ++ y ∷ ys ≡ us ++ u ∷ vs → xs ++ take (length ys) (y ∷ ys) ≡ us ++ take (length vs) (u ∷ vs)
shorter xs ys us y u vs same =
    let left = length-append xs (y ∷ ys) in
    let right = length-append us (u ∷ vs) in
    let both : length (xs ++ y ∷ ys) ≡ length (us ++ u ∷ vs) = ap (λ (l : List ℕ). length l) same in
    let sizes : length xs + length ys ≡ length us + length vs = omega arith in
    sym (take-append-add xs (y ∷ ys) (length ys)) ∙ ap (λ (n : ℕ). take n (xs ++ y ∷ ys)) sizes ∙ ap (λ (l : List ℕ). take (length us + length vs) l) same ∙ take-append-add us (u ∷ vs) (length vs)

exact_by : (limit id more : ℕ) (bytes piece message after : List ℕ) → IsPart limit id more bytes → length piece ≤ more → HasMessage limit id message (bytes ++ piece) after → after ≡ []
exact_by limit id more bytes piece message [] part fits whole = refl
exact_by limit id more bytes [] message (b ∷ after) part fits whole =
    absurd ((one_front limit id bytes).message_is_whole more message (b ∷ after) (subst (λ (l : List ℕ). HasMessage limit id message l (b ∷ after)) (append-nil bytes) whole) part)
exact_by limit id more bytes (y ∷ piece) message (b ∷ after) part fits whole =
    let front = take (length piece) (y ∷ piece) in
    let size : length front ≡ length piece = length-take-le (length piece) (y ∷ piece) (omega arith) in
    absurd ((one_front limit id (bytes ++ front)).message_is_whole (more - length front) message (take (length after) (b ∷ after))
    (record { short = whole.short; bytes_are = shorter bytes piece (packets id message) y b after whole.bytes_are })
    (still_part limit id more bytes front part (omega arith)))

pub exact_at_first : (limit id : ℕ) (bytes : List ℕ) → bytes ≡ [] → HoldsAtMostOne limit id bytes
exact_at_first limit id bytes none = record {
  ends = λ message after whole.
      let all = length-append (packets id message) after in
      let size : length (packets id message ++ after) ≡ length bytes = ap (λ (l : List ℕ). length l) (sym whole.bytes_are) in
      let zero_size : length bytes ≡ 0 = ap (λ (l : List ℕ). length l) none in
      nil_from_length after (omega arith);
}

pub exact_after : (limit id more : ℕ) (bytes piece : List ℕ) → IsPart limit id more bytes → length piece ≤ more → HoldsAtMostOne limit id (bytes ++ piece)
exact_after limit id more bytes piece part fits = record { ends = λ message after whole. exact_by limit id more bytes piece message after part fits whole }
