-- The number of columns that a reply's first message tells.
use Rattle.std.proofs.Common.{◌≡◌, ◌<◌, ◌≤◌, ◌==◌, ◌&&◌, nat_le, ℕ, Bool, true, false, if◌then◌else◌, List, [], ◌∷◌, length, refl, sym, arith, leb-true, Option, Some, None, option_map}
use Rattle.std.specs.Prelude.{option_and_then}
use Rattle.wire_forms.specs.Lenenc.{lenenc_of}
use Rattle.wire_forms.specs.Definition.{column_count}
use Rattle.wire_forms.specs.Reply.{is_ok_packet, refusal_of, reply_of}
use Rattle.wire_forms.specs.declared.refusal.Refusal.{Refusal}
use Rattle.wire_forms.specs.declared.reply.Reply.{Reply}
use Rattle.wire_forms.specs.declared.reply.Reply.TheVariants.{Done, Refused as IsRefused, Columns}
use Rattle.my_session.specs.Heard.{HasColumns}

counted_by : (ends some few : Bool) (found columns : ℕ) → (some ≡ true → 1 ≤ found) → (few ≡ true → found ≤ 65535) → (if ends && some && few then Some found else None) ≡ Some columns → (0 < columns) × (columns < 65536)
counted_by true true true found columns at_least at_most is =
    let same : found ≡ columns = cc in
    let low = at_least refl in
    let high = at_most refl in
    (omega arith, omega arith)
counted_by true true false found columns at_least at_most is = absurd (cc)
counted_by true false few found columns at_least at_most is = absurd (cc)
counted_by false some few found columns at_least at_most is = absurd (cc)

count_by : (number : Option (ℕ × ℕ)) (size columns : ℕ) → option_and_then (λ (n : ℕ × ℕ). if n.1 == size && nat_le 1 n.0 && nat_le n.0 65535 then Some n.0 else None) number ≡ Some columns → (0 < columns) × (columns < 65536)
count_by None size columns is = absurd (cc)
count_by (Some (found, of)) size columns is = counted_by (of == size) (nat_le 1 found) (nat_le found 65535) found columns (λ e. leb-true 1 found e) (λ e. leb-true found 65535 e) is

reply_by : (zeroes full done : Bool) (refusal : Option Refusal) (number : Option ℕ) (columns : ℕ) → (if zeroes then (if done then Some Done else None) else (if full then option_map (λ refusal. IsRefused refusal) refusal else option_map (λ count. Columns count) number)) ≡ Some (Columns columns) → number ≡ Some columns
reply_by true full true refusal number columns e = absurd (cc)
reply_by true full false refusal number columns e = absurd (cc)
reply_by false true done None number columns e = absurd (cc)
reply_by false true done (Some refusal) number columns e = absurd (cc)
reply_by false false done refusal None columns e = absurd (cc)
reply_by false false done refusal (Some number) columns e = cc

some_columns : (payload : List ℕ) (columns : ℕ) → reply_of payload ≡ Some (Columns columns) → (0 < columns) × (columns < 65536)
some_columns [] columns is = absurd (cc)
some_columns (byte ∷ bytes) columns is = count_by (lenenc_of (byte ∷ bytes)) (length (byte ∷ bytes)) columns (reply_by (byte == 0) (byte == 255) (is_ok_packet (byte ∷ bytes)) (refusal_of (byte ∷ bytes)) (column_count (byte ∷ bytes)) columns is)

pub has_columns : (payload : List ℕ) (reply : Option Reply) → reply ≡ reply_of payload → HasColumns reply
has_columns payload None is = tt
has_columns payload (Some Done) is = tt
has_columns payload (Some (IsRefused refusal)) is = tt
has_columns payload (Some (Columns columns)) is = some_columns payload columns (sym is)
