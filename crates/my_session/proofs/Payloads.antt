-- Packets tell their payload, whatever their ids are, and no part of them is all.
use Rattle.std.proofs.Common.{◌≡◌, ◌<◌, ◌≤◌, ◌+◌, ◌-◌, ◌*◌, ◌%◌, ◌/◌, ℕ, zero, suc, max, List, [], ◌∷◌, ◌++◌, length, take, drop, refl, sym, ◌∙◌, ap, arith}
use Rattle.std.proofs.lemmas.Bool.Decides.{nat_tests}
use Rattle.std.proofs.lemmas.List.{append-nil}
use Rattle.honest_server.specs.Exchange.{query_payload}
use Rattle.honest_server.specs.Link.{IsNoCreate}
use Rattle.my_packets.proofs.Fronts.{one_front, same_packets}
use Rattle.my_packets.proofs.Packets.{by_count, last_packets, long_packets}
use Rattle.my_packets.specs.Front.{IsPart}
use Rattle.wire_forms.specs.Packet.{packet, next_id, id_after, full_packets, full_count, packets, missing}
use Rattle.my_session.specs.Serving.{MakesNoObject}

-- ids that are the same modulo 256 have the same packets
same_full : (count id other : ℕ) (payload : List ℕ) → id % 256 ≡ other % 256 → full_packets count id payload ≡ full_packets count other payload
same_full zero id other payload same = refl
same_full (suc count) id other payload same =
    let next : ((id + 1) % 256) % 256 ≡ ((other + 1) % 256) % 256 = omega arith in
    ap (λ (n : ℕ). packet n (take 16777215 payload) ++ full_packets count (next_id id) (drop 16777215 payload)) same
    ∙ ap (λ (l : List ℕ). packet (other % 256) (take 16777215 payload) ++ l) (same_full count (next_id id) (next_id other) (drop 16777215 payload) next)

packets_by_id : (id other : ℕ) (message : List ℕ) → id % 256 ≡ other % 256 → packets id message ≡ packets other message
packets_by_id id other message same =
    let count = full_count (length message) in
    let last = drop (16777215 * count) message in
    let ids : (id + count) % 256 ≡ (other + count) % 256 = omega arith in
    by_count count id message refl
    ∙ ap (λ (l : List ℕ). l ++ packet (id_after count id) last) (same_full count id other message same)
    ∙ ap (λ (n : ℕ). full_packets count other message ++ packet n last) ids
    ∙ sym (by_count count other message refl)

-- the fourth byte is the id
record Fronted (id : ℕ) (bytes : List ℕ) : Type 0 where
  low : ℕ
  middle : ℕ
  high : ℕ
  rest : List ℕ
  bytes_are : bytes ≡ low ∷ middle ∷ high ∷ id ∷ rest

front_by : (count id : ℕ) (message : List ℕ) → full_count (length message) ≡ count → Fronted (id % 256) (packets id message)
front_by zero id message is = record {
  low = length message % 256;
  middle = length message / 256 % 256;
  high = length message / 65536;
  rest = message;
  bytes_are = last_packets id message (omega arith);
}
front_by (suc count) id message is =
    let first = take 16777215 message in
    record {
      low = length first % 256;
      middle = length first / 256 % 256;
      high = length first / 65536;
      rest = first ++ packets (next_id id) (drop 16777215 message);
      bytes_are = long_packets id message (omega arith);
    }

same_id : (id other_id : ℕ) (one other : List ℕ) → packets id one ≡ packets other_id other → id % 256 ≡ other_id % 256
same_id id other_id one other same =
    let here = front_by (full_count (length one)) id one refl in
    let there = front_by (full_count (length other)) other_id other refl in
    let both : here.low ∷ here.middle ∷ here.high ∷ (id % 256) ∷ here.rest ≡ there.low ∷ there.middle ∷ there.high ∷ (other_id % 256) ∷ there.rest = sym here.bytes_are ∙ same ∙ there.bytes_are in
    cc

pub record IsOnePayload (id other_id : ℕ) (one other : List ℕ) : Type 0 where
  pub payload : one ≡ other
  pub ids : id % 256 ≡ other_id % 256

pub one_payload : (id other_id : ℕ) (one other : List ℕ) → packets id one ≡ packets other_id other → IsOnePayload id other_id one other
one_payload id other_id one other same =
    let ids = same_id id other_id one other same in
    record {
      payload = (same_packets id one other [] [] (append-nil (packets id one) ∙ same ∙ sym (packets_by_id id other_id other ids) ∙ sym (append-nil (packets id other)))).0;
      ids = ids;
    }

pub no_create : (id : ℕ) (payload : List ℕ) → MakesNoObject payload → IsNoCreate (packets id payload)
no_create id payload makes_none other_id text same head = makes_none text (one_payload id other_id payload (query_payload text) same).payload head

-- what is missing is missing under a higher limit too
missing_wider : (room wide id : ℕ) (bytes : List ℕ) → room ≤ wide → 0 < missing room id bytes → missing wide id bytes ≡ missing room id bytes
missing_wider room wide id [] fits some = refl
missing_wider room wide id (a ∷ []) fits some = refl
missing_wider room wide id (a ∷ b ∷ []) fits some = refl
missing_wider room wide id (a ∷ b ∷ c ∷ []) fits some = refl
missing_wider room wide id (a ∷ b ∷ c ∷ d ∷ bytes) fits some = grind (arith, nat_tests)

part_wider : (limit wide id more : ℕ) (bytes : List ℕ) → limit ≤ wide → IsPart limit id more bytes → IsPart wide id more bytes
part_wider limit wide id more bytes fits part =
    let short = part.full.short in
    let missing_is = part.missing_is in
    let some = part.some in
    record {
      count = part.count;
      payload = part.payload;
      after = part.after;
      full = record { size_is = part.full.size_is; short = omega arith; bytes_are = part.full.bytes_are };
      missing_is = missing_is ∙ sym (missing_wider (limit - length part.payload) (wide - length part.payload) (id_after part.count id) part.after (omega arith) (omega arith));
      some = some;
    }

-- so a part of a message isn't all of one, however long that is
pub part_is_not_all : (limit id more : ℕ) (message bytes after : List ℕ) → bytes ≡ packets id message ++ after → IsPart limit id more bytes → ⊥
part_is_not_all limit id more message bytes after bytes_are part =
    (one_front (max limit (length message)) id bytes).message_is_whole more message after
    (record { short = omega arith; bytes_are = bytes_are })
    (part_wider limit (max limit (length message)) id more bytes (omega arith) part)
