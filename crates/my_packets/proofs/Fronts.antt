-- What stands in the front of a stream is one thing.
use Rattle.std.proofs.Common.{◌≡◌, ◌≢◌, ◌<◌, ◌≤◌, ℕ, zero, suc, ◌+◌, ◌-◌, ◌*◌, ◌/◌, ◌%◌, List, ◌∷◌, ◌++◌, length, take, drop, refl, arith, ap, ◌∙◌, sym, length-append, length-drop, append_assoc}
use Rattle.std.proofs.Math.Seq.{take-append_seam, drop-append_seam}
use Rattle.std.proofs.lemmas.Bool.Decides.{nat_tests}
use Rattle.std.proofs.lemmas.List.{drop-drop, drop_at, take-append-drop, length-take-le}
use Rattle.my_packets.proofs.Packets.{by_count, full_append, last_packets, long_packets}
use Rattle.my_packets.specs.Front.{HasMessage, HasFull, HasWrongId, IsTooLong, IsPart}
use Rattle.my_packets.specs.Laws.{HasOneFront}
use Rattle.wire_forms.specs.Packet.{packet, next_id, id_after, full_packets, full_count, last_packet, packets, missing}

-- three bytes give back the length that they hold
same_size : (m n : ℕ) → m < 16777216 → n < 16777216 → m % 256 ≡ n % 256 → m / 256 % 256 ≡ n / 256 % 256 → m / 65536 ≡ n / 65536 → m ≡ n
same_size m n m_fits n_fits low middle high = omega arith

-- after so many full packets stands another one, for which the limit leaves room
pub record FullHere (limit id count : ℕ) (bytes : List ℕ) : Type 0 where
  pub room : 16777215 * count + 16777215 ≤ limit
  pub rest : List ℕ
  pub bytes_are : bytes ≡ 255 ∷ 255 ∷ 255 ∷ id_after count id ∷ rest
  pub there : 16777215 ≤ length rest

-- the first of some full packets, and the others
first_full : (limit id count : ℕ) (payload bytes after : List ℕ) → HasFull limit id (suc count) payload bytes after → bytes ≡ 255 ∷ 255 ∷ 255 ∷ (id % 256) ∷ (take 16777215 payload ++ (full_packets count (next_id id) (drop 16777215 payload) ++ after))
first_full limit id count payload bytes after full =
    let size_is = full.size_is in
    let one : length (take 16777215 payload) ≡ 16777215 = length-take-le 16777215 payload (omega arith) in
    full.bytes_are
    ∙ append_assoc (packet (id % 256) (take 16777215 payload)) (full_packets count (next_id id) (drop 16777215 payload)) after
    ∙ ap (λ (n : ℕ). n % 256 ∷ n / 256 % 256 ∷ n / 65536 ∷ (id % 256) ∷ (take 16777215 payload ++ (full_packets count (next_id id) (drop 16777215 payload) ++ after))) one

later_full : (limit id count : ℕ) (payload bytes after : List ℕ) → HasFull limit id (suc count) payload bytes after → HasFull (limit - 16777215) (next_id id) count (drop 16777215 payload) (drop 16777219 bytes) after
later_full limit id count payload bytes after full =
    let size_is = full.size_is in
    let short = full.short in
    let left : length (drop 16777215 payload) ≡ length payload - 16777215 = length-drop 16777215 payload in
    let one : length (take 16777215 payload) ≡ 16777215 = length-take-le 16777215 payload (omega arith) in
    record {
      size_is = omega arith;
      short = omega arith;
      bytes_are =
          sym (drop-drop 16777215 4 bytes) ∙ ap (λ (l : List ℕ). drop 16777215 (drop 4 l)) (first_full limit id count payload bytes after full)
          ∙ drop_at (take 16777215 payload) (full_packets count (next_id id) (drop 16777215 payload) ++ after) 16777215 one;
    }

full_here : (limit id count : ℕ) (payload bytes after : List ℕ) → HasFull limit id (suc count) payload bytes after → FullHere limit id 0 bytes
full_here limit id count payload bytes after full =
    let size_is = full.size_is in
    let short = full.short in
    let rest = full_packets count (next_id id) (drop 16777215 payload) ++ after in
    let one : length (take 16777215 payload) ≡ 16777215 = length-take-le 16777215 payload (omega arith) in
    let all = length-append (take 16777215 payload) rest in
    let same : id % 256 ≡ (id + 0) % 256 = omega arith in
    record {
      room = omega arith;
      rest = take 16777215 payload ++ rest;
      bytes_are = first_full limit id count payload bytes after full ∙ ap (λ (n : ℕ). 255 ∷ 255 ∷ 255 ∷ n ∷ (take 16777215 payload ++ rest)) same;
      there = omega arith;
    }

full_later : (limit id count : ℕ) (bytes : List ℕ) → 16777215 ≤ limit → FullHere (limit - 16777215) (next_id id) count bytes → FullHere limit id (suc count) bytes
full_later limit id count bytes fits full =
    let room = full.room in
    let same : ((id + 1) % 256 + count) % 256 ≡ (id + suc count) % 256 = omega arith in
    record {
      room = omega arith;
      rest = full.rest;
      bytes_are = full.bytes_are ∙ ap (λ (n : ℕ). 255 ∷ 255 ∷ 255 ∷ n ∷ full.rest) same;
      there = full.there;
    }

-- two counts of full packets in front, after each of which stands none, are one
pub one_place : (limit id c d : ℕ) (p q bytes a b : List ℕ) → HasFull limit id c p bytes a → HasFull limit id d q bytes b → ¬ FullHere limit id c a → ¬ FullHere limit id d b → (c ≡ d) × (a ≡ b)
one_place limit id zero zero p q bytes a b full also ends stops = (refl, sym full.bytes_are ∙ also.bytes_are)
one_place limit id zero (suc d) p q bytes a b full also ends stops =
    let here = full_here limit id d q bytes b also in
    absurd (ends record { room = here.room; rest = here.rest; bytes_are = sym full.bytes_are ∙ here.bytes_are; there = here.there })
one_place limit id (suc c) zero p q bytes a b full also ends stops =
    let here = full_here limit id c p bytes a full in
    absurd (stops record { room = here.room; rest = here.rest; bytes_are = sym also.bytes_are ∙ here.bytes_are; there = here.there })
one_place limit id (suc c) (suc d) p q bytes a b full also ends stops =
    let size_is = full.size_is in
    let short = full.short in
    let fits : 16777215 ≤ limit = omega arith in
    let same = one_place (limit - 16777215) (next_id id) c d (drop 16777215 p) (drop 16777215 q) (drop 16777219 bytes) a b
    (later_full limit id c p bytes a full) (later_full limit id d q bytes b also)
    (λ here. ends (full_later limit id c a fits here)) (λ here. stops (full_later limit id d b fits here)) in
    (ap (λ (n : ℕ). suc n) same.0, same.1)

-- a message has full packets, and its last packet isn't full
module _ (limit id : ℕ) (message bytes after : List ℕ) (is : HasMessage limit id message bytes after) where
  message_full : HasFull limit id (full_count (length message)) (take (16777215 * full_count (length message)) message) bytes (last_packet (full_count (length message)) id message ++ after)
  message_full =
      let count = full_count (length message) in
      let short = is.short in
      let front = take (16777215 * count) message in
      let last = drop (16777215 * count) message in
      let size : length front ≡ 16777215 * count = length-take-le (16777215 * count) message (omega arith) in
      let same : full_packets count id message ≡ full_packets count id front =
      ap (λ (l : List ℕ). full_packets count id l) (sym (take-append-drop (16777215 * count) message)) ∙ full_append count id front last (omega arith) in
      record {
        size_is = size;
        short = omega arith;
        bytes_are = is.bytes_are ∙ ap (λ (l : List ℕ). l ++ after) (by_count count id message refl)
            ∙ append_assoc (full_packets count id message) (last_packet count id message) after
            ∙ ap (λ (l : List ℕ). l ++ (last_packet count id message ++ after)) same;
      }

  message_ends : ¬ FullHere limit id (full_count (length message)) (last_packet (full_count (length message)) id message ++ after)
  message_ends full =
      let count = full_count (length message) in
      let size = length (drop (16777215 * count) message) in
      let left : size ≡ length message - 16777215 * count = length-drop (16777215 * count) message in
      let bytes_are = full.bytes_are in
      let low : size % 256 ≡ 255 = cc in
      let middle : size / 256 % 256 ≡ 255 = cc in
      let high : size / 65536 ≡ 255 = cc in
      omega arith

wrong_ends : (limit id found wanted : ℕ) (bytes : List ℕ) → (wrong : HasWrongId limit id found wanted bytes) → ¬ FullHere limit id wrong.count wrong.after
wrong_ends limit id found wanted bytes wrong full =
    let header = wrong.header.bytes_are in
    let bytes_are = full.bytes_are in
    let wanted_is = wrong.wanted_is in
    let same : found ≡ wanted = cc in
    wrong.other same

pub long_ends : (limit id size : ℕ) (bytes : List ℕ) → (long : IsTooLong limit id size bytes) → ¬ FullHere limit id long.count long.after
long_ends limit id size bytes long full =
    let header = long.header.bytes_are in
    let bytes_are = full.bytes_are in
    let low : long.header.low ≡ 255 = cc in
    let middle : long.header.middle ≡ 255 = cc in
    let high : long.header.high ≡ 255 = cc in
    let last_is = long.header.size_is in
    let size_is = long.size_is in
    let payload_is = long.full.size_is in
    let more = long.more in
    let room = full.room in
    omega arith

-- nothing is missing of a packet that is there, that has another id, or that is too long
missing_none : (room id low middle high : ℕ) (rest : List ℕ) → low + 256 * middle + 65536 * high ≤ length rest → missing room id (low ∷ middle ∷ high ∷ id ∷ rest) ≡ 0
missing_none room id low middle high rest there = grind (arith, nat_tests)

missing_other : (room id low middle high found : ℕ) (rest : List ℕ) → found ≢ id → missing room id (low ∷ middle ∷ high ∷ found ∷ rest) ≡ 0
missing_other room id low middle high found rest other = grind (arith, nat_tests)

missing_past : (room id low middle high found : ℕ) (rest : List ℕ) → room < low + 256 * middle + 65536 * high → missing room id (low ∷ middle ∷ high ∷ found ∷ rest) ≡ 0
missing_past room id low middle high found rest past = grind (arith, nat_tests)

part_ends : (limit id more : ℕ) (bytes : List ℕ) → (part : IsPart limit id more bytes) → ¬ FullHere limit id part.count part.after
part_ends limit id more bytes part full =
    let there = full.there in
    let none = missing_none (limit - length part.payload) (id_after part.count id) 255 255 255 full.rest there in
    let missing_is = part.missing_is ∙ ap (λ (l : List ℕ). missing (limit - length part.payload) (id_after part.count id) l) full.bytes_are in
    let some = part.some in
    omega arith

-- two of these at once, at one place
module _ (limit id : ℕ) (bytes : List ℕ) where
  message_no_wrong : (found wanted : ℕ) (message after : List ℕ) → HasMessage limit id message bytes after → ¬ HasWrongId limit id found wanted bytes
  message_no_wrong found wanted message after is wrong =
      let count = full_count (length message) in
      let at = one_place limit id count wrong.count (take (16777215 * count) message) wrong.payload bytes (last_packet count id message ++ after) wrong.after (message_full limit id message bytes after is) wrong.full (message_ends limit id message bytes after is) (wrong_ends limit id found wanted bytes wrong) in
      let counts = at.0 in
      let here = at.1 in
      let header = wrong.header.bytes_are in
      let found_is : found ≡ id_after count id = cc in
      wrong.other (found_is ∙ ap (λ (n : ℕ). id_after n id) counts ∙ sym wrong.wanted_is)

  message_no_long : (size : ℕ) (message after : List ℕ) → HasMessage limit id message bytes after → ¬ IsTooLong limit id size bytes
  message_no_long size message after is long =
      let count = full_count (length message) in
      let at = one_place limit id count long.count (take (16777215 * count) message) long.payload bytes (last_packet count id message ++ after) long.after (message_full limit id message bytes after is) long.full (message_ends limit id message bytes after is) (long_ends limit id size bytes long) in
      let counts = at.0 in
      let here = at.1 in
      let header = long.header.bytes_are in
      let last = length (drop (16777215 * count) message) in
      let left : last ≡ length message - 16777215 * count = length-drop (16777215 * count) message in
      let low : long.header.low ≡ last % 256 = cc in
      let middle : long.header.middle ≡ last / 256 % 256 = cc in
      let high : long.header.high ≡ last / 65536 = cc in
      let last_is = long.header.size_is in
      let size_is = long.size_is in
      let payload_is = long.full.size_is in
      let more = long.more in
      let short = is.short in
      omega arith

  message_no_part : (more : ℕ) (message after : List ℕ) → HasMessage limit id message bytes after → ¬ IsPart limit id more bytes
  message_no_part more message after is part =
      let count = full_count (length message) in
      let at = one_place limit id count part.count (take (16777215 * count) message) part.payload bytes (last_packet count id message ++ after) part.after (message_full limit id message bytes after is) part.full (message_ends limit id message bytes after is) (part_ends limit id more bytes part) in
      let counts = at.0 in
      let last = drop (16777215 * count) message in
      let size = length last in
      let all = length-append last after in
      let none = missing_none (limit - length part.payload) (id_after count id) (size % 256) (size / 256 % 256) (size / 65536) (last ++ after) (omega arith) in
      let missing_is = part.missing_is ∙ ap (λ (n : ℕ). missing (limit - length part.payload) (id_after n id) part.after) (sym counts) ∙ ap (λ (l : List ℕ). missing (limit - length part.payload) (id_after count id) l) (sym at.1) in
      let some = part.some in
      omega arith

  wrong_no_long : (found wanted size : ℕ) → HasWrongId limit id found wanted bytes → ¬ IsTooLong limit id size bytes
  wrong_no_long found wanted size wrong long =
      let at = one_place limit id wrong.count long.count wrong.payload long.payload bytes wrong.after long.after wrong.full long.full (wrong_ends limit id found wanted bytes wrong) (long_ends limit id size bytes long) in
      let here = at.1 in
      let header = wrong.header.bytes_are in
      let other = long.header.bytes_are in
      let found_is : found ≡ id_after long.count id = cc in
      wrong.other (found_is ∙ ap (λ (n : ℕ). id_after n id) (sym at.0) ∙ sym wrong.wanted_is)

  wrong_no_part : (found wanted more : ℕ) → HasWrongId limit id found wanted bytes → ¬ IsPart limit id more bytes
  wrong_no_part found wanted more wrong part =
      let at = one_place limit id wrong.count part.count wrong.payload part.payload bytes wrong.after part.after wrong.full part.full (wrong_ends limit id found wanted bytes wrong) (part_ends limit id more bytes part) in
      let header = wrong.header in
      let wanted_is : wanted ≡ id_after part.count id = wrong.wanted_is ∙ ap (λ (n : ℕ). id_after n id) at.0 in
      let none = missing_other (limit - length part.payload) (id_after part.count id) header.low header.middle header.high found header.rest (λ e. wrong.other (e ∙ sym wanted_is)) in
      let missing_is = part.missing_is ∙ ap (λ (l : List ℕ). missing (limit - length part.payload) (id_after part.count id) l) (sym at.1 ∙ header.bytes_are) in
      let some = part.some in
      omega arith

  long_no_part : (size more : ℕ) → IsTooLong limit id size bytes → ¬ IsPart limit id more bytes
  long_no_part size more long part =
      let at = one_place limit id long.count part.count long.payload part.payload bytes long.after part.after long.full part.full (long_ends limit id size bytes long) (part_ends limit id more bytes part) in
      let counts = at.0 in
      let header = long.header in
      let last_is = header.size_is in
      let size_is = long.size_is in
      let payload_is = long.full.size_is in
      let other_is = part.full.size_is in
      let over = long.more in
      let none = missing_past (limit - length part.payload) (id_after part.count id) header.low header.middle header.high (id_after long.count id) header.rest (omega arith) in
      let missing_is = part.missing_is ∙ ap (λ (l : List ℕ). missing (limit - length part.payload) (id_after part.count id) l) (sym at.1 ∙ header.bytes_are) in
      let some = part.some in
      omega arith

  one_wrong : (found other wanted also_wanted : ℕ) → HasWrongId limit id found wanted bytes → HasWrongId limit id other also_wanted bytes → (found ≡ other) × (wanted ≡ also_wanted)
  one_wrong found other wanted also_wanted wrong also =
      let at = one_place limit id wrong.count also.count wrong.payload also.payload bytes wrong.after also.after wrong.full also.full (wrong_ends limit id found wanted bytes wrong) (wrong_ends limit id other also_wanted bytes also) in
      let here = at.1 in
      let header = wrong.header.bytes_are in
      let second = also.header.bytes_are in
      let same : found ≡ other = cc in
      (same, wrong.wanted_is ∙ ap (λ (n : ℕ). id_after n id) at.0 ∙ sym also.wanted_is)

  one_size : (size other : ℕ) → IsTooLong limit id size bytes → IsTooLong limit id other bytes → size ≡ other
  one_size size other long also =
      let at = one_place limit id long.count also.count long.payload also.payload bytes long.after also.after long.full also.full (long_ends limit id size bytes long) (long_ends limit id other bytes also) in
      let counts = at.0 in
      let here = at.1 in
      let header = long.header.bytes_are in
      let second = also.header.bytes_are in
      let low : long.header.low ≡ also.header.low = cc in
      let middle : long.header.middle ≡ also.header.middle = cc in
      let high : long.header.high ≡ also.header.high = cc in
      let last_is = long.header.size_is in
      let also_last_is = also.header.size_is in
      let size_is = long.size_is in
      let also_size_is = also.size_is in
      let payload_is = long.full.size_is in
      let also_payload_is = also.full.size_is in
      omega arith

  one_part : (more other : ℕ) → IsPart limit id more bytes → IsPart limit id other bytes → more ≡ other
  one_part more other part also =
      let at = one_place limit id part.count also.count part.payload also.payload bytes part.after also.after part.full also.full (part_ends limit id more bytes part) (part_ends limit id other bytes also) in
      let counts = at.0 in
      let payload_is = part.full.size_is in
      let also_payload_is = also.full.size_is in
      let sizes : length part.payload ≡ length also.payload = omega arith in
      part.missing_is ∙ ap (λ (n : ℕ). missing (limit - n) (id_after part.count id) part.after) sizes
      ∙ ap (λ (n : ℕ). missing (limit - length also.payload) (id_after n id) part.after) counts
      ∙ ap (λ (l : List ℕ). missing (limit - length also.payload) (id_after also.count id) l) at.1
      ∙ sym also.missing_is

  pub one_front : HasOneFront limit id bytes
  one_front = record {
    message_is_right = message_no_wrong;
    message_is_short = message_no_long;
    message_is_whole = message_no_part;
    wrong_is_not_long = wrong_no_long;
    wrong_is_whole = wrong_no_part;
    long_is_whole = long_no_part;
    one_wrong = one_wrong;
    one_size = one_size;
    one_part = one_part;
  }

-- two lists of one length that begin the same list are one list
same_front : (a b x y : List ℕ) → length a ≡ length b → a ++ x ≡ b ++ y → (a ≡ b) × (x ≡ y)
same_front a b x y lengths whole =
    let front : a ≡ b = sym (take-append_seam a x) ∙ ap (take (length a)) whole ∙ ap (λ n. take n (b ++ y)) lengths ∙ take-append_seam b y in
    let rest : x ≡ y = sym (drop-append_seam a x) ∙ ap (drop (length a)) whole ∙ ap (λ n. drop n (b ++ y)) lengths ∙ drop-append_seam b y in
    (front, rest)

-- two packets of one id that begin the same bytes are the same packet
pub same_packet : (id : ℕ) (a b x y : List ℕ) → length a < 16777216 → length b < 16777216 → packet id a ++ x ≡ packet id b ++ y → (a ≡ b) × (x ≡ y)
same_packet id a b x y a_fits b_fits whole =
    same_front a b x y (same_size (length a) (length b) a_fits b_fits (cc) (cc) (cc)) (cc)

-- a message of one packet, and one of several, each with the bytes after it
short_form : (id : ℕ) (message after : List ℕ) → length message < 16777215 → packets id message ++ after ≡ packet (id % 256) message ++ after
short_form id message after short = ap (λ (l : List ℕ). l ++ after) (last_packets id message short)

long_form : (id : ℕ) (message after : List ℕ) → 16777215 ≤ length message → packets id message ++ after ≡ packet (id % 256) (take 16777215 message) ++ (packets (next_id id) (drop 16777215 message) ++ after)
long_form id message after long =
    ap (λ (l : List ℕ). l ++ after) (long_packets id message long)
    ∙ append_assoc (packet (id % 256) (take 16777215 message)) (packets (next_id id) (drop 16777215 message)) after

-- a message of one packet and one of several begin different bytes
short_is_not_long : (id : ℕ) (a b x y : List ℕ) → length a < 16777215 → 16777215 ≤ length b → packets id a ++ x ≡ packets id b ++ y → ⊥
short_is_not_long id a b x y short long whole =
    let one : length (take 16777215 b) ≡ 16777215 = length-take-le 16777215 b long in
    let same = same_packet (id % 256) a (take 16777215 b) x (packets (next_id id) (drop 16777215 b) ++ y) (omega arith) (omega arith) (sym (short_form id a x short) ∙ whole ∙ long_form id b y long) in
    let sizes : length a ≡ length (take 16777215 b) = ap (λ (l : List ℕ). length l) same.0 in
    omega arith

-- two messages whose packets from one id begin the same bytes, by the numbers of full packets
same_by_counts : (c d id : ℕ) (a b x y : List ℕ) → full_count (length a) ≡ c → full_count (length b) ≡ d → packets id a ++ x ≡ packets id b ++ y → (a ≡ b) × (x ≡ y)
same_by_counts zero zero id a b x y count_is also_is whole =
    same_packet (id % 256) a b x y (omega arith) (omega arith) (sym (short_form id a x (omega arith)) ∙ whole ∙ short_form id b y (omega arith))
same_by_counts zero (suc d) id a b x y count_is also_is whole = absurd (short_is_not_long id a b x y (omega arith) (omega arith) whole)
same_by_counts (suc c) zero id a b x y count_is also_is whole = absurd (short_is_not_long id b a y x (omega arith) (omega arith) (sym whole))
same_by_counts (suc c) (suc d) id a b x y count_is also_is whole =
    let a_long : 16777215 ≤ length a = omega arith in
    let b_long : 16777215 ≤ length b = omega arith in
    let a_one : length (take 16777215 a) ≡ 16777215 = length-take-le 16777215 a a_long in
    let b_one : length (take 16777215 b) ≡ 16777215 = length-take-le 16777215 b b_long in
    let a_left : length (drop 16777215 a) ≡ length a - 16777215 = length-drop 16777215 a in
    let b_left : length (drop 16777215 b) ≡ length b - 16777215 = length-drop 16777215 b in
    let first = same_packet (id % 256) (take 16777215 a) (take 16777215 b) (packets (next_id id) (drop 16777215 a) ++ x) (packets (next_id id) (drop 16777215 b) ++ y) (omega arith) (omega arith) (sym (long_form id a x a_long) ∙ whole ∙ long_form id b y b_long) in
    let later = same_by_counts c d (next_id id) (drop 16777215 a) (drop 16777215 b) x y (omega arith) (omega arith) first.1 in
    (sym (take-append-drop 16777215 a) ∙ ap (λ (l : List ℕ). l ++ drop 16777215 a) first.0 ∙ ap (λ (l : List ℕ). take 16777215 b ++ l) later.0 ∙ take-append-drop 16777215 b, later.1)

pub same_packets : (id : ℕ) (a b x y : List ℕ) → packets id a ++ x ≡ packets id b ++ y → (a ≡ b) × (x ≡ y)
same_packets id a b x y whole = same_by_counts (full_count (length a)) (full_count (length b)) id a b x y refl refl whole
