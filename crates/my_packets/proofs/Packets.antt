-- The packets of a message: short ones, long ones, and how many bytes they are.
use Rattle.std.proofs.Common.{◌≡◌, ◌<◌, ◌≤◌, ℕ, ◌+◌, ◌-◌, ◌*◌, ◌%◌, zero, suc, List, [], ◌++◌, length, take, drop, refl, sym, ap, ◌∙◌, arith, append_assoc, length-append, length-drop}
use Rattle.std.proofs.lemmas.List.{drop-drop, drop_at, take_all, take-append-le, drop-append-le, length-take-le, nil_from_length, append-nil}
use Rattle.wire_forms.specs.Packet.{packet, next_id, id_after, full_packets, full_count, last_packet, packets, packet_count}

-- a message with so many full packets in front of its last
pub by_count : (count id : ℕ) (message : List ℕ) → full_count (length message) ≡ count → packets id message ≡ full_packets count id message ++ last_packet count id message
unfolding packets
by_count count id message e = ap (λ (n : ℕ). full_packets n id message ++ last_packet n id message) e

-- a message that is shorter than a full packet is one packet
pub last_packets : (id : ℕ) (message : List ℕ) → length message < 16777215 → packets id message ≡ packet (id % 256) message
last_packets id message short =
    let none : full_count (length message) ≡ 0 = omega arith in
    let same : (id + 0) % 256 ≡ id % 256 = omega arith in
    by_count 0 id message none ∙ ap (λ (n : ℕ). packet n message) same

pub short_packets : (id : ℕ) (message : List ℕ) → id < 256 → length message < 16777215 → packets id message ≡ packet id message
short_packets id message byte short =
    let same : id % 256 ≡ id = omega arith in
    last_packets id message short ∙ ap (λ (n : ℕ). packet n message) same

-- a longer one is a full packet, and the packets of what follows
pub long_packets : (id : ℕ) (message : List ℕ) → 16777215 ≤ length message → packets id message ≡ packet (id % 256) (take 16777215 message) ++ packets (next_id id) (drop 16777215 message)
long_packets id message long =
    let rest = drop 16777215 message in
    let first = packet (id % 256) (take 16777215 message) in
    let more = full_count (length rest) in
    let left : length rest ≡ length message - 16777215 = length-drop 16777215 message in
    let counts : full_count (length message) ≡ suc more = omega arith in
    let ids : (id + suc more) % 256 ≡ ((id + 1) % 256 + more) % 256 = omega arith in
    let places : 16777215 * suc more ≡ 16777215 + 16777215 * more = omega arith in
    let last : drop (16777215 * suc more) message ≡ drop (16777215 * more) rest = ap (λ (n : ℕ). drop n message) places ∙ sym (drop-drop (16777215 * more) 16777215 message) in
    by_count (suc more) id message counts
    ∙ ap (λ (n : ℕ). (first ++ full_packets more (next_id id) rest) ++ packet n (drop (16777215 * suc more) message)) ids
    ∙ ap (λ (l : List ℕ). (first ++ full_packets more (next_id id) rest) ++ packet (id_after more (next_id id)) l) last
    ∙ append_assoc first (full_packets more (next_id id) rest) (last_packet more (next_id id) rest)
    ∙ ap (λ (l : List ℕ). first ++ l) (sym (by_count more (next_id id) rest refl))

-- full packets, and the bytes that they are
pub full_length : (count id : ℕ) (payload : List ℕ) → 16777215 * count ≤ length payload → length (full_packets count id payload) ≡ 16777219 * count
full_length zero id payload fits = refl
full_length (suc count) id payload fits =
    let first = take 16777215 payload in
    let rest = drop 16777215 payload in
    let one : length first ≡ 16777215 = length-take-le 16777215 payload (omega arith) in
    let left : length rest ≡ length payload - 16777215 = length-drop 16777215 payload in
    let more : length (full_packets count (next_id id) rest) ≡ 16777219 * count = full_length count (next_id id) rest (omega arith) in
    let all : length (first ++ full_packets count (next_id id) rest) ≡ length first + length (full_packets count (next_id id) rest) = length-append first (full_packets count (next_id id) rest) in
    omega arith

pub packets_length : (id : ℕ) (message : List ℕ) → length (packets id message) ≡ length message + 4 * packet_count (length message)
packets_length id message =
    let count = full_count (length message) in
    let last = drop (16777215 * count) message in
    let full : length (full_packets count id message) ≡ 16777219 * count = full_length count id message (omega arith) in
    let left : length last ≡ length message - 16777215 * count = length-drop (16777215 * count) message in
    let all : length (packets id message) ≡ length (full_packets count id message) + length (last_packet count id message) = ap (λ (l : List ℕ). length l) (by_count count id message refl) ∙ length-append (full_packets count id message) (last_packet count id message) in
    omega arith

-- full packets don't ask for what follows their payload
pub full_append : (count id : ℕ) (payload more : List ℕ) → 16777215 * count ≤ length payload → full_packets count id (payload ++ more) ≡ full_packets count id payload
full_append zero id payload more fits = refl
full_append (suc count) id payload more fits =
    let rest = drop 16777215 payload in
    let left : length rest ≡ length payload - 16777215 = length-drop 16777215 payload in
    let one : take 16777215 (payload ++ more) ≡ take 16777215 payload = take-append-le 16777215 payload more (omega arith) in
    let then : drop 16777215 (payload ++ more) ≡ rest ++ more = drop-append-le 16777215 payload more (omega arith) in
    let same : full_packets count (next_id id) (rest ++ more) ≡ full_packets count (next_id id) rest = full_append count (next_id id) rest more (omega arith) in
    ap (λ (l : List ℕ). packet (id % 256) l ++ full_packets count (next_id id) (drop 16777215 (payload ++ more))) one
    ∙ ap (λ (l : List ℕ). packet (id % 256) (take 16777215 payload) ++ full_packets count (next_id id) l) then
    ∙ ap (λ (l : List ℕ). packet (id % 256) (take 16777215 payload) ++ l) same

-- one more full packet, at the end
pub full_more : (count id : ℕ) (payload piece : List ℕ) → length payload ≡ 16777215 * count → length piece ≡ 16777215 → full_packets (suc count) id (payload ++ piece) ≡ full_packets count id payload ++ packet (id_after count id) piece
full_more zero id payload piece size one =
    let none : payload ≡ [] = nil_from_length payload size in
    let whole : take 16777215 piece ≡ piece = take_all 16777215 piece (omega arith) in
    let end : piece ++ [] ≡ piece = append-nil piece in
    let ids : (id + 0) % 256 ≡ id % 256 = omega arith in
    cc
full_more (suc count) id payload piece size one =
    let rest = drop 16777215 payload in
    let left : length rest ≡ length payload - 16777215 = length-drop 16777215 payload in
    let front : take 16777215 (payload ++ piece) ≡ take 16777215 payload = take-append-le 16777215 payload piece (omega arith) in
    let then : drop 16777215 (payload ++ piece) ≡ rest ++ piece = drop-append-le 16777215 payload piece (omega arith) in
    let more : full_packets (suc count) (next_id id) (rest ++ piece) ≡ full_packets count (next_id id) rest ++ packet (id_after count (next_id id)) piece = full_more count (next_id id) rest piece (omega arith) one in
    let ids : (id + suc count) % 256 ≡ ((id + 1) % 256 + count) % 256 = omega arith in
    let joined : (packet (id % 256) (take 16777215 payload) ++ full_packets count (next_id id) rest) ++ packet (id_after count (next_id id)) piece ≡ packet (id % 256) (take 16777215 payload) ++ (full_packets count (next_id id) rest ++ packet (id_after count (next_id id)) piece) = append_assoc (packet (id % 256) (take 16777215 payload)) (full_packets count (next_id id) rest) (packet (id_after count (next_id id)) piece) in
    ap (λ (l : List ℕ). packet (id % 256) l ++ full_packets (suc count) (next_id id) (drop 16777215 (payload ++ piece))) front
    ∙ ap (λ (l : List ℕ). packet (id % 256) (take 16777215 payload) ++ full_packets (suc count) (next_id id) l) then
    ∙ ap (λ (l : List ℕ). packet (id % 256) (take 16777215 payload) ++ l) more
    ∙ sym joined
    ∙ ap (λ (n : ℕ). (packet (id % 256) (take 16777215 payload) ++ full_packets count (next_id id) rest) ++ packet n piece) (sym ids)

-- a writer that has written so much of a message, and what is left of it
pub written_full : (id : ℕ) (rest payload after out next all : List ℕ) → id < 256 → 16777215 ≤ length rest → payload ≡ take 16777215 rest → after ≡ drop 16777215 rest → next ≡ out ++ packet id payload → out ++ packets id rest ≡ all → next ++ packets (next_id id) after ≡ all
written_full id rest payload after out next all byte long payload_is after_is next_is whole =
    let same : id % 256 ≡ id = omega arith in
    let parts : packets id rest ≡ packet (id % 256) (take 16777215 rest) ++ packets (next_id id) (drop 16777215 rest) = long_packets id rest long in
    let joined : (out ++ packet id payload) ++ packets (next_id id) after ≡ out ++ (packet id payload ++ packets (next_id id) after) = append_assoc out (packet id payload) (packets (next_id id) after) in
    let now : packet id payload ++ packets (next_id id) after ≡ packets id rest = cc in
    ap (λ (l : List ℕ). l ++ packets (next_id id) after) next_is ∙ joined ∙ ap (λ (l : List ℕ). out ++ l) now ∙ whole

pub written_last : (id : ℕ) (rest out next all : List ℕ) → id < 256 → length rest < 16777215 → next ≡ out ++ packet id rest → out ++ packets id rest ≡ all → next ≡ all
written_last id rest out next all byte short next_is whole =
    next_is ∙ ap (λ (l : List ℕ). out ++ l) (sym (short_packets id rest byte short)) ∙ whole

-- full packets and a last one are a message
pub packets_of_parts : (count id : ℕ) (payload piece : List ℕ) → length payload ≡ 16777215 * count → length piece < 16777215 → packets id (payload ++ piece) ≡ full_packets count id payload ++ packet (id_after count id) piece
packets_of_parts count id payload piece size short =
    let all : length (payload ++ piece) ≡ length payload + length piece = length-append payload piece in
    let counts : full_count (length (payload ++ piece)) ≡ count = omega arith in
    let full : full_packets count id (payload ++ piece) ≡ full_packets count id payload = full_append count id payload piece (omega arith) in
    let last : drop (16777215 * count) (payload ++ piece) ≡ piece = drop_at payload piece (16777215 * count) size in
    by_count count id (payload ++ piece) counts
    ∙ ap (λ (l : List ℕ). l ++ packet (id_after count id) (drop (16777215 * count) (payload ++ piece))) full
    ∙ ap (λ (l : List ℕ). full_packets count id payload ++ packet (id_after count id) l) last
