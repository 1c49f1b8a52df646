-- A reader passes over a message that is whole, or says that one is whole or wrong.
use Rattle.std.proofs.Common.{◌≡◌, ◌≤◌, ℕ, ◌+◌, ◌-◌, ◌*◌, List, ◌++◌, drop, take, length, sym, ap, ◌∙◌, arith, inl, inr, subst, Result, Ok, Err, Option, Some, None, length-append, length-drop}
use Rattle.std.specs.List.{slice_range}
use Rattle.std.proofs.lemmas.List.{take_all}
use Rattle.my_packets.proofs.Packets.{packets_length}
use Rattle.my_packets.specs.Begins.{IsSplit, IsWrong}
use Rattle.my_packets.specs.Front.{HasMessage, Wants, IsPart}
use Rattle.my_packets.specs.Joins.{JoinsAt}
use Rattle.wire_forms.specs.Packet.{packets, packet_count}
use Rattle.my_packets.specs.Steps.{Passes, HandsOut}
use Rattle.my_packets.specs.Unread.{Unread}
use Rattle.my_packets.specs.declared.frames.FrameFault.{FrameFault}
use Rattle.my_packets.specs.declared.frames.FrameFault.TheVariants.{BadSequence, TooLong}
use Rattle.my_packets.specs.declared.frames.Message.{Message}

-- a slice of the store from `from` to its end is what follows `from`
pub to_the_end : (store bytes : List ℕ) (limit id from size : ℕ) → bytes ≡ store → IsSplit limit id size (take (length bytes - from) (drop from bytes)) → IsSplit limit id size (drop from store)
to_the_end store bytes limit id from size same split =
    let whole : take (length bytes - from) (drop from bytes) ≡ drop from bytes = take_all (length bytes - from) (drop from bytes) (let l = length-drop from bytes in omega arith) in
    subst (λ (all : List ℕ). IsSplit limit id size all) (whole ∙ ap (λ (all : List ℕ). drop from all) same) split

pub wrong_to_the_end : (store bytes : List ℕ) (limit id from : ℕ) (fault : FrameFault) → bytes ≡ store → IsWrong limit id (take (length bytes - from) (drop from bytes)) fault → IsWrong limit id (drop from store) fault
wrong_to_the_end store bytes limit id from fault same wrong =
    let whole : take (length bytes - from) (drop from bytes) ≡ drop from bytes = take_all (length bytes - from) (drop from bytes) (let l = length-drop from bytes in omega arith) in
    subst (λ (all : List ℕ). IsWrong limit id all fault) (whole ∙ ap (λ (all : List ℕ). drop from all) same) wrong

-- the packets of a whole message are within the bytes
pub whole_within : (limit id from size : ℕ) (store : List ℕ) → IsSplit limit id size (drop from store) → from ≤ length store → from + size + 4 * packet_count size ≤ length store
whole_within limit id from size store split inside =
    let message = split.message in
    let size_is : size ≡ length message = split.size_is in
    let packets_are = packets_length id message in
    let all = length-append (packets id message) split.after in
    let bytes : length (drop from store) ≡ length (packets id message ++ split.after) = ap (λ (l : List ℕ). length l) split.message_is.bytes_are in
    let left = length-drop from store in
    omega arith

-- what stands in the store once the message's bytes stand together
pub record Stood (limit id from size : ℕ) (store new : List ℕ) : Type 0 where
  pub size_is : length (slice_range new (from + 4) (from + 4 + size)) ≡ size
  pub message_is : HasMessage limit id (slice_range new (from + 4) (from + 4 + size)) (drop from store) (drop (from + (size + 4 * packet_count size)) new)

pub stands : (limit id from size : ℕ) (store new : List ℕ) → IsSplit limit id size (drop from store) → JoinsAt from size store new → Stood limit id from size store new
stands limit id from size store new split joined =
    let message = split.message in
    let after = split.after in
    let size_is : size ≡ length message = split.size_is in
    let joins = joined id message after split.message_is.bytes_are size_is in
    let there : slice_range new (from + 4) (from + 4 + size) ≡ message = ap (λ (n : ℕ). slice_range new (from + 4) (from + 4 + n)) size_is ∙ joins.message_is in
    let place : from + (size + 4 * packet_count size) ≡ from + length message + 4 * packet_count (length message) = omega arith in
    let rest : drop (from + (size + 4 * packet_count size)) new ≡ after = ap (λ (n : ℕ). drop n new) place ∙ joins.after_is in
    let short = split.message_is.short in
    let count : length (slice_range new (from + 4) (from + 4 + size)) ≡ length message = ap (λ (l : List ℕ). length l) there in
    record {
      size_is = count ∙ sym size_is;
      message_is = record {
        short = omega arith;
        bytes_are = split.message_is.bytes_are ∙ ap (λ (l : List ℕ). packets id l ++ after) (sym there) ∙ ap (λ (l : List ℕ). packets id (slice_range new (from + 4) (from + 4 + size)) ++ l) (sym rest);
      };
    }

pub whole_settles : (limit id size : ℕ) (bytes : List ℕ) → IsSplit limit id size bytes → Wants limit id bytes 0
whole_settles limit id size bytes split = record {
  settled = λ none. inl (split.message, split.after, split.message_is);
  part = λ some. absurd (omega arith);
}

pub wrong_settles : (limit id : ℕ) (bytes : List ℕ) (fault : FrameFault) → IsWrong limit id bytes fault → Wants limit id bytes 0
wrong_settles limit id bytes (BadSequence found wanted) wrong = record {
  settled = λ none. inr (inl (found, wanted, wrong));
  part = λ some. absurd (omega arith);
}
wrong_settles limit id bytes (TooLong size) long = record {
  settled = λ none. inr (inr (size, long));
  part = λ some. absurd (omega arith);
}

pub part_is_wanted : (limit id more : ℕ) (bytes : List ℕ) → IsPart limit id more bytes → Wants limit id bytes more
part_is_wanted limit id more bytes part = record {
  settled = λ none. let some = part.some in absurd (omega arith);
  part = λ some. part;
}

-- a message that is passed over leaves the number of bytes of the stream as it was
pub passes_all : (old new : Unread) → Passes old new → new.place + length new.bytes ≡ old.place + length old.bytes
passes_all old new passes =
    let place = passes.place in
    let packets_are = packets_length old.id new.message in
    let all = length-append (packets old.id new.message) new.bytes in
    let bytes : length old.bytes ≡ length (packets old.id new.message ++ new.bytes) = ap (λ (l : List ℕ). length l) passes.message.bytes_are in
    omega arith

pub hands_all : (old new : Unread) (result : Result (Option Message) FrameFault) → HandsOut old result new → new.place + length new.bytes ≡ old.place + length old.bytes
hands_all old new (Ok (Some message)) out = passes_all old new out.0
hands_all old new (Ok None) out = ap (λ (u : Unread). u.place + length u.bytes) out.same
hands_all old new (Err fault) out = ap (λ (u : Unread). u.place + length u.bytes) out.same
