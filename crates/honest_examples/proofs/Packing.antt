-- Which bytes are whole messages.
use Rattle.std.proofs.Common.{◌≡◌, ◌+◌, ◌*◌, ℕ, List, refl, ap, sym, ◌∙◌, arith, codes, length, get_or}
use Rattle.wire_forms.specs.Packet.{packet_count, packets}
use Rattle.my_packets.proofs.Packets.{packets_length, short_packets}
use Rattle.honest_server.specs.Exchange.{IsMessage, query_payload}
use Rattle.honest_server.specs.State.{in_session}
use Rattle.honest_examples.specs.Sends.{AMessageIsWhole, commit_of_id_one, cut_commit}

-- the bytes are packets from the id 0 on
from_zero : (message payload : List ℕ) → (is : IsMessage in_session message payload) → message ≡ packets 0 payload
from_zero message payload is = is.message_is ∙ ap (λ (id : ℕ). packets id payload) is.begins

-- what so few bytes are as a packet
size_of : (message payload : List ℕ) → message ≡ packets 0 payload → length payload + 4 * packet_count (length payload) ≡ length message
size_of message payload is = sym (packets_length 0 payload) ∙ sym (ap (λ (bytes : List ℕ). length bytes) is)

other_id : (payload : List ℕ) → commit_of_id_one ≡ packets 0 payload → ⊥
other_id payload is = omega (arith, ap (λ (bytes : List ℕ). get_or bytes 3 0) (is ∙ short_packets 0 payload (omega arith) (omega (arith, size_of commit_of_id_one payload is))))

missing : (payload : List ℕ) → cut_commit ≡ packets 0 payload → ⊥
missing payload is = omega (arith, size_of cut_commit payload is, ap (λ (bytes : List ℕ). get_or bytes 0 0) (is ∙ short_packets 0 payload (omega arith) (omega (arith, size_of cut_commit payload is))))

pub whole : AMessageIsWhole
unfolding packets
whole = record {
  allowed = (query_payload (codes "COMMIT"), record { id = 0; begins = refl; message_is = refl });
  in_the_login = (query_payload (codes "COMMIT"), record { id = 1; begins = tt; message_is = refl });
  other_id = λ message. other_id message.0 (from_zero commit_of_id_one message.0 message.1);
  byte_missing = λ message. missing message.0 (from_zero cut_commit message.0 message.1);
}
