-- What comes next on a wire is one thing.
use Rattle.std.proofs.Common.{◌≡◌, ℕ, List, sym, ◌∙◌, ap, ◌-◌, ◌^◌, length, take}
use Rattle.my_packets.proofs.Fronts.{one_front, same_packets}
use Rattle.wire_forms.specs.Packet.{packets}
use Rattle.my_session.proofs.Within.{heard_within}
use Rattle.my_session.specs.Laws.{HasOneNext}
use Rattle.my_session.specs.Wire.{Wire, within}

same_wire : (a b : Wire) → a.sent ≡ b.sent → a.stream ≡ b.stream → a.place ≡ b.place → a.id ≡ b.id → a ≡ b
same_wire a b sent stream place id =
    ap (λ (x : List (List ℕ)). record a { sent = x }) sent
    ∙ ap (λ (x : List ℕ). record a { sent = b.sent; stream = x }) stream
    ∙ ap (λ (n : ℕ). record b { place = n; id = a.id }) place
    ∙ ap (λ (n : ℕ). record b { id = n }) id

pub one_next : (wire : Wire) → HasOneNext wire
one_next wire =
    let front = one_front 67108864 wire.id (within wire) in
    let after : List ℕ → Wire → List ℕ = λ message new. take (2 ^ 62 - wire.place - length (packets wire.id message)) new.stream in
    record {
      one_message = λ message other new also heard heard_too.
          let same = same_packets wire.id message other new.stream also.stream (sym heard.stream ∙ heard_too.stream) in
          let e = same.0 in
          (e, same_wire new also (heard.sent ∙ sym heard_too.sent) same.1 (let p = heard.place in let q = heard_too.place in cc) (let p = heard.id in let q = heard_too.id in cc));
      message_in_order = λ message new heard disorder. front.message_is_right disorder.found disorder.wanted message (after message new) (heard_within message wire new heard) disorder.wrong;
      message_is_short = λ message new size heard long. front.message_is_short size message (after message new) (heard_within message wire new heard) long;
      message_ends = λ message new heard full. front.message_is_whole full.more message (after message new) (heard_within message wire new heard) full.part;
      disorder_is_not_long = λ size disorder long. front.wrong_is_not_long disorder.found disorder.wanted size disorder.wrong long;
      disorder_ends = λ disorder full. front.wrong_is_whole disorder.found disorder.wanted full.more disorder.wrong full.part;
      long_ends = λ size long full. front.long_is_whole size full.more long full.part;
      one_size = λ size other long also. front.one_size size other long also;
    }
