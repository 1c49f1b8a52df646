use Rattle.std.proofs.Common.{◌+◌, ◌≤◌, ◌<◌, length, take, arith, ap, ◌∙◌}
use Rattle.std.proofs.lemmas.List.{take_all}
use Rattle.my_packets.proofs.Skimming.{filled_all, feeds_less, feeds_other, feeds_past, feeds_empty, feeds_packet}
use Rattle.my_packets.specs.Skimmed.{Skimmed}
use Rattle.my_packets.proofs.skim.Skim.feed_header.Goals as goal

pub returns-then-self-lt4 : goal.returns-then-self-lt4
returns-then-self-lt4 c =
    let skim = c.self.inside in
    let stage = ap (λ (s : Skimmed). s.stage) c.self.view_is ∙ c.requires.stage in
    let within : length (take skim.header_size skim.header) + length c.args.piece.now ≤ 4 = rw (← c.self.view_is) at c.requires.within in
    let header = filled_all skim.header c.fill-self-inside.new.place c.args.piece.now skim.header_size c.fill-self-inside.result 4 (omega arith) (omega arith) c.fill-self-inside.ensures.filled c.fill-self-inside.ensures.size within in
    rw (← c.self.view_is) (feeds_less _ c.args.piece.now (take c.fill-self-inside.result c.fill-self-inside.new.place) stage header.0 (omega (arith, header.1)))

pub returns-then-packet-self : goal.returns-then-packet-self
returns-then-packet-self c =
    let skim = c.self.inside in
    let place = c.fill-self-inside.new.place in
    let stage = ap (λ (s : Skimmed). s.stage) c.self.view_is ∙ c.requires.stage in
    let within : length (take skim.header_size skim.header) + length c.args.piece.now ≤ 4 = rw (← c.self.view_is) at c.requires.within in
    let header = filled_all skim.header place c.args.piece.now skim.header_size c.fill-self-inside.result 4 (omega arith) (omega arith) c.fill-self-inside.ensures.filled c.fill-self-inside.ensures.size within in
    let all : length place ≤ c.fill-self-inside.result = omega arith in
    let whole = take_all c.fill-self-inside.result place all ∙ c.read_header-packet.ensures.header in
    rw (← c.self.view_is) (feeds_other _ c.args.piece.now (take c.fill-self-inside.result place) stage header.0 c.read_header-packet.result.size c.read_header-packet.result.id (omega arith) whole c.if-packet-self.true)

pub returns-then-packet-self-2 : goal.returns-then-packet-self-2
returns-then-packet-self-2 c =
    let skim = c.self.inside in
    let place = c.fill-self-inside.new.place in
    let stage = ap (λ (s : Skimmed). s.stage) c.self.view_is ∙ c.requires.stage in
    let within : length (take skim.header_size skim.header) + length c.args.piece.now ≤ 4 = rw (← c.self.view_is) at c.requires.within in
    let header = filled_all skim.header place c.args.piece.now skim.header_size c.fill-self-inside.result 4 (omega arith) (omega arith) c.fill-self-inside.ensures.filled c.fill-self-inside.ensures.size within in
    let all : length place ≤ c.fill-self-inside.result = omega arith in
    let whole = take_all c.fill-self-inside.result place all ∙ c.read_header-packet.ensures.header in
    rw (← c.self.view_is) (feeds_past _ c.args.piece.now (take c.fill-self-inside.result place) stage header.0 c.read_header-packet.result.size c.read_header-packet.result.id (omega arith) whole _ c.if-packet-self.false (omega (arith, c.from.ensures, c.from-then-packet-self-2.ensures)) (omega (arith, c.from.ensures, c.from-then-packet-self-2.ensures)))

pub returns-then-packet-eq0 : goal.returns-then-packet-eq0
returns-then-packet-eq0 c =
    let skim = c.self.inside in
    let place = c.fill-self-inside.new.place in
    let stage = ap (λ (s : Skimmed). s.stage) c.self.view_is ∙ c.requires.stage in
    let within : length (take skim.header_size skim.header) + length c.args.piece.now ≤ 4 = rw (← c.self.view_is) at c.requires.within in
    let header = filled_all skim.header place c.args.piece.now skim.header_size c.fill-self-inside.result 4 (omega arith) (omega arith) c.fill-self-inside.ensures.filled c.fill-self-inside.ensures.size within in
    let all : length place ≤ c.fill-self-inside.result = omega arith in
    let whole = take_all c.fill-self-inside.result place all ∙ c.read_header-packet.ensures.header in
    rw (← c.self.view_is) (feeds_empty _ c.args.piece.now (take c.fill-self-inside.result place) stage header.0 c.read_header-packet.result.size c.read_header-packet.result.id (omega arith) whole c.if-packet-self.false c.if-packet-eq0.true)

pub returns : goal.returns
returns c =
    let skim = c.self.inside in
    let place = c.fill-self-inside.new.place in
    let stage = ap (λ (s : Skimmed). s.stage) c.self.view_is ∙ c.requires.stage in
    let within : length (take skim.header_size skim.header) + length c.args.piece.now ≤ 4 = rw (← c.self.view_is) at c.requires.within in
    let header = filled_all skim.header place c.args.piece.now skim.header_size c.fill-self-inside.result 4 (omega arith) (omega arith) c.fill-self-inside.ensures.filled c.fill-self-inside.ensures.size within in
    let all : length place ≤ c.fill-self-inside.result = omega arith in
    let whole = take_all c.fill-self-inside.result place all ∙ c.read_header-packet.ensures.header in
    let some : 0 < c.read_header-packet.result.size = omega arith in
    rw (← c.self.view_is) (feeds_packet _ c.args.piece.now (take c.fill-self-inside.result place) stage header.0 c.read_header-packet.result.size c.read_header-packet.result.id (omega arith) whole c.if-packet-self.false (omega arith) some)
