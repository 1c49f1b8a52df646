use Rattle.std.proofs.Common.{◌++◌, ℕ, take, refl, arith, ap, ◌∙◌}
use Rattle.my_packets.proofs.Skimming.{feeds_part, feeds_last, feeds_full}
use Rattle.my_packets.specs.Skimmed.{Skimmed}
use Rattle.my_packets.proofs.skim.Skim.feed_packet.Goals as goal

pub returns-then-missing-gt0 : goal.returns-then-missing-gt0
returns-then-missing-gt0 c =
    let skim = c.self.inside in
    let stage = ap (λ (s : Skimmed). s.stage) c.self.view_is ∙ c.requires.stage in
    let kept_is = c.fill-self-inside.ensures.filled ∙ ap (λ (n : ℕ). take n (take skim.kept_size skim.kept ++ c.args.piece.now)) c.self.told.0 in
    rw (← c.self.view_is) (feeds_part _ c.args.piece.now (take c.fill-self-inside.result c.fill-self-inside.new.place) c.args.size c.args.left stage kept_is _ refl c.if-missing-gt0.true)

pub returns-then-size-lt-FULL_SIZE : goal.returns-then-size-lt-FULL_SIZE
returns-then-size-lt-FULL_SIZE c =
    let skim = c.self.inside in
    let stage = ap (λ (s : Skimmed). s.stage) c.self.view_is ∙ c.requires.stage in
    let kept_is = c.fill-self-inside.ensures.filled ∙ ap (λ (n : ℕ). take n (take skim.kept_size skim.kept ++ c.args.piece.now)) c.self.told.0 in
    rw (← c.self.view_is) (feeds_last _ c.args.piece.now (take c.fill-self-inside.result c.fill-self-inside.new.place) c.args.size c.args.left stage kept_is (omega arith) c.if-size-lt-FULL_SIZE.true)

pub returns : goal.returns
returns c =
    let skim = c.self.inside in
    let stage = ap (λ (s : Skimmed). s.stage) c.self.view_is ∙ c.requires.stage in
    let kept_is = c.fill-self-inside.ensures.filled ∙ ap (λ (n : ℕ). take n (take skim.kept_size skim.kept ++ c.args.piece.now)) c.self.told.0 in
    rw (← c.self.view_is) (feeds_full _ c.args.piece.now (take c.fill-self-inside.result c.fill-self-inside.new.place) c.args.size c.args.left stage kept_is (omega arith) c.if-size-lt-FULL_SIZE.false)
