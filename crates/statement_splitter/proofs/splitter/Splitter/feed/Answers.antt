use Rattle.std.proofs.Common.{◌++◌, ap, ◌∙◌, arith}
use Rattle.statement_splitter.proofs.Places.{place_more}
use Rattle.statement_splitter.proofs.splitter.Splitter.feed.Goals as goal

pub invariant_of-self-2 : goal.invariant_of-self-2
invariant_of-self-2 c =
    let inside = c.self.inside in
    let piece = c.args.piece.now in
    (omega arith, place_more inside.store.items piece c.extend_from_slice.new.self.items inside.place c.self.invariant.1 (rw (← c.self.view_is) at c.requires.in_all) (c.in_ok-extend_from_slice.ensures.items ∙ ap (λ t. t ++ piece) c.give_up_front.ensures))
