use Rattle.std.proofs.Common.{◌++◌, arith, ap, ◌∙◌, ◌∷◌, []}
use Rattle.statement_splitter.specs.Splits.{piece_of}
use Rattle.statement_splitter.proofs.Wholes.{gives_smaller, written_more, written_all}
use Rattle.splitter_tests.proofs.whole_files.take_all.Goals as goal

pub pieces-smaller : goal.pieces-smaller
pieces-smaller c =
    let gave = rw (c.in_ok-piece.was, c.in-Some.is) at c.next.follows.holds-at-none in
    gives_smaller c.pieces.splitter.unread c.next.follows.lender-at-none.unread (piece_of c.in-Some.piece) gave.gives

pub pieces-preserved : goal.pieces-preserved
pieces-preserved c =
    let gave = rw (c.in_ok-piece.was, c.in-Some.is) at c.next.follows.holds-at-none in
    let out_is = c.in_ok-push-in-Some.ensures.items ∙ ap (λ t. t ++ 124 ∷ []) c.in_ok-extend_from_slice-in-Some.ensures.items in
    record {
      same = λ more. written_more c.pieces.splitter.unread c.next.follows.lender-at-none.unread (piece_of c.in-Some.piece) c.pieces.out.items c.push.new.self.items gave.gives out_is more ∙ c.pieces.invariant.same more;
      even = omega (arith, gave.even, c.pieces.invariant.even);
    }

pub returns-in-None-clause-writes : goal.returns-in-None-clause-writes
returns-in-None-clause-writes c =
    let gave = rw (c.in_ok-piece.was, c.in-None.is) at c.next.follows.holds-at-none in
    written_all c.args.splitter.now.unread c.pieces.splitter.unread c.next.follows.lender-at-none.unread c.args.out.now.items c.pieces.out.items gave.none c.pieces.invariant.same
