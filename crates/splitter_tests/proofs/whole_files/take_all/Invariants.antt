use Rattle.std.proofs.Common.{◌≡◌, ◌+◌, List, ℕ, ◌++◌, length}
use Rattle.splitter_forms.specs.Pieces.{with_more, pieces}
use Rattle.statement_splitter.specs.Laws.{written}
use Rattle.splitter_tests.proofs.whole_files.take_all.Given as goal

abbrev pub invariant-pieces : goal.invariant-pieces
invariant-pieces l = record {
  same : (more : List ℕ) → l.out.items ++ written (pieces (with_more more l.splitter.unread)) ≡ l.fn.out.items ++ written (pieces (with_more more l.fn.splitter.unread));
  even : l.splitter.unread.offset + length l.splitter.unread.rest ≡ l.fn.splitter.unread.offset + length l.fn.splitter.unread.rest;
}

abbrev pub decreases-pieces : goal.decreases-pieces
decreases-pieces l = length l.splitter.unread.rest
