use Rattle.std.proofs.Common.{◌≡◌, ◌+◌, length}
use Rattle.splitter_tests.proofs.places.add_all.Given as goal

abbrev pub invariant-pieces : goal.invariant-pieces
invariant-pieces l = l.splitter.unread.offset + length l.splitter.unread.rest ≡ l.fn.splitter.unread.offset + length l.fn.splitter.unread.rest
