use Rattle.std.proofs.Common.{◌≡◌, ◌+◌, ◌-◌, ◌≤◌, List, [], ℕ, ◌++◌, length, take}
use Rattle.splitter_forms.specs.Pieces.{with_more, pieces, unread_file}
use Rattle.statement_splitter.specs.Laws.{written}
use Rattle.splitter_tests.proofs.whole_files.divided.Given as goal

abbrev pub invariant-cuts : goal.invariant-cuts
invariant-cuts l = record {
  inside : l.at ≤ length l.file;
  same : (more : List ℕ) → l.out.items ++ written (pieces (with_more more l.splitter.unread)) ≡ written (pieces (unread_file (take l.at l.file ++ more)));
  none : pieces l.splitter.unread ≡ [];
  even : l.splitter.unread.offset + length l.splitter.unread.rest ≡ l.at;
}

abbrev pub decreases-cuts : goal.decreases-cuts
decreases-cuts l = length l.file - l.at
