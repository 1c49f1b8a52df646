use Rattle.std.proofs.Common.{◌≡◌, length}
use Rattle.honest_server.specs.WideKey.{comes_first}
use Rattle.chunk_forms.proofs.key_range.comes_first.Given as goal

abbrev pub invariant-numbers : goal.invariant-numbers
invariant-numbers l = comes_first l.left l.right ≡ comes_first l.numbers l.others

abbrev pub decreases-numbers : goal.decreases-numbers
decreases-numbers l = length l.right
