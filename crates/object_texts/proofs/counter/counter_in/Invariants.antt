use Rattle.std.proofs.Common.{◌≡◌, length}
use Rattle.object_forms.specs.Shape.{counter_in}
use Rattle.object_forms.specs.Token.{tokens}
use Rattle.object_texts.proofs.counter.counter_in.Given as goal

abbrev pub invariant-tokens : goal.invariant-tokens
invariant-tokens l = counter_in (tokens l.rest) ≡ counter_in (tokens l.text)

abbrev pub decreases-tokens : goal.decreases-tokens
decreases-tokens l = length l.rest
