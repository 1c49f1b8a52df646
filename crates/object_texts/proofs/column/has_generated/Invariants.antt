use Rattle.std.proofs.Common.{◌≡◌, length}
use Rattle.object_forms.specs.Shape.{has_generated}
use Rattle.object_forms.specs.Token.{tokens}
use Rattle.object_texts.proofs.column.has_generated.Given as goal

abbrev pub invariant-tokens : goal.invariant-tokens
invariant-tokens l = has_generated (tokens l.rest) ≡ has_generated (tokens l.text)

abbrev pub decreases-tokens : goal.decreases-tokens
decreases-tokens l = length l.rest
