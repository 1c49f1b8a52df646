use Rattle.std.proofs.Common.{◌≡◌, length}
use Rattle.object_forms.specs.Shape.{engine_in}
use Rattle.object_forms.specs.Token.{tokens}
use Rattle.object_texts.proofs.table.engine_in.Given as goal

abbrev pub invariant-tokens : goal.invariant-tokens
invariant-tokens l = engine_in (tokens l.rest) ≡ engine_in (tokens l.text)

abbrev pub decreases-tokens : goal.decreases-tokens
decreases-tokens l = length l.rest
