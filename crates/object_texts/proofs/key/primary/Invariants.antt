use Rattle.std.proofs.Common.{◌≡◌, length}
use Rattle.object_forms.specs.Shape.{parts, primary}
use Rattle.object_forms.specs.Token.{tokens}
use Rattle.object_texts.proofs.key.primary.Given as goal

abbrev pub invariant-items : goal.invariant-items
invariant-items l = primary (parts 0 (tokens l.rest)) ≡ primary (parts 0 (tokens l.items))

abbrev pub decreases-items : goal.decreases-items
decreases-items l = length l.rest
