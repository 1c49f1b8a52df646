use Rattle.std.proofs.Common.{◌≡◌, length}
use Rattle.object_forms.specs.Head.{after_on}
use Rattle.object_forms.specs.Token.{tokens}
use Rattle.object_texts.proofs.head.after_on.Given as goal

abbrev pub invariant-tokens : goal.invariant-tokens
invariant-tokens l = after_on (tokens l.rest) ≡ after_on (tokens l.text)

abbrev pub decreases-tokens : goal.decreases-tokens
decreases-tokens l = length l.rest
