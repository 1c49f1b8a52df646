use Rattle.std.proofs.Common.{◌≡◌, ◌≤◌, length}
use Rattle.object_forms.specs.Token.{left_after}
use Rattle.sql_tokens.proofs.count.left_after.Given as goal

abbrev pub invariant-tokens : goal.invariant-tokens
invariant-tokens l = (length l.rest ≤ length l.text) × (left_after l.more l.rest ≡ left_after l.count l.text)

abbrev pub decreases-tokens : goal.decreases-tokens
decreases-tokens l = l.more
