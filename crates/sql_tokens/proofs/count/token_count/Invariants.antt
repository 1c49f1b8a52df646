use Rattle.std.proofs.Common.{◌≡◌, ◌+◌, ◌≤◌, length}
use Rattle.object_forms.specs.Token.{tokens}
use Rattle.sql_tokens.proofs.count.token_count.Given as goal

abbrev pub invariant-tokens : goal.invariant-tokens
invariant-tokens l = (l.count + length l.rest ≤ length l.text) × (l.count + length (tokens l.rest) ≡ length (tokens l.text))

abbrev pub decreases-tokens : goal.decreases-tokens
decreases-tokens l = length l.rest
