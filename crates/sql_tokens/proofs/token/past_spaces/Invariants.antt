use Rattle.std.proofs.Common.{◌≡◌, length}
use Rattle.object_forms.specs.Token.{past_spaces, tokens}
use Rattle.sql_tokens.proofs.token.past_spaces.Given as goal

abbrev pub invariant-spaces : goal.invariant-spaces
invariant-spaces l = past_spaces (tokens l.rest) ≡ past_spaces (tokens l.text)

abbrev pub decreases-spaces : goal.decreases-spaces
decreases-spaces l = length l.rest
