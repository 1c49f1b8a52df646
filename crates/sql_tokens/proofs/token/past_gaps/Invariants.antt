use Rattle.std.proofs.Common.{◌≡◌, length}
use Rattle.sql_tokens.specs.Left.{IsLeft}
use Rattle.object_forms.specs.Token.{past_gaps, tokens}
use Rattle.sql_tokens.proofs.token.past_gaps.Given as goal

abbrev pub invariant-gaps : goal.invariant-gaps
invariant-gaps l = record { left : IsLeft l.text l.rest; past : past_gaps (tokens l.rest) ≡ past_gaps (tokens l.text) }

abbrev pub decreases-gaps : goal.decreases-gaps
decreases-gaps l = length l.rest
