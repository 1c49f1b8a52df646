use Rattle.std.proofs.Common.{◌≡◌, ◌-◌, ◌≤◌, length, drop}
use Rattle.object_forms.specs.Token.{comment_end, more}
use Rattle.sql_tokens.proofs.token.comment_end.Given as goal

abbrev pub invariant-commented : goal.invariant-commented
invariant-commented l = (l.at ≤ length l.text) × (comment_end l.text ≡ more l.at (comment_end (drop l.at l.text)))

abbrev pub decreases-commented : goal.decreases-commented
decreases-commented l = length l.initial.text - l.at
