use Rattle.std.proofs.Common.{◌≡◌, ◌-◌, length, drop}
use Rattle.object_forms.specs.Token.{closing, more}
use Rattle.sql_tokens.proofs.token.closing.Given as goal

abbrev pub invariant-quoted : goal.invariant-quoted
invariant-quoted l = closing l.quote l.text ≡ more l.at (closing l.quote (drop l.at l.text))

abbrev pub decreases-quoted : goal.decreases-quoted
decreases-quoted l = length l.initial.text - l.at
