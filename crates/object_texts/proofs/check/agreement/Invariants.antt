use Rattle.std.proofs.Common.{◌≡◌, ◌+◌, ◌-◌, ◌≤◌, length, drop}
use Rattle.object_texts.specs.Left.{agreement}
use Rattle.object_texts.proofs.check.agreement.Given as goal

abbrev pub invariant-letters : goal.invariant-letters
invariant-letters l = (l.at ≤ length l.text) × (l.at + agreement (drop l.at l.text) (drop l.at l.lower) ≡ agreement l.text l.lower)

abbrev pub decreases-letters : goal.decreases-letters
decreases-letters l = length l.initial.text - l.at
