use Rattle.std.proofs.Common.{◌≡◌, ◌-◌, ◌≤◌, length}
use Rattle.sql_literals.specs.Runs.{Escaped}
use Rattle.sql_literals.proofs.dense.spell.Given as goal

abbrev pub invariant-sixteens : goal.invariant-sixteens
invariant-sixteens l = (l.done ≤ length l.bytes) × (length l.room ≡ length l.initial.room) × Escaped l.bytes l.done l.room l.at

abbrev pub decreases-sixteens : goal.decreases-sixteens
decreases-sixteens l = length l.initial.bytes - l.done

abbrev pub invariant-eights : goal.invariant-eights
invariant-eights l = (l.done ≤ length l.bytes) × (length l.room ≡ length l.initial.room) × Escaped l.bytes l.done l.room l.at

abbrev pub decreases-eights : goal.decreases-eights
decreases-eights l = length l.initial.bytes - l.done

abbrev pub invariant-ones : goal.invariant-ones
invariant-ones l = (l.done ≤ length l.bytes) × (length l.room ≡ length l.initial.room) × Escaped l.bytes l.done l.room l.at

abbrev pub decreases-ones : goal.decreases-ones
decreases-ones l = length l.initial.bytes - l.done
