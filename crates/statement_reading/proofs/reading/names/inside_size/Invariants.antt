use Rattle.std.proofs.Common.{◌≡◌, ◌<◌, ℕ, true, get_or}
use Rattle.statement_forms.specs.Insert.{is_inside}
use Rattle.statement_reading.proofs.reading.names.inside_size.Given as goal

abbrev pub invariant-loop-i : goal.invariant-loop-i
invariant-loop-i l = (k : ℕ) → k < l.i → is_inside (get_or l.bytes k 0) ≡ true
