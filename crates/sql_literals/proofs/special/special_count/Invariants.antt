use Rattle.std.proofs.Common.{◌≡◌, ◌-◌, ◌≤◌, length, take}
use Rattle.std.specs.List.{count_by}
use Rattle.sql_cells.specs.Literal.{is_special}
use Rattle.sql_literals.proofs.special.special_count.Given as goal

abbrev pub invariant-wide : goal.invariant-wide
invariant-wide l = (l.at ≤ length l.bytes) × (l.count ≤ l.at) × (l.count ≡ count_by is_special (take l.at l.bytes))

abbrev pub decreases-wide : goal.decreases-wide
decreases-wide l = length l.initial.bytes - l.at

abbrev pub invariant-narrow : goal.invariant-narrow
invariant-narrow l = (l.at ≤ length l.bytes) × (l.count ≤ l.at) × (l.count ≡ count_by is_special (take l.at l.bytes))

abbrev pub decreases-narrow : goal.decreases-narrow
decreases-narrow l = length l.initial.bytes - l.at
