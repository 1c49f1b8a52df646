use Rattle.std.proofs.Common.{◌≡◌, ◌-◌, ◌++◌, length, drop}
use Rattle.object_forms.specs.Shape.{name_value}
use Rattle.object_texts.proofs.column.undoubled.Given as goal

abbrev pub invariant-name : goal.invariant-name
invariant-name l = l.made.items ++ name_value (drop l.at l.name) ≡ name_value l.name

abbrev pub decreases-name : goal.decreases-name
decreases-name l = length l.initial.name - l.at
