use Rattle.std.proofs.Common.{◌≡◌, ◌+◌, ◌≤◌, length, position}
use Rattle.object_texts.specs.Reading.{column_items}
use Rattle.object_forms.specs.Shape.{is_auto}
use Rattle.object_forms.specs.Token.{more}
use Rattle.object_texts.proofs.counter.auto_place.Given as goal

abbrev pub invariant-items : goal.invariant-items
invariant-items l = (l.place + length l.rest ≤ length l.items) × (more l.place (position is_auto (column_items l.rest)) ≡ position is_auto (column_items l.items))

abbrev pub decreases-items : goal.decreases-items
decreases-items l = length l.rest
