use Rattle.std.proofs.Common.{◌≡◌, ◌++◌, length}
use Rattle.std.specs.Prelude.{filter}
use Rattle.server_data.specs.Select.{selects_object}
use Rattle.server_model.proofs.selection.selected_objects.Given as goal

abbrev pub invariant-objects : goal.invariant-objects
invariant-objects l = l.made ++ filter (selects_object l.choice l.database) l.left ≡ filter (selects_object l.choice l.database) l.database.objects

abbrev pub decreases-objects : goal.decreases-objects
decreases-objects l = length l.left
