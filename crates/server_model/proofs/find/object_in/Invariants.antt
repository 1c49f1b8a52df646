use Rattle.std.proofs.Common.{◌≡◌, length}
use Rattle.std.specs.Prelude.{find}
use Rattle.server_data.specs.Fold.{is_object}
use Rattle.server_model.proofs.find.object_in.Given as goal

abbrev pub invariant-objects : goal.invariant-objects
invariant-objects l = find (is_object l.kind l.schema l.name) l.objects ≡ find (is_object l.kind l.schema l.name) l.left

abbrev pub decreases-objects : goal.decreases-objects
decreases-objects l = length l.left
