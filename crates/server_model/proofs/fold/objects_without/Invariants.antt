use Rattle.std.proofs.Common.{◌≡◌, ◌++◌, length, not}
use Rattle.std.specs.Prelude.{filter}
use Rattle.server_data.specs.Fold.{is_object}
use Rattle.server_data.specs.declared.data.Object.{Object}
use Rattle.server_model.proofs.fold.objects_without.Given as goal

abbrev pub invariant-objects : goal.invariant-objects
invariant-objects l = l.made ++ filter (λ (object : Object). not (is_object l.kind l.schema l.name object)) l.left ≡ filter (λ (object : Object). not (is_object l.kind l.schema l.name object)) l.objects

abbrev pub decreases-objects : goal.decreases-objects
decreases-objects l = length l.left
