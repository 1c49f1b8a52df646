use Rattle.std.proofs.Common.{◌≡◌, length}
use Rattle.server_model.specs.After.{any_made, is_sought}
use Rattle.server_model.proofs.fitting.any_made.Given as goal

abbrev pub invariant-changes : goal.invariant-changes
invariant-changes l = any_made (is_sought l.sought) l.changes ≡ any_made (is_sought l.sought) l.left

abbrev pub decreases-changes : goal.decreases-changes
decreases-changes l = length l.left
