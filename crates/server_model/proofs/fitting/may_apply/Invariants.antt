use Rattle.std.proofs.Common.{◌≡◌, ◌≤◌, ◌-◌, length, take, true}
use Rattle.std.specs.Prelude.{is_some}
use Rattle.server_data.specs.Fold.{changes_db}
use Rattle.server_model.proofs.fitting.may_apply.Given as goal

abbrev pub invariant-changes : goal.invariant-changes
invariant-changes l = record {
  fit : is_some (changes_db l.database (take l.at l.changes)) ≡ true;
  within : l.at ≤ length l.changes;
}

abbrev pub decreases-changes : goal.decreases-changes
decreases-changes l = length l.changes - l.at
