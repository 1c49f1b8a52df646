use Rattle.std.proofs.Common.{◌≡◌, true, take}
use Rattle.std.specs.List.{list_all}
use Rattle.metadata_ini.specs.Division.{is_spelling_byte}
use Rattle.metadata_ini.proofs.division.front.Given as goal

abbrev pub invariant-loop-at : goal.invariant-loop-at
invariant-loop-at l = list_all is_spelling_byte (take l.at l.text) ≡ true
