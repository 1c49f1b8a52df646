use Rattle.std.proofs.Common.{◌≡◌, ◌+◌, ◌≤◌, ℕ, List, length}
use Rattle.std.specs.List.{AllByRecursion, flat_map}
use Rattle.folder_forms.specs.Metadata.{ended}
use Rattle.metadata_ini.specs.Cut.{Lacks}
use Rattle.metadata_ini.proofs.FileFronts.{Compared}
use Rattle.metadata_ini.proofs.reading.other_line.Given as goal

abbrev pub invariant-lines : goal.invariant-lines
invariant-lines l =
    (l.count + length l.left ≤ length l.wanted)
    × ((lines : List (List ℕ)) → AllByRecursion (Lacks 10) lines → l.wanted ≡ flat_map ended lines → Compared lines l.text l.left l.rest l.count)

abbrev pub decreases-lines : goal.decreases-lines
decreases-lines l = length l.left
