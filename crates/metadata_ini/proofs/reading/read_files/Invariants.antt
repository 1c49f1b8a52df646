use Rattle.std.proofs.Common.{length}
use Rattle.metadata_ini.proofs.FileFronts.{FilesSoFar}
use Rattle.metadata_ini.proofs.reading.read_files.Given as goal

abbrev pub invariant-lines : goal.invariant-lines
invariant-lines l = FilesSoFar l.text l.files l.rest

abbrev pub decreases-lines : goal.decreases-lines
decreases-lines l = length l.rest
