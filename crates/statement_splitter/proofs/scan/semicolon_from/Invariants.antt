use Rattle.std.proofs.Common.{◌-◌, length}
use Rattle.splitter_forms.specs.Scan.{before_semicolon}
use Rattle.statement_splitter.specs.State.{GoesOn}
use Rattle.statement_splitter.proofs.scan.semicolon_from.Given as goal

abbrev pub invariant-bytes : goal.invariant-bytes
invariant-bytes l = GoesOn (before_semicolon l.fn.within) (before_semicolon l.within) l.bytes l.from l.at

abbrev pub decreases-bytes : goal.decreases-bytes
decreases-bytes l = length l.bytes - l.at
