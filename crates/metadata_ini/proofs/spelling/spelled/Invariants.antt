use Rattle.std.proofs.Common.{◌≡◌, ◌++◌, length}
use Rattle.server_data.specs.Names.{escaped_name}
use Rattle.metadata_ini.proofs.spelling.spelled.Given as goal

abbrev pub invariant-bytes : goal.invariant-bytes
invariant-bytes l = escaped_name l.made.items ++ l.rest ≡ l.text

abbrev pub decreases-bytes : goal.decreases-bytes
decreases-bytes l = length l.rest
