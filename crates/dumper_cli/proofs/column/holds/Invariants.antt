-- the bytes that are left hold the needle exactly where all do
use Rattle.std.proofs.Common.{◌≡◌, length}
use Rattle.honest_server.specs.Answer.{has_bytes}
use Rattle.dumper_cli.proofs.column.holds.Given as goal

abbrev pub invariant-places : goal.invariant-places
invariant-places l = has_bytes l.needle l.rest ≡ has_bytes l.fn.needle l.fn.bytes

abbrev pub decreases-places : goal.decreases-places
decreases-places l = length l.rest
