use Rattle.dumper_cli.proofs.Listing.{IsListing-short}
use Rattle.dumper_cli.proofs.dump.first_name.Goals as goal

pub returns-in_default-clause-ok : goal.returns-in_default-clause-ok
returns-in_default-clause-ok g c = λ tells. IsListing-short c.in-Ok.names _ (rw c.as_slice.ensures at c.in_default.len_below) (c.in-Ok.ensures.names tells)
