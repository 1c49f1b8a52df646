use Rattle.std.proofs.Common.{refl}
use Rattle.wire_examples.proofs.logins.logins_under_either.Goals as goal

pub returns : goal.returns
returns c = record { with_eof = refl; without_eof = refl }
