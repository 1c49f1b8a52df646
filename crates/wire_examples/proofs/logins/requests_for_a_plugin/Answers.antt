use Rattle.std.proofs.Common.{refl}
use Rattle.wire_examples.proofs.logins.requests_for_a_plugin.Goals as goal

pub returns : goal.returns
returns c = record { native = refl; no_zero_after = refl; byte_too_few = refl; byte_too_many = refl; two_zeros = refl; no_end_of_name = refl; other_plugin = refl; oldest_plugin = refl; an_ok = refl }
