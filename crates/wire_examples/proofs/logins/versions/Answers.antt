use Rattle.std.proofs.Common.{refl}
use Rattle.wire_examples.proofs.logins.versions.Goals as goal

pub returns : goal.returns
returns c = record { first_newer = refl; innovation = refl; two_digits = refl; next = refl; other_server = refl; nine_digits = refl; long_second = refl; nine_count = refl; nine_zeros = refl; older = refl; last_older = refl; much_older = refl; no_number = refl; no_second = refl; no_first = refl; no_dot = refl; other_sign = refl; long_first = refl; nothing = refl }
