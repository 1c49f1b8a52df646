use Rattle.std.proofs.Common.{refl}
use Rattle.wire_examples.proofs.packets.numbers.Goals as goal

pub returns : goal.returns
returns c = record { one_byte = refl; two_bytes = refl; last_of_two = refl; three_bytes = refl; eight_bytes = refl; read = refl; long_spelling = refl; null = refl; error = refl; nothing = refl; short = refl; short_eight = refl }
