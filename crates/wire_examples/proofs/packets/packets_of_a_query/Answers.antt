use Rattle.std.proofs.Common.{refl}
use Rattle.wire_forms.specs.Packet.{packets}
use Rattle.wire_examples.proofs.packets.packets_of_a_query.Goals as goal

pub returns : goal.returns
unfolding packets
returns c = record { query = refl; after_it = refl; after_full = refl; most_of_one = refl; full = refl }
