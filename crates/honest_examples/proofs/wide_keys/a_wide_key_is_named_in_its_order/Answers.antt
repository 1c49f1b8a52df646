use Rattle.honest_examples.proofs.Widening.{named}
use Rattle.honest_examples.proofs.wide_keys.a_wide_key_is_named_in_its_order.Goals as goal

pub returns : goal.returns
returns c = named
