use Rattle.honest_examples.proofs.Widening.{may_stand_twice}
use Rattle.honest_examples.proofs.wide_keys.a_wide_key_may_stand_twice.Goals as goal

pub returns : goal.returns
returns c = may_stand_twice
