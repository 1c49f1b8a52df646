use Rattle.honest_examples.proofs.Commanding.{creates}
use Rattle.honest_examples.proofs.effects.a_table_is_made_in_the_current_schema.Goals as goal

pub returns : goal.returns
returns c = creates
