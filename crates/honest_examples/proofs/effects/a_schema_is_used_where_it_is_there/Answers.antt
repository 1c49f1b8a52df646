use Rattle.honest_examples.proofs.Commanding.{uses}
use Rattle.honest_examples.proofs.effects.a_schema_is_used_where_it_is_there.Goals as goal

pub returns : goal.returns
returns c = uses
