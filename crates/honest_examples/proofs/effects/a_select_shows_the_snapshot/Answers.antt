use Rattle.honest_examples.proofs.Commanding.{selects}
use Rattle.honest_examples.proofs.effects.a_select_shows_the_snapshot.Goals as goal

pub returns : goal.returns
returns c = selects
