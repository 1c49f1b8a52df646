use Rattle.honest_examples.proofs.Setting.{next_object}
use Rattle.honest_examples.proofs.routines.settings_are_of_the_next_object.Goals as goal

pub returns : goal.returns
returns c = next_object
