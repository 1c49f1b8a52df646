use Rattle.honest_examples.proofs.Setting.{routine}
use Rattle.honest_examples.proofs.routines.a_routine_is_shown_with_its_settings.Goals as goal

pub returns : goal.returns
returns c = routine
