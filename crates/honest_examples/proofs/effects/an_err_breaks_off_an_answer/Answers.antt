use Rattle.honest_examples.proofs.Commanding.{breaks_off}
use Rattle.honest_examples.proofs.effects.an_err_breaks_off_an_answer.Goals as goal

pub returns : goal.returns
returns c = breaks_off
