use Rattle.honest_examples.proofs.Answering.{text_shown}
use Rattle.honest_examples.proofs.answered.a_text_is_shown.Goals as goal

pub returns : goal.returns
returns c = text_shown
