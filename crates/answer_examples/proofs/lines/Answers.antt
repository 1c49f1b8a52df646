use Rattle.answer_examples.proofs.Examples.{all_lines}
use Rattle.answer_examples.proofs.lines.Goals as goal

pub returns : goal.returns
returns c = all_lines
