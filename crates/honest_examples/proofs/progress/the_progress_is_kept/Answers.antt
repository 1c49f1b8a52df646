use Rattle.honest_examples.proofs.Progressing.{kept}
use Rattle.honest_examples.proofs.progress.the_progress_is_kept.Goals as goal

pub returns : goal.returns
returns c = kept
