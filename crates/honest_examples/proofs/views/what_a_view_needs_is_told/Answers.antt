use Rattle.honest_examples.proofs.Viewing.{needs_told}
use Rattle.honest_examples.proofs.views.what_a_view_needs_is_told.Goals as goal

pub returns : goal.returns
returns c = needs_told
