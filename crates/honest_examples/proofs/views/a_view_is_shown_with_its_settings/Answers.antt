use Rattle.honest_examples.proofs.Viewing.{view_shown}
use Rattle.honest_examples.proofs.views.a_view_is_shown_with_its_settings.Goals as goal

pub returns : goal.returns
returns c = view_shown
