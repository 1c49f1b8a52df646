use Rattle.statement_laws.proofs.Kept.{forms_kept}
use Rattle.statement_laws.proofs.laws.the_form_is_kept.Goals as goal

pub returns : goal.returns
returns c = forms_kept
