use Rattle.statement_laws.proofs.Kept.{effects_kept}
use Rattle.statement_laws.proofs.laws.the_effect_is_kept.Goals as goal

pub returns : goal.returns
returns c = effects_kept
