use Rattle.my_session.proofs.Shown.{rows_come}
use Rattle.my_session.proofs.laws.rows_come_from_what_is_shown.Goals as goal

pub returns : goal.returns
returns c = rows_come
