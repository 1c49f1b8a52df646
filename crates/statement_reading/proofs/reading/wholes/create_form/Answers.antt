use Rattle.statement_reading.proofs.FormTexts.{whole_refused}
use Rattle.statement_reading.proofs.reading.wholes.create_form.Goals as goal

pub returns-in-Err : goal.returns-in-Err
returns-in-Err c = whole_refused _ _ _ c.in-Err.ensures
