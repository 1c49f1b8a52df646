use Rattle.sql_literals.proofs.NumberReads.{fraction_there, fraction_none}
use Rattle.sql_literals.proofs.reading.skip.fraction_size.Goals as goal

pub returns-in-Ok : goal.returns-in-Ok
returns-in-Ok c = fraction_there _ _ c.in-Ok.ensures

pub returns-in-Err : goal.returns-in-Err
returns-in-Err c = fraction_none _ _ c.in-Err.ensures
