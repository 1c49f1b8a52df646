use Rattle.std.proofs.Common.{arith}
use Rattle.grammar.proofs.Wholes.{refused_broken, refused_more, whole_text}
use Rattle.statement_reading.proofs.FormTexts.{fixed_refused, fixed_only}
use Rattle.statement_reading.proofs.reading.forms.fixed_form.Goals as goal

pub returns-in-Err : goal.returns-in-Err
returns-in-Err c = fixed_refused _ _ _ (refused_broken _ _ _ c.in-Err.ensures)

pub returns-then-size-text : goal.returns-then-size-text
returns-then-size-text c = fixed_only _ _ (whole_text _ _ _ c.in-Ok.ensures (omega arith))

pub returns-else-size-text : goal.returns-else-size-text
returns-else-size-text c = fixed_refused _ _ _ (refused_more _ _ _ c.in-Ok.ensures (omega arith))
