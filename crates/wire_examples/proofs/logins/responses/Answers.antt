use Rattle.std.proofs.Common.{refl}
use Rattle.wire_examples.proofs.logins.responses.Goals as goal

pub returns : goal.returns
returns c = record { without = refl; with_answer = refl; without_eof = refl; with_answer_without_eof = refl }
