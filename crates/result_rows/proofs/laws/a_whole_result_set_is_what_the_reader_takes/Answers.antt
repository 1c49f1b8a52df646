use Rattle.result_rows.proofs.ResultSets.{set-taken, set-taken_back}
use Rattle.result_rows.proofs.laws.a_whole_result_set_is_what_the_reader_takes.Goals as goal

pub returns : goal.returns
returns c = λ ends columns rows messages. (set-taken ends columns rows messages, set-taken_back ends columns rows messages)
