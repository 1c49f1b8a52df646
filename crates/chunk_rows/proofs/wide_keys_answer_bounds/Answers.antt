use Rattle.chunk_rows.proofs.InTurn.{wide_keys_in_turn}
use Rattle.chunk_rows.proofs.wide_keys_answer_bounds.Goals as goal

pub returns : goal.returns
returns c = wide_keys_in_turn
