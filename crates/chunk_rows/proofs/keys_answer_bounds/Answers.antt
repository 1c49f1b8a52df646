use Rattle.chunk_rows.proofs.InTurn.{keys_in_turn}
use Rattle.chunk_rows.proofs.keys_answer_bounds.Goals as goal

pub returns : goal.returns
returns c = keys_in_turn
