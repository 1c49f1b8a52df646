use Rattle.chunk_rows.proofs.InTurn.{chunks_in_turn}
use Rattle.chunk_rows.proofs.chunks_answer_in_turn.Goals as goal

pub returns : goal.returns
returns c = chunks_in_turn
