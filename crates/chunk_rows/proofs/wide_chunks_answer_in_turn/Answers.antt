use Rattle.chunk_rows.proofs.InTurn.{wide_chunks_in_turn}
use Rattle.chunk_rows.proofs.wide_chunks_answer_in_turn.Goals as goal

pub returns : goal.returns
returns c = wide_chunks_in_turn
