use Rattle.statement_splitter.proofs.Wholes.{piece_given}
use Rattle.statement_splitter.proofs.laws.a_given_piece_is_the_first.Goals as goal

pub returns : goal.returns
returns c = piece_given
