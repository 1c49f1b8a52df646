use Rattle.std.proofs.Common.{◌∙◌}
use Rattle.std.proofs.lemmas.List.{append-nil}
use Rattle.sql_statements.proofs.piece.four_pieces.Goals as goal

pub returns : goal.returns
returns c = append-nil _ ∙ append-nil _ ∙ append-nil _
