use Rattle.statement_laws.proofs.CommandReads.{command_is_read}
use Rattle.statement_laws.proofs.laws.a_command_is_read.Goals as goal

pub returns : goal.returns
returns c = command_is_read
