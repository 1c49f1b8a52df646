use Rattle.statement_laws.proofs.Kept.{command_alone}
use Rattle.statement_laws.proofs.laws.a_command_is_read_as_nothing_else.Goals as goal

pub returns : goal.returns
returns c = command_alone
