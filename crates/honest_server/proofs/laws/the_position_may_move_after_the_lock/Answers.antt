use Rattle.honest_server.proofs.Examples.{position}
use Rattle.honest_server.proofs.laws.the_position_may_move_after_the_lock.Goals as goal

pub returns : goal.returns
returns c = position
