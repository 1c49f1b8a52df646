use Rattle.std.proofs.Common.{rules}
use Rattle.ticket_tests.proofs.Past.{shared}
use Rattle.ticket_tests.proofs.threads.shared_out.Goals as goal

pub returns : goal.returns
returns g c = shared _ _ _ c.in_ok-deal.deal _ (search rules) c.requires.some c.work_with_list.ensures c.close.ensures
