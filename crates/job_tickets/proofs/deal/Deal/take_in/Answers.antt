use Rattle.std.proofs.Common.{rules}
use Rattle.job_tickets.proofs.RuleLemmas.{joins}
use Rattle.job_tickets.proofs.deal.Deal.take_in.Goals as goal

pub join_seat-requires : goal.join_seat-requires
join_seat-requires c = (search rules, search rules, search rules, search rules, joins _ _ _ _ _)
