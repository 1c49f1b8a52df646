use Rattle.std.proofs.Common.{rules}
use Rattle.job_tickets.proofs.RuleLemmas.{splits}
use Rattle.job_tickets.proofs.deal.Deal.seat_from.Goals as goal

pub split_seat-requires : goal.split_seat-requires
split_seat-requires c = (search rules, search rules, splits _ _ _ c.requires.two c.requires.rest.has_drawn)
