use Rattle.job_tickets.proofs.DealtLemmas.{jobs_drawn_once}
use Rattle.job_tickets.proofs.laws.jobs_are_drawn_once.Goals as goal

pub returns : goal.returns
returns c = jobs_drawn_once
