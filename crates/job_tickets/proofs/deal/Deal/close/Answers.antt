use Rattle.std.proofs.Common.{ap, ◌∙◌, sym}
use Rattle.job_tickets.proofs.RuleLemmas.{drew-all}
use Rattle.job_tickets.proofs.deal.Deal.close.Goals as goal

pub returns : goal.returns
returns c = λ number. let all = c.all_as_one-all.ensures in
    sym (all.drawn number)
    ∙ drew-all _ _ _ _ _ _ c.close_with-closed.ensures.values.2
    (all.whole.has_share ∙ c.requires.all_there ∙ sym (ap (λ d. d.seats) c.self.view_is))
    c.word-count.ensures number
