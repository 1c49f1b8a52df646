use Rattle.std.proofs.Common.{true, ◌∙◌, ap, arith}
use Rattle.std.proofs.lemmas.Result.{on_ok_weaker, IfErr-weaker}
use Rattle.link_traits.specs.Site.{Links, told_after_return}
use Rattle.dumper_cli.specs.AskedBy.{asked_by}
use Rattle.my_session.proofs.Stepping.{new_link_greets}
use Rattle.dumper_cli.proofs.OverSite.{Rose-back, EndedBy-stopped, SaidAtMost-stopped, SiteTabled-dumped}
use Rattle.dumper_cli.proofs.dump.dump_over_site.Goals as goal

pub returns-clause-ok : goal.returns-clause-ok
returns-clause-ok g c = on_ok_weaker c.dump_over_link-link.result.result (λ dumped.
    SiteTabled-dumped g.T.Link.Link g.S.Shelf (asked_by c.args.words.now) (g.T.Site.told c.args.site.now) c.in-Ok.link (g.T.Site.tells c.args.site.now) (g.T.Site.told c.give_back.new.self) c.dump_over_link-link.result.link c.args.shelf c.dump_over_link-link.result.shelf
    (λ t. c.dump_over_link-link.ensures.link_tells.0 (c.in-Ok.ensures.told t).link.is_told) (λ t. (c.in-Ok.ensures.told t).link.begins)
    (λ t. c.give_back.ensures.told (c.in-Ok.ensures.stays.0.still_tells.0 t) ∙ ap (λ s. told_after_return s (g.T.Link.Link.told c.dump_over_link-link.result.link).sent) (c.in-Ok.ensures.told t).site)
    _
    (λ rose. Rose-back (g.T.Site.faults c.args.site.now) (g.T.Link.Link.faults c.in-Ok.link) (g.T.Link.Link.faults c.dump_over_link-link.result.link) (g.T.Site.faults c.connect_sole.new.self) (g.T.Site.faults c.give_back.new.self) c.in-Ok.ensures.cause.later rose c.give_back.ensures.faults.sum)
    dumped)
    c.dump_over_link-link.ensures.ok

pub returns-clause-err : goal.returns-clause-err
returns-clause-err g c = IfErr-weaker c.dump_over_link-link.result.result _ _ (λ fault stopped.
    EndedBy-stopped g.T.Link.Link g.S.Shelf (asked_by c.args.words.now) (g.T.Site.told c.args.site.now) c.in-Ok.link (g.T.Site.tells c.args.site.now) _ c.dump_over_link-link.result.link c.args.shelf c.dump_over_link-link.result.shelf
    (λ t. c.dump_over_link-link.ensures.link_tells.0 (c.in-Ok.ensures.told t).link.is_told) (λ t. (c.in-Ok.ensures.told t).link.begins)
    (λ rose. Rose-back (g.T.Site.faults c.args.site.now) (g.T.Link.Link.faults c.in-Ok.link) (g.T.Link.Link.faults c.dump_over_link-link.result.link) (g.T.Site.faults c.connect_sole.new.self) (g.T.Site.faults c.give_back.new.self) c.in-Ok.ensures.cause.later rose c.give_back.ensures.faults.sum)
    fault stopped.why)
    c.dump_over_link-link.ensures.err

pub returns-clause-said : goal.returns-clause-said
returns-clause-said g c = IfErr-weaker c.dump_over_link-link.result.result _ _ (λ fault stopped.
    SaidAtMost-stopped g.T.Link.Link g.S.Shelf (asked_by c.args.words.now) (g.T.Site.told c.args.site.now) c.in-Ok.link (g.T.Site.tells c.args.site.now) (g.T.Site.told c.give_back.new.self) c.dump_over_link-link.result.link c.args.shelf c.dump_over_link-link.result.shelf
    (λ t. c.dump_over_link-link.ensures.link_tells.0 (c.in-Ok.ensures.told t).link.is_told) (λ t. (c.in-Ok.ensures.told t).link.begins)
    (λ t. c.give_back.ensures.told (c.in-Ok.ensures.stays.0.still_tells.0 t) ∙ ap (λ s. told_after_return s (g.T.Link.Link.told c.dump_over_link-link.result.link).sent) (c.in-Ok.ensures.told t).site)
    fault stopped)
    c.dump_over_link-link.ensures.err

pub dump_over_link-link-requires-clause-new_link : goal.dump_over_link-link-requires-clause-new_link
dump_over_link-link-requires-clause-new_link g c = λ h alive. new_link_greets g.T.Link.Link c.in-Ok.link (g.T.Site.served c.connect_sole.new.self) true (c.in-Ok.ensures.link.fresh h)

pub give_back-requires : goal.give_back-requires
give_back-requires g c = record {
  may = (
    g.met.T.Site.stays_own c.connect_sole.new.self c.in-Ok.link c.dump_over_link-link.result.link c.dump_over_link-link.ensures.origin c.in-Ok.ensures.own.given,
    (let one = ap (λ (l : Links). l.out) c.in-Ok.ensures.links.ok in omega arith),
  );
}
