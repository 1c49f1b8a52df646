use Rattle.std.proofs.Common.{◌≤◌, arith}
use Rattle.std.proofs.lemmas.Result.{IfErr-weaker}
use Rattle.dumper_cli.specs.AskedBy.{asked_by}
use Rattle.dumper_cli.proofs.Endings.{said_before, EndedBy-first}
use Rattle.dumper_cli.proofs.Reaching.{Rose-later}
use Rattle.dumper_cli.proofs.dump.dump.Goals as goal

pub returns-in-Ok-None-clause-err : goal.returns-in-Ok-None-clause-err
returns-in-Ok-None-clause-err g c =
    let site_later : g.T.Site.faults c.args.site.now ≤ g.T.Site.faults c.aim-2.new.self = (let same = c.aim-2.ensures.faults in omega arith) in
    let folder_later : g.F.Folder.faults c.args.folder.now ≤ g.F.Folder.faults c.first_name.new.folder = (let same = c.aim.ensures.faults in let later = c.in-Ok-None.ensures.later in omega arith) in
    IfErr-weaker c.dump_into_empty.result _ _ (λ fault ended.
    EndedBy-first _ (asked_by c.args.words.now) (g.T.Site.tells c.aim-2.new.self) (g.T.Site.tells c.args.site.now) (g.T.Site.told c.aim-2.new.self) (g.T.Site.told c.args.site.now) _ _ _ _ c.aim-2.ensures.stays.still_tells.0 c.aim-2.ensures.told
    (λ rose. Rose-later _ _ _ site_later rose) (λ rose. Rose-later _ _ _ folder_later rose)
    fault ended)
    c.dump_into_empty.ensures.err

pub returns-in-Ok-None-clause-said : goal.returns-in-Ok-None-clause-said
returns-in-Ok-None-clause-said g c = said_before (asked_by c.args.words.now) (g.T.Site.tells c.aim-2.new.self) (g.T.Site.tells c.args.site.now) (g.T.Site.told c.aim-2.new.self) _ _ (g.T.Site.told c.aim-2.new.self) (g.T.Site.told c.args.site.now) (g.T.Site.told c.dump_into_empty.new.site) c.dump_into_empty.result c.aim-2.ensures.stays.still_tells.0 c.aim-2.ensures.told c.dump_into_empty.ensures.err c.dump_into_empty.ensures.said
