use Rattle.metadata_ini.proofs.HeadFronts.{bad_started, bad_finished, head_found}
use Rattle.metadata_ini.proofs.heads.read_head.Goals as goal

pub returns-in_default-clause-err : goal.returns-in_default-clause-err
returns-in_default-clause-err c = bad_started c.args.text.now c.in_ok-version.version c.in_ok-version.rest.now c.in_ok-version.ensures.ok c.in_default.ensures

pub returns-in_default-time_line-clause-err : goal.returns-in_default-time_line-clause-err
returns-in_default-time_line-clause-err c =
    bad_finished c.args.text.now c.in_ok-version.version c.in_ok-version.rest.now c.in-Some.rest.now c.in-Some.started c.in_ok-version.ensures.ok c.in-Some.ensures c.in_default-time_line.ensures

pub returns-clause-ok : goal.returns-clause-ok
returns-clause-ok c =
    head_found c.args.text.now _ c.in_ok-version.rest.now c.in-Some.rest.now c.in-Some-time_line.rest.now c.in_ok-version.ensures.ok c.in-Some.ensures c.in-Some-time_line.ensures
