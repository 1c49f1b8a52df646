use Rattle.std.proofs.Common.{arith}
use Rattle.sql_literals.proofs.Growth.{appended_more, appended_whole, rest_fits}
use Rattle.sql_literals.proofs.text.push_escaped.Goals as goal

pub push_plain-requires-clause-fits : goal.push_plain-requires-clause-fits
push_plain-requires-clause-fits c = rest_fits _ _ _ _ c.requires c.runs.invariant.1

pub push_special-done-requires-clause-fits : goal.push_special-done-requires-clause-fits
push_special-done-requires-clause-fits c = rest_fits _ _ _ _ c.requires (appended_more c.args.bytes.now c.runs.done c.known_until-to.result _ _ _ c.known_until-to.ensures.low c.runs.invariant.1 c.push_plain.ensures)

pub runs-preserved : goal.runs-preserved
runs-preserved c =
    let run = appended_more c.args.bytes.now c.runs.done c.known_until-to.result _ _ _ c.known_until-to.ensures.low c.runs.invariant.1 c.push_plain.ensures in
    (c.push_special-done.ensures.within, appended_more c.args.bytes.now c.known_until-to.result c.push_special-done.result _ _ _ c.push_special-done.ensures.low run c.push_special-done.ensures.appends)

pub returns : goal.returns
returns c = appended_whole c.args.bytes.now c.runs.done _ _ (omega arith) c.runs.invariant.1
