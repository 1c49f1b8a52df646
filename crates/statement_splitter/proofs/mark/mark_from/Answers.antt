use Rattle.std.proofs.Common.{[], ◌∷◌, ◌++◌, replicate, arith}
use Rattle.splitter_forms.specs.Scan.{before_mark}
use Rattle.statement_splitter.specs.State.{dollar_mark}
use Rattle.statement_splitter.proofs.Searches.{goes_further, goes_to_end}
use Rattle.statement_splitter.proofs.Firsts.{none_after, mark_ends, mark_may, mark_not}
use Rattle.statement_splitter.proofs.mark.mark_from.Goals as goal

pub returns-then-at-bytes : goal.returns-then-at-bytes
returns-then-at-bytes c =
    let mark = before_mark (dollar_mark c.args.first c.args.dollars c.args.last) in
    let r = none_after c.args.first (replicate c.args.dollars 36 ++ c.args.last ∷ []) c.args.bytes.now c.firsts.at c.byte_until-at.result c.byte_until-at.ensures c.if-at-bytes.true in
    (goes_further mark mark mark c.args.bytes.now c.args.from c.firsts.at c.byte_until-at.result c.firsts.invariant r.0, r.1)

pub returns-in-Whole : goal.returns-in-Whole
returns-in-Whole c =
    let mark = before_mark (dollar_mark c.args.first c.args.dollars c.args.last) in
    goes_to_end mark mark c.args.bytes.now c.args.from c.firsts.at c.byte_until-at.result _ c.firsts.invariant
    (mark_ends c.args.first (replicate c.args.dollars 36 ++ c.args.last ∷ []) c.args.bytes.now c.firsts.at c.byte_until-at.result c.byte_until-at.ensures (omega (arith, c.byte_until-at.ensures.high)) (rw (c.in-Whole.is, c.rest_of.ensures) at c.compare.ensures))

pub returns-in-Front : goal.returns-in-Front
returns-in-Front c =
    let mark = before_mark (dollar_mark c.args.first c.args.dollars c.args.last) in
    let r = mark_may c.args.first (replicate c.args.dollars 36 ++ c.args.last ∷ []) c.args.bytes.now c.firsts.at c.byte_until-at.result c.byte_until-at.ensures (omega (arith, c.byte_until-at.ensures.high)) (rw (c.in-Front.is, c.rest_of.ensures) at c.compare.ensures) in
    (goes_further mark mark mark c.args.bytes.now c.args.from c.firsts.at c.byte_until-at.result c.firsts.invariant r.0, r.1)

pub firsts-preserved : goal.firsts-preserved
firsts-preserved c =
    let mark = before_mark (dollar_mark c.args.first c.args.dollars c.args.last) in
    let neither = rw (c.in-Neither.is, c.rest_of.ensures) at c.compare.ensures in
    goes_further mark mark mark c.args.bytes.now c.args.from c.firsts.at _ c.firsts.invariant
    (mark_not c.args.first (replicate c.args.dollars 36 ++ c.args.last ∷ []) c.args.bytes.now c.firsts.at c.byte_until-at.result c.byte_until-at.ensures (omega (arith, c.byte_until-at.ensures.high)) neither.0 neither.1)
