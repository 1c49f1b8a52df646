use Rattle.std.proofs.Common.{◌<◌, ◌+◌, length, arith, sym, subst, ◌∙◌}
use Rattle.splitter_forms.specs.Scan.{before_semicolon}
use Rattle.statement_splitter.specs.State.{GoesOn}
use Rattle.statement_splitter.proofs.Searches.{goes_further, goes_to_end, plain_goes, semicolon_here, semicolon_step}
use Rattle.statement_splitter.proofs.scan.semicolon_from.Goals as goal

pub returns-then-at-bytes : goal.returns-then-at-bytes
returns-then-at-bytes c =
    (goes_further (before_semicolon c.args.within) (before_semicolon c.bytes.within) (before_semicolon c.bytes.within) c.args.bytes.now c.args.from c.bytes.at c.plain_until-at.result c.bytes.invariant (plain_goes c.bytes.within c.args.bytes.now c.bytes.at c.plain_until-at.result c.plain_until-at.ensures), c.if-at-bytes.true)

pub returns-then-is_end : goal.returns-then-is_end
returns-then-is_end c =
    let at = c.plain_until-at.result in
    let inside : at < length c.args.bytes.now = omega (arith, c.plain_until-at.ensures.high) in
    goes_to_end (before_semicolon c.args.within) (before_semicolon c.bytes.within) c.args.bytes.now c.args.from c.bytes.at at 1 c.bytes.invariant
    (goes_to_end (before_semicolon c.bytes.within) (before_semicolon c.bytes.within) c.args.bytes.now c.bytes.at at at 1 (plain_goes c.bytes.within c.args.bytes.now c.bytes.at at c.plain_until-at.ensures)
    (semicolon_here c.bytes.within c.args.bytes.now at inside (sym c.is_end.ensures ∙ c.if-is_end.true)))

pub bytes-preserved : goal.bytes-preserved
bytes-preserved c =
    let at = c.plain_until-at.result in
    let inside : at < length c.args.bytes.now = omega (arith, c.plain_until-at.ensures.high) in
    let step = semicolon_step c.bytes.within c.args.bytes.now at inside (sym c.is_end.ensures ∙ c.if-is_end.false) in
    goes_further (before_semicolon c.args.within) (before_semicolon c.bytes.within) (before_semicolon c.after_byte-within.result) c.args.bytes.now c.args.from c.bytes.at (at + 1) c.bytes.invariant
    (goes_further (before_semicolon c.bytes.within) (before_semicolon c.bytes.within) (before_semicolon c.after_byte-within.result) c.args.bytes.now c.bytes.at at (at + 1) (plain_goes c.bytes.within c.args.bytes.now c.bytes.at at c.plain_until-at.ensures)
    (subst (λ after. GoesOn (before_semicolon c.bytes.within) (before_semicolon after) c.args.bytes.now at (at + 1)) (sym c.after_byte-within.ensures) step))
