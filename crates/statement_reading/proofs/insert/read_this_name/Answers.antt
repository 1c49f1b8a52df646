use Rattle.std.proofs.Common.{arith, ◌≡◌, Err}
use Rattle.std.proofs.lemmas.Grind.{common_steps}
use Rattle.statement_reading.proofs.InsertReads.{fixed_refused_first, name_rest, name_begun, name_more, name_stuck, name_end}
use Rattle.statement_reading.proofs.insert.read_this_name.Goals as goal

pub returns-in_err-at : goal.returns-in_err-at
returns-in_err-at c =
    let is : c.from_residual.result ≡ Err c.in_err-at.field-0.0 = grind (arith, common_steps) in
    rw is (fixed_refused_first _ (name_rest c.args.name.now 0) _ _ c.in_err-at.ensures)

pub loop-byte-init : goal.loop-byte-init
loop-byte-init c = name_begun c.args.name.now _ _ c.in_ok-at.ensures

pub loop-byte-preserved : goal.loop-byte-preserved
loop-byte-preserved c = name_more c.args.name.now c.args.bytes.now c.loop-byte.byte-index 0 _ _ (omega arith) c.loop-byte.invariant c.in-Ok.ensures

pub returns-in-Err : goal.returns-in-Err
returns-in-Err c = name_stuck c.args.name.now c.args.bytes.now c.loop-byte.byte-index 0 _ _ (omega arith) c.loop-byte.invariant c.in-Err.ensures

pub returns : goal.returns
returns c = name_end c.args.name.now c.args.bytes.now c.loop-byte.byte-index _ _ _ (omega arith) c.loop-byte.invariant c.read_fixed-2.ensures c.after.ensures
