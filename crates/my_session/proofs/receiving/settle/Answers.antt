use Rattle.my_session.proofs.Receipts.{settled_waits_not}
use Rattle.my_session.proofs.receiving.settle.Goals as goal

pub unreachable-requires : goal.unreachable-requires
unreachable-requires c = settled_waits_not c.args.frames.now c.step.new.self c.in-Ok-false.field-0 c.requires.settled c.in-Ok-false.field-0-test c.in-Ok-false.ensures
