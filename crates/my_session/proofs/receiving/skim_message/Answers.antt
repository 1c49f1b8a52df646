use Rattle.std.proofs.Common.{arith, sym, ◌∙◌}
use Rattle.my_session.specs.Fault.{session_fault}
use Rattle.my_session.proofs.Skimming.{drains_more, drained_waits, drained_size, drained_to, drained_none}
use Rattle.my_session.proofs.Staying.{keeps_err_on}
use Rattle.my_session.proofs.receiving.skim_message.Goals as goal

pub returns-then-wants-eq0-clause-size : goal.returns-then-wants-eq0-clause-size
returns-then-wants-eq0-clause-size g c =
    drained_size g.L.Link c.args.link.now c.pieces.link c.args.id c.args.taken.now c.pieces.taken c.pieces.skim c.pieces.invariant.drains c.pieces.invariant.within (sym c.wants-wants.ensures.value ∙ c.if-wants-eq0.true)

pub returns-then-wants-eq0-clause-ok : goal.returns-then-wants-eq0-clause-ok
returns-then-wants-eq0-clause-ok g c =
    drained_to g.L.Link c.args.link.now c.pieces.link c.args.id c.args.taken.now c.pieces.taken c.pieces.skim c.pieces.invariant.drains c.pieces.invariant.within (sym c.wants-wants.ensures.value ∙ c.if-wants-eq0.true)

pub returns-in-Err-clause-err : goal.returns-in-Err-clause-err
returns-in-Err-clause-err g c = λ now.
    let is = c.in-Err.ensures in
    drained_none g.L.Link c.args.link.now c.pieces.link c.args.id c.args.taken.now c.pieces.taken c.pieces.skim c.pieces.invariant.drains c.pieces.invariant.within c.skim_piece.new.link (session_fault c.in-Err.fault) c.wants-wants.result c.skim_piece.new.taken now (omega arith) (c.wants-wants.ensures.wants c.args.id 67108864 c.pieces.invariant.drains.fed c.pieces.invariant.drains.skims) is.same is.err

pub pieces-preserved : goal.pieces-preserved
pieces-preserved g c =
    let is = c.in_default.ensures in
    record {
      drains = drains_more g.L.Link c.args.link.now c.pieces.link c.args.id c.args.taken.now c.pieces.taken c.pieces.skim c.pieces.invariant.drains g.met.L.Link.origins_join c.skim_piece.new.link c.skim_piece.new.skim c.skim_piece.new.taken is.keeps.tells is.keeps.counted.later is.same.sent is.keeps.stays is.ok;
      within = is.still.within;
    }

pub skim_piece-requires-clause-may : goal.skim_piece-requires-clause-may
skim_piece-requires-clause-may g c = record {
  within = c.pieces.invariant.within;
  waits = drained_waits g.L.Link c.args.link.now c.pieces.link c.args.id c.args.taken.now c.pieces.taken c.pieces.skim c.pieces.invariant.drains c.wants-wants.result c.requires.waits (omega arith) (c.wants-wants.ensures.wants c.args.id 67108864 c.pieces.invariant.drains.fed c.pieces.invariant.drains.skims);
}

pub returns-in-Err-clause-keeps : goal.returns-in-Err-clause-keeps
returns-in-Err-clause-keeps g c =
    let is = c.pieces.invariant.drains in
    keeps_err_on g.L.Link g.met.L.Link.origins_join (session_fault c.in-Err.fault) c.args.link.now c.pieces.link c.skim_piece.new.link is.stays is.tells is.later c.in-Err.ensures.keeps
