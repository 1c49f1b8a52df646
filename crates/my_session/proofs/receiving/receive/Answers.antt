use Rattle.std.proofs.Common.{arith}
use Rattle.std.proofs.lemmas.Result.{IfOk-weaker, IfErr-weaker}
use Rattle.my_session.specs.Fault.{session_fault, session_result}
use Rattle.my_session.proofs.Receipts.{gathers_none, gathers_more, gathered_waits, gathered_reader, gathered_all, gathered_next, gathered_none, fetched_none, settled_keeps}
use Rattle.my_session.proofs.Staying.{keeps_err_on}
use Rattle.my_session.proofs.receiving.receive.Goals as goal

pub pieces-init : goal.pieces-init
pieces-init g c = record { gathers = gathers_none g.L.Link g.met.L.Link.origin_begins c.args.link.now c.args.frames.now c.args.taken.now c.requires.empty; within = c.requires.reader.within }

pub returns-then-wants-eq0-clause-reader : goal.returns-then-wants-eq0-clause-reader
returns-then-wants-eq0-clause-reader g c =
    gathered_reader g.L.Link c.args.link.now c.pieces.link c.args.frames.now c.pieces.frames c.args.taken.now c.pieces.taken c.pieces.invariant.gathers c.requires.reader.limit c.pieces.invariant.within _ c.settle.result c.settle.new.frames c.settle.ensures.ok c.settle.ensures.same c.requires.reader

pub returns-then-wants-eq0-clause-empty : goal.returns-then-wants-eq0-clause-empty
returns-then-wants-eq0-clause-empty g c =
    IfOk-weaker c.settle.result _ _ (λ done passes. gathered_all g.L.Link c.args.link.now c.pieces.link c.args.frames.now c.pieces.frames c.args.taken.now c.pieces.taken c.pieces.invariant.gathers c.requires.reader.limit c.pieces.invariant.within c.settle.new.frames passes) c.settle.ensures.ok

pub returns-then-wants-eq0-clause-ok : goal.returns-then-wants-eq0-clause-ok
returns-then-wants-eq0-clause-ok g c =
    IfOk-weaker c.settle.result _ _ (λ done passes. gathered_next g.L.Link c.args.link.now c.pieces.link c.args.frames.now c.pieces.frames c.args.taken.now c.pieces.taken c.pieces.invariant.gathers c.requires.reader.limit c.pieces.invariant.within c.settle.new.frames passes) c.settle.ensures.ok

pub returns-then-wants-eq0-clause-err : goal.returns-then-wants-eq0-clause-err
returns-then-wants-eq0-clause-err g c =
    IfErr-weaker (session_result c.settle.result) _ _ (λ fault why. gathered_none g.L.Link c.args.link.now c.pieces.link c.args.frames.now c.pieces.frames c.args.taken.now c.pieces.taken c.pieces.invariant.gathers c.requires.reader.limit c.pieces.invariant.within fault c.settle.new.frames.id why) c.settle.ensures.err

pub returns-in-Err-clause-err : goal.returns-in-Err-clause-err
returns-in-Err-clause-err g c =
    let is = c.in-Err.ensures in
    fetched_none g.L.Link c.args.link.now c.pieces.link c.args.frames.now c.pieces.frames c.args.taken.now c.pieces.taken c.pieces.invariant.gathers c.requires.reader.limit c.pieces.invariant.within (session_fault c.in-Err.fault) c.wants-wants.result c.fetch.new.frames.id c.fetch.new.taken c.fetch.new.link (omega arith) c.wants-wants.ensures is.stays.same is.err

pub pieces-preserved : goal.pieces-preserved
pieces-preserved g c =
    let is = c.in_default.ensures in
    record {
      gathers = gathers_more g.L.Link g.met.L.Link.origins_join c.args.link.now c.pieces.link c.fetch.new.link c.args.frames.now c.pieces.frames c.fetch.new.frames c.wants-wants.result c.args.taken.now c.pieces.taken c.fetch.new.taken c.pieces.invariant.gathers (omega arith) c.wants-wants.ensures is.keeps.tells is.keeps.counted.later is.stays.same.sent is.keeps.stays is.ok;
      within = is.stays.still.within;
    }

pub fetch-requires-clause-may : goal.fetch-requires-clause-may
fetch-requires-clause-may g c = record {
  within = c.pieces.invariant.within;
  waits = gathered_waits g.L.Link c.args.link.now c.pieces.link c.args.frames.now c.pieces.frames c.args.taken.now c.pieces.taken c.wants-wants.result c.pieces.invariant.gathers c.requires.waits (omega arith) c.wants-wants.ensures;
}

pub returns-then-wants-eq0-clause-keeps : goal.returns-then-wants-eq0-clause-keeps
returns-then-wants-eq0-clause-keeps g c =
    settled_keeps g.L.Link c.args.link.now c.pieces.link c.args.frames.now c.pieces.frames c.args.taken.now c.pieces.taken c.pieces.invariant.gathers c.requires.reader.limit c.pieces.invariant.within (session_result c.settle.result) c.settle.ensures.err

pub returns-in-Err-clause-keeps : goal.returns-in-Err-clause-keeps
returns-in-Err-clause-keeps g c =
    let is = c.pieces.invariant.gathers in
    keeps_err_on g.L.Link g.met.L.Link.origins_join (session_fault c.in-Err.fault) c.args.link.now c.pieces.link c.fetch.new.link is.stays is.tells is.later c.in-Err.ensures.keeps
