use Rattle.std.proofs.Common.{arith, subst, refl}
use Rattle.std.proofs.lemmas.Grind.{common_steps}
use Rattle.my_session.proofs.Skimming.{skims_piece, spoils_piece}
use Rattle.my_session.specs.Receiving.{Spoils, skimmer_at}
use Rattle.my_session.proofs.receiving.skim_piece.Goals as goal

pub returns-in-Ok-feed-clause-ok : goal.returns-in-Ok-feed-clause-ok
returns-in-Ok-feed-clause-ok g c =
    let some = c.in-Ok.ensures.within.some in
    let fits = c.in-Ok.ensures.within.fits in
    skims_piece g.L.Link c.args.link.now c.recv.new.self _ c.args.skim.now c.feed.new.self c.in-Ok-feed.field-0 c.args.taken.now c.in-Ok.count c.recv.new.buffer _ c.in-Ok.ensures.received c.in-Ok.ensures.served c.in-Ok-feed.ensures some (grind (arith, common_steps))

pub returns-in-Err-BadSequence-clause-err : goal.returns-in-Err-BadSequence-clause-err
returns-in-Err-BadSequence-clause-err g c =
    let fits = c.in-Ok.ensures.within.fits in
    let room = c.room-room.ensures.within in
    record {
      place_is = refl;
      found = c.in-Err-BadSequence.field-0-0;
      wanted = c.in-Err-BadSequence.field-0-1;
      spoils = subst (Spoils g.L.Link (skimmer_at c.args.link.now c.args.skim.now c.args.taken.now) c.recv.new.self) c.in-Err-BadSequence.field-0-is
          (spoils_piece g.L.Link c.args.link.now c.recv.new.self _ c.args.skim.now c.feed.new.self c.in-Err-BadSequence.field-0 c.args.taken.now c.in-Ok.count c.recv.new.buffer _ c.in-Ok.ensures.received c.in-Ok.ensures.served c.in-Err-BadSequence.ensures (grind (arith, common_steps)) (grind (arith, common_steps)));
    }

pub returns-in-Err-TooLong-clause-err : goal.returns-in-Err-TooLong-clause-err
returns-in-Err-TooLong-clause-err g c =
    let fits = c.in-Ok.ensures.within.fits in
    let room = c.room-room.ensures.within in
    subst (Spoils g.L.Link (skimmer_at c.args.link.now c.args.skim.now c.args.taken.now) c.recv.new.self) c.in-Err-TooLong.field-0-is
    (spoils_piece g.L.Link c.args.link.now c.recv.new.self _ c.args.skim.now c.feed.new.self c.in-Err-TooLong.field-0 c.args.taken.now c.in-Ok.count c.recv.new.buffer _ c.in-Ok.ensures.received c.in-Ok.ensures.served c.in-Err-TooLong.ensures (grind (arith, common_steps)) (grind (arith, common_steps)))
