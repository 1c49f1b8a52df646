use Rattle.std.proofs.Common.{arith, ◌∙◌}
use Rattle.std.proofs.lemmas.Slice.{take-put_mid}
use Rattle.my_packets.proofs.Skimming.{filled}
use Rattle.my_packets.proofs.skim.fill.Goals as goal

pub returns-clause-filled : goal.returns-clause-filled
returns-clause-filled c =
    let place = c.args.place.now in
    let piece = c.args.piece.now in
    let ys = c.copy_from_slice.new.self in
    take-put_mid c.args.size _ place ys _ (omega (arith, c.copy_from_slice.ensures.len)) (omega arith)
    ∙ filled place piece ys c.args.size c.min-count.result (omega arith) c.min-count.ensures c.copy_from_slice.ensures.after
