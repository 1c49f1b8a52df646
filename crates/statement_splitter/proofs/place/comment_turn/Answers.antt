use Rattle.std.proofs.Common.{◌+◌, length, drop, refl}
use Rattle.splitter_forms.specs.Pieces.{mark_of, ends_line}
use Rattle.statement_splitter.specs.State.{unread_at}
use Rattle.statement_splitter.proofs.Nexts.{comment_on, comment_open}
use Rattle.statement_splitter.proofs.Places.{over, comment_passed, comment_known}
use Rattle.statement_splitter.proofs.place.comment_turn.Goals as goal

pub returns-in-Ended : goal.returns-in-Ended
returns-in-Ended c =
    let place = c.args.place.now in
    let size = c.in-Ended.to + length (mark_of c.args.end) in
    let ends = rw (c.in-Ended.is, c.rest_of-rest.ensures) at c.comment_end_from.ensures in
    over c.args.bytes.now place c.after.result size (ends_line size (drop place.at c.args.bytes.now)) place.ending
    (comment_passed c.args.bytes.now place c.args.from c.in-Ended.to c.args.end c.requires.place c.requires.comment ends)
    (rw (c.mark_size.ensures, c.rest_of-rest.ensures) at c.after.ensures)

pub returns-in-Open : goal.returns-in-Open
returns-in-Open c =
    let u = unread_at c.args.bytes.now c.args.place.now in
    let found = rw (c.in-Open.is, c.rest_of-rest.ensures) at c.comment_end_from.ensures in
    let comment = comment_on u c.args.from c.in-Open.to (mark_of c.args.end) c.requires.comment found.0 in
    (refl, refl, comment_known c.args.bytes.now c.args.place.now c.in-Open.to c.args.end c.requires.place comment, comment_open u c.in-Open.to (mark_of c.args.end) comment found.1)
