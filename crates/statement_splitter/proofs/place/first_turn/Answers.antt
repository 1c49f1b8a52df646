use Rattle.std.proofs.Common.{drop, refl, sym, ◌∙◌, arith, true, length-drop}
use Rattle.splitter_forms.specs.Pieces.{ends_line}
use Rattle.statement_splitter.specs.State.{unread_at}
use Rattle.statement_splitter.proofs.Places.{over, comment_begun, statement_begun, nothing_here, waiting_here, comment_bare, white_over, line_over, line_room}
use Rattle.statement_splitter.proofs.Waits.{undecided_settles}
use Rattle.statement_splitter.proofs.place.first_turn.Goals as goal

pub comment_turn-requires-clause-comment : goal.comment_turn-requires-clause-comment
comment_turn-requires-clause-comment c =
    let opens = sym (rw c.rest_of-rest.ensures at c.opening_of.ensures) ∙ c.in-Comment.is in
    comment_begun (unread_at c.args.bytes.now c.args.place.now) c.in-Comment.size c.in-Comment.field-1 opens (rw c.rest_of-rest.ensures at c.if-size-rest.false)

pub after-requires-in-DelimiterLine-clause-at : goal.after-requires-in-DelimiterLine-clause-at
after-requires-in-DelimiterLine-clause-at c =
    let place = c.args.place.now in
    let opens = sym (rw c.rest_of-rest.ensures at c.opening_of.ensures) ∙ c.in-DelimiterLine.is in
    let room = line_room (unread_at c.args.bytes.now place) c.in-DelimiterLine.size c.in-DelimiterLine.ending opens in
    omega (arith, room.1, length-drop place.at c.args.bytes.now)

pub after-requires-in-DelimiterLine-clause-offset : goal.after-requires-in-DelimiterLine-clause-offset
after-requires-in-DelimiterLine-clause-offset c =
    let place = c.args.place.now in
    let opens = sym (rw c.rest_of-rest.ensures at c.opening_of.ensures) ∙ c.in-DelimiterLine.is in
    let room = line_room (unread_at c.args.bytes.now place) c.in-DelimiterLine.size c.in-DelimiterLine.ending opens in
    omega (arith, room.1, length-drop place.at c.args.bytes.now)

pub statement_turn-requires-clause-statement : goal.statement_turn-requires-clause-statement
statement_turn-requires-clause-statement c =
    statement_begun (unread_at c.args.bytes.now c.args.place.now) (sym (rw c.rest_of-rest.ensures at c.opening_of.ensures) ∙ c.in-Statement.is)

pub returns-in-Nothing : goal.returns-in-Nothing
returns-in-Nothing c =
    (refl, refl, c.requires, nothing_here (unread_at c.args.bytes.now c.args.place.now) (sym (rw c.rest_of-rest.ensures at c.opening_of.ensures) ∙ c.in-Nothing.is))

pub returns-in-White : goal.returns-in-White
returns-in-White c =
    let place = c.args.place.now in
    let opens = sym (rw c.rest_of-rest.ensures at c.opening_of.ensures) ∙ c.in-White.is in
    over c.args.bytes.now place c.after.result 1 (ends_line 1 (drop place.at c.args.bytes.now)) place.ending
    (white_over c.args.bytes.now place c.requires opens)
    (rw c.rest_of-rest.ensures at c.after.ensures)

pub returns-in-Comment : goal.returns-in-Comment
returns-in-Comment c =
    let opens = sym (rw c.rest_of-rest.ensures at c.opening_of.ensures) ∙ c.in-Comment.is in
    (refl, refl, c.requires, comment_bare (unread_at c.args.bytes.now c.args.place.now) c.in-Comment.size c.in-Comment.field-1 opens (rw c.rest_of-rest.ensures at c.if-size-rest.true))

pub returns-in-DelimiterLine : goal.returns-in-DelimiterLine
returns-in-DelimiterLine c =
    let place = c.args.place.now in
    let opens = sym (rw c.rest_of-rest.ensures at c.opening_of.ensures) ∙ c.in-DelimiterLine.is in
    over c.args.bytes.now place c.after-in-DelimiterLine.result c.in-DelimiterLine.size true c.in-DelimiterLine.ending
    (line_over c.args.bytes.now place c.in-DelimiterLine.size c.in-DelimiterLine.ending c.requires opens)
    c.after-in-DelimiterLine.ensures

pub returns-in-Undecided : goal.returns-in-Undecided
returns-in-Undecided c =
    let u = unread_at c.args.bytes.now c.args.place.now in
    let opens = sym (rw c.rest_of-rest.ensures at c.opening_of.ensures) ∙ c.in-Undecided.is in
    (refl, refl, c.requires, (waiting_here u opens, undecided_settles u opens))
