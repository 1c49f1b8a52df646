use Rattle.std.proofs.Common.{◌≡◌, arith, sym, ap, ◌∙◌, Some, inl, inr}
use Rattle.splitter_forms.specs.Pieces.{begun_size, last}
use Rattle.statement_splitter.specs.State.{unread_at}
use Rattle.statement_splitter.proofs.Places.{given}
use Rattle.statement_splitter.proofs.Wholes.{onward_now, gives_now, last_after, last_same, last_unended, last_waiting, last_none}
use Rattle.statement_splitter.proofs.place.begun_from.Goals as goal

pub pieces-smaller : goal.pieces-smaller
pieces-smaller c =
    let finds = rw c.in-Ended.is at c.find.ensures in
    let over = given c.args.bytes.now c.find.new.place c.after_statement-now.result c.in-Ended.size finds.place finds.stands c.after_statement-now.ensures in
    omega (arith, finds.low, over.further, over.place.inside)

pub pieces-preserved : goal.pieces-preserved
pieces-preserved c =
    let finds = rw c.in-Ended.is at c.find.ensures in
    let over = given c.args.bytes.now c.find.new.place c.after_statement-now.result c.in-Ended.size finds.place finds.stands c.after_statement-now.ensures in
    let old = unread_at c.args.bytes.now c.pieces.now in
    let there = unread_at c.args.bytes.now c.find.new.place in
    let new = unread_at c.args.bytes.now c.after_statement-now.result in
    record {
      same = c.pieces.invariant.same ∙ last_same old there (onward_now old there finds.onward) ∙ last_after there new _ (gives_now there new _ over.gives);
      place = over.place;
    }

pub returns-in-Unended : goal.returns-in-Unended
returns-in-Unended c =
    let old = unread_at c.args.bytes.now c.pieces.now in
    let there = unread_at c.args.bytes.now c.find.new.place in
    let same = c.pieces.invariant.same ∙ last_same old there (onward_now old there c.find.ensures.onward) in
    let here : begun_size (last there) ≡ Some c.find.new.place.offset =
    elim c.in-Unended.is [
      | inl is ↦ last_unended there (rw is at c.find.ensures).stands.0
      | inr is ↦ last_waiting there (rw is at c.find.ensures).stands.0
    ] in
    sym (ap begun_size same ∙ here)

pub returns-in-Nothing : goal.returns-in-Nothing
returns-in-Nothing c =
    let finds = rw c.in-Nothing.is at c.find.ensures in
    let old = unread_at c.args.bytes.now c.pieces.now in
    let there = unread_at c.args.bytes.now c.find.new.place in
    sym (ap begun_size (c.pieces.invariant.same ∙ last_same old there (onward_now old there finds.onward)) ∙ last_none there finds.stands)
