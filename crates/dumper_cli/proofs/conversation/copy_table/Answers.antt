use Rattle.std.proofs.Common.{[], rules}
use Rattle.dumper_cli.specs.Stage.{awaits_rows, is_over}
use Rattle.dumper_cli.proofs.Over.{Reached-stands, Broke-at}
use Rattle.dumper_cli.proofs.Reaching.{Rose-later, halted_memory}
use Rattle.dumper_cli.proofs.conversation.copy_table.Goals as goal

pub returns-in-Err-clause-err : goal.returns-in-Err-clause-err
returns-in-Err-clause-err g c = λ asked start at. halted_memory g.L.Link asked (awaits_rows c.args.session.now.pending.reading c.args.columns.now []) start c.args.session.now at

pub returns-in-Err-copy_rows-clause-err : goal.returns-in-Err-copy_rows-clause-err
returns-in-Err-copy_rows-clause-err g c = λ asked start at.
    Broke-at g.L.Link g.S.Shelf asked start c.in-Ok.file.shelf c.args.shelf c.copy_rows.new.file.shelf c.into_shelf.result c.copy_rows.new.session.link c.in-Err-copy_rows.fault c.in-Ok.ensures.shelf c.into_shelf.ensures.shelf (c.in-Err-copy_rows.ensures.err asked start at)

pub returns-in-Ok-ended-clause-ok : goal.returns-in-Ok-ended-clause-ok
returns-in-Ok-ended-clause-ok g c =
    let copied = c.in_default.ensures.ok in
    let made = rw c.in-Ok-ended.is at c.end-shelf.ensures.ok in
    record {
      rows = copied.rows;
      reached = copied.reached;
      made = λ t. made c.args.words.now.schema.now c.args.words.now.table.now c.args.columns.now copied.rows (copied.writes c.args.words.now.schema.now c.args.words.now.table.now c.in-Ok.ensures.ok) (c.in_default.ensures.keeps_file.tells.0 (rw c.in-Ok.ensures.shelf t));
    }

pub returns-in-Err-File-clause-err : goal.returns-in-Err-File-clause-err
returns-in-Err-File-clause-err g c =
    let copied = c.in_default.ensures.ok in
    λ asked start at. (
      Reached-stands g.L.Link asked (is_over c.args.columns.now copied.rows) start c.copy_rows.new.session (copied.reached asked start at),
      rw (← c.in-Ok.ensures.shelf) (Rose-later _ _ _ c.in_default.ensures.keeps_file.later (c.end-shelf.ensures.cause (let is = c.in-Err-File.is in let was = c.in-Err-File.field-0-is in search rules))),
    )

pub returns-in-Err-ended-clause-err : goal.returns-in-Err-ended-clause-err
returns-in-Err-ended-clause-err g c =
    let copied = c.in_default.ensures.ok in
    λ asked start at. halted_memory g.L.Link asked (is_over c.args.columns.now copied.rows) start c.copy_rows.new.session (copied.reached asked start at)
