use Rattle.std.proofs.Common.{refl}
use Rattle.dumper_cli.specs.Stage.{awaits_rows}
use Rattle.dumper_cli.specs.Taking.{unadded_fault}
use Rattle.dumper_cli.proofs.NextRows.{nexts_keeps, nexts_row, nexts_no_row, nexts_rows_end, nexts_halt}
use Rattle.dumper_cli.proofs.Reaching.{Keeps-then}
use Rattle.dumper_cli.proofs.RowsSoFar.{SoFar-more, Copied-ended, KeepsFile-then, Broke-later}
use Rattle.dumper_cli.proofs.copy.copy_rows.Goals as goal

pub rows-preserved : goal.rows-preserved
rows-preserved g c =
    let here = c.rows.invariant in
    let session = c.next_row.follows.lender-at-none in
    let next = rw (c.in-Ok-Some.is, c.in-Ok-Some.field-0-is) at c.next_row.follows.holds-at-none in
    let more = nexts_row g.L.Link g.met.L.Link.origins_join c.rows.session session here.has_rows c.in-Ok-Some.row next g.S.Shelf c.args.columns.now c.rows.file c.write_row.new.file c.in-Ok.ensures.ok in
    record {
      has_rows = more.has_rows;
      keeps =
          Keeps-then g.L.Link c.args.session.now c.rows.session session here.keeps
          (nexts_keeps g.L.Link g.met.L.Link.origins_join c.rows.session session c.next_row.result c.next_row.follows.holds-at-none);
      keeps_file = KeepsFile-then g.L.Link g.S.Shelf c.args.file.now c.rows.file c.write_row.new.file here.keeps_file c.in-Ok.ensures.keeps;
      so_far = SoFar-more g.L.Link g.S.Shelf c.args.columns.now c.args.session.now c.args.file.now c.rows.session c.rows.file session c.write_row.new.file here.so_far more;
    }

pub returns-in-Err-write_row-clause-err : goal.returns-in-Err-write_row-clause-err
returns-in-Err-write_row-clause-err g c = λ asked start at.
    let here = c.rows.invariant in
    let session = c.next_row.follows.lender-at-none in
    let next = rw (c.in-Ok-Some.is, c.in-Ok-Some.field-0-is) at c.next_row.follows.holds-at-none in
    rw c.unadded_fault.ensures (
    Broke-later g.L.Link g.S.Shelf asked start c.args.file.now.shelf c.rows.file.shelf c.write_row.new.file.shelf session.link (unadded_fault c.in-Err-write_row.unadded) here.keeps_file.later
    (nexts_no_row g.L.Link g.met.L.Link.origins_join c.rows.session session here.has_rows c.in-Ok-Some.row next g.S.Shelf c.args.columns.now c.rows.file c.write_row.new.file (unadded_fault c.in-Err-write_row.unadded) c.in-Err-write_row.ensures.err asked here.so_far.rows start (here.so_far.reached asked start at)))

pub returns-in-Ok-None-clause-ok : goal.returns-in-Ok-None-clause-ok
returns-in-Ok-None-clause-ok g c =
    let here = c.rows.invariant in
    let next = rw (c.in-Ok-None.is, c.in-Ok-None.field-0-is) at c.next_row.follows.holds-at-none in
    Copied-ended g.L.Link g.S.Shelf c.args.columns.now c.args.session.now c.args.file.now c.rows.session c.rows.file c.next_row.follows.lender-at-none c.rows.file here.so_far
    (nexts_rows_end g.L.Link g.met.L.Link.origins_join c.rows.session c.next_row.follows.lender-at-none here.has_rows next g.S.Shelf c.args.columns.now c.rows.file)

pub returns-in-Err-clause-err : goal.returns-in-Err-clause-err
returns-in-Err-clause-err g c = λ asked start at.
    let here = c.rows.invariant in
    let next = rw c.in-Err.is at c.next_row.follows.holds-at-none in
    nexts_halt g.L.Link g.met.L.Link.origins_join c.rows.session c.next_row.follows.lender-at-none here.has_rows c.in-Err.fault next asked start (awaits_rows c.rows.session.pending.reading c.args.columns.now here.so_far.rows) refl (here.so_far.reached asked start at)
