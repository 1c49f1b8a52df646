use Rattle.std.proofs.Common.{◌≡◌, ◌<◌, ℕ, length, refl, sym, subst, arith}
use Rattle.std.proofs.lemmas.Bool.Decides.{nat_tests}
use Rattle.std.proofs.lemmas.Grind.{common_steps}
use Rattle.my_session.specs.declared.fault.SessionFault.TheVariants.{Garbled}
use Rattle.dumper_cli.specs.Run.{Halted}
use Rattle.dumper_cli.specs.Stage.{awaits_columns}
use Rattle.dumper_cli.proofs.NextRows.{nexts_keeps, nexts_column, nexts_no_column, nexts_columns_end, nexts_no_columns, nexts_halt}
use Rattle.dumper_cli.proofs.columns.next_column.Goals as goal

pub returns-in-Ok-clause-keeps : goal.returns-in-Ok-clause-keeps
returns-in-Ok-clause-keeps g c = nexts_keeps g.L.Link g.met.L.Link.origins_join c.args.session.now c.next_row.follows.lender-at-none c.next_row.result c.next_row.follows.holds-at-none

pub returns-in-Ok-clause-ok : goal.returns-in-Ok-clause-ok
returns-in-Ok-clause-ok g c =
    let next = rw (c.in-Ok-Some.is, c.in-Ok-Some.field-0-is) at c.next_row.follows.holds-at-none in
    nexts_column g.L.Link g.met.L.Link.origins_join c.args.session.now c.next_row.follows.lender-at-none c.requires.rows c.in-Ok-Some.row next c.args.columns.now c.add_column.new.columns c.in-Ok.ensures.ok

pub returns-in-Err-add_column-clause-keeps : goal.returns-in-Err-add_column-clause-keeps
returns-in-Err-add_column-clause-keeps g c = nexts_keeps g.L.Link g.met.L.Link.origins_join c.args.session.now c.next_row.follows.lender-at-none c.next_row.result c.next_row.follows.holds-at-none

pub returns-in-Err-add_column-clause-err : goal.returns-in-Err-add_column-clause-err
returns-in-Err-add_column-clause-err g c = λ asked start at.
    let next = rw (c.in-Ok-Some.is, c.in-Ok-Some.field-0-is) at c.next_row.follows.holds-at-none in
    nexts_no_column g.L.Link g.met.L.Link.origins_join c.args.session.now c.next_row.follows.lender-at-none c.requires.rows c.in-Ok-Some.row next c.args.columns.now c.in-Err-add_column.fault c.in-Err-add_column.ensures.err asked start at

pub returns-else-is_empty-clause-keeps : goal.returns-else-is_empty-clause-keeps
returns-else-is_empty-clause-keeps g c = nexts_keeps g.L.Link g.met.L.Link.origins_join c.args.session.now c.next_row.follows.lender-at-none c.next_row.result c.next_row.follows.holds-at-none

pub returns-else-is_empty-clause-ok : goal.returns-else-is_empty-clause-ok
returns-else-is_empty-clause-ok g c =
    let next = rw (c.in-Ok-None.is, c.in-Ok-None.field-0-is) at c.next_row.follows.holds-at-none in
    let some : 0 < length c.args.columns.now = grind (arith, nat_tests, common_steps) in
    nexts_columns_end g.L.Link g.met.L.Link.origins_join c.args.session.now c.next_row.follows.lender-at-none c.requires.rows next c.args.columns.now some

pub returns-then-is_empty-clause-keeps : goal.returns-then-is_empty-clause-keeps
returns-then-is_empty-clause-keeps g c = nexts_keeps g.L.Link g.met.L.Link.origins_join c.args.session.now c.next_row.follows.lender-at-none c.next_row.result c.next_row.follows.holds-at-none

pub returns-then-is_empty-clause-err : goal.returns-then-is_empty-clause-err
returns-then-is_empty-clause-err g c = λ asked start at.
    let next = rw (c.in-Ok-None.is, c.in-Ok-None.field-0-is) at c.next_row.follows.holds-at-none in
    let none : length c.args.columns.now ≡ 0 = grind (arith, nat_tests, common_steps) in
    subst (λ (p : ℕ). Halted g.L.Link asked start c.next_row.follows.lender-at-none.link (Garbled p)) (sym c.place-place.ensures)
    (nexts_no_columns g.L.Link g.met.L.Link.origins_join c.args.session.now c.next_row.follows.lender-at-none c.requires.rows next c.args.columns.now none asked start at)

pub returns-in-Err-clause-keeps : goal.returns-in-Err-clause-keeps
returns-in-Err-clause-keeps g c = nexts_keeps g.L.Link g.met.L.Link.origins_join c.args.session.now c.next_row.follows.lender-at-none c.next_row.result c.next_row.follows.holds-at-none

pub returns-in-Err-clause-err : goal.returns-in-Err-clause-err
returns-in-Err-clause-err g c = λ asked start at.
    let next = rw c.in-Err.is at c.next_row.follows.holds-at-none in
    nexts_halt g.L.Link g.met.L.Link.origins_join c.args.session.now c.next_row.follows.lender-at-none c.requires.rows c.in-Err.fault next asked start (awaits_columns c.args.session.now.pending.reading c.args.columns.now) refl at
