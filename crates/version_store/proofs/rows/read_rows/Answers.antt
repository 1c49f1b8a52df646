use Rattle.std.proofs.Common.{◌≡◌}
use Rattle.version_store.specs.Key.{cell_place}
use Rattle.version_store.specs.Read.{two_bounds}
use Rattle.version_store.proofs.Kept.{keyed, unkeyed}
use Rattle.version_store.proofs.rows.read_rows.Goals as goal

pub returns-in-None : goal.returns-in-None
returns-in-None c = unkeyed c.args.object.now.columns c.args.object.now.key (two_bounds c.args.limits.above c.args.limits.upto) c.args.database.now c.args.table.now.schema c.args.table.now.name c.rows_kept.result c.in-None.is (rw c.as_slice-tables.ensures at c.rows_kept.ensures)

pub returns-in_ok-sort_by_key-in-Some : goal.returns-in_ok-sort_by_key-in-Some
returns-in_ok-sort_by_key-in-Some c =
    let place : c.cell_place-place.result ≡ cell_place c.args.object.now.columns c.in-Some.index = rw c.as_slice.ensures at c.cell_place-place.ensures in
    keyed c.args.object.now.columns c.args.object.now.key c.in-Some.index (two_bounds c.args.limits.above c.args.limits.upto) c.args.database.now c.args.table.now.schema c.args.table.now.name c.in_ok-rows-in-Some.rows c.sort_by_key.new.rows c.in-Some.is
    (rw (c.as_slice-tables.ensures, place) at c.in_ok-rows-in-Some.ensures)
    (rw place at c.in_ok-sort_by_key-in-Some.ensures)
