use Rattle.std.proofs.Common.{◌<◌, sym, ◌∙◌, arith, option_copied}
use Rattle.result_rows.proofs.Walks.{split_cells}
use Rattle.result_rows.proofs.row.CellsIterator.next.Goals as goal

pub returns-clause-steps : goal.returns-clause-steps
returns-clause-steps c =
    let more : 0 < c.self.inside.left = omega arith in
    sym c.self.view_is ∙ (split_cells c.self.inside.left c.self.inside.rest.now (option_copied c.in_ok-cell.cell) c.in_ok-cell.rest.now more c.self.invariant (sym c.in_ok-cell.ensures)).cells

pub returns-clause-goes : goal.returns-clause-goes
returns-clause-goes c = grind (arith, returns-clause-steps c)
