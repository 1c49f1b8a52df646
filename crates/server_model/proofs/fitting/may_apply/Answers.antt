use Rattle.std.proofs.Common.{◌∙◌, sym, arith}
use Rattle.server_model.proofs.After.{fit_ends, fit_so_far}
use Rattle.server_model.proofs.fitting.may_apply.Goals as goal

pub returns-then-not-fits_after : goal.returns-then-not-fits_after
returns-then-not-fits_after c = sym (fit_ends c.args.database.now c.args.changes.now c.changes.at c.index-changes-at.result c.changes-test.true c.index-changes-at.is c.changes.invariant.fit (sym c.fits_after.ensures ∙ c.if-not-fits_after.true))

pub changes-preserved : goal.changes-preserved
changes-preserved c = record {
  fit = fit_so_far c.args.database.now c.args.changes.now c.changes.at c.index-changes-at.result c.changes-test.true c.index-changes-at.is c.changes.invariant.fit ∙ (sym c.fits_after.ensures ∙ c.if-not-fits_after.false);
  within = omega (arith, c.changes-test.true);
}
