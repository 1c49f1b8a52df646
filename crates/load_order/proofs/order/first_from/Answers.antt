use Rattle.std.proofs.Common.{arith, ap, subst, ◌≤◌, ℕ}
use Rattle.server_data.specs.Equal.{kind_number}
use Rattle.server_data.specs.declared.data.Object.{Object}
use Rattle.std.proofs.lemmas.List.{get_or_default}
use Rattle.load_order.proofs.PartLemmas.{from_here}
use Rattle.load_order.proofs.order.first_from.Goals as goal

pub returns-then-number-number_of-clause-above : goal.returns-then-number-number_of-clause-above
returns-then-number-number_of-clause-above c =
    from_here c.args.objects.now c.requires c.loop-at.at c.args.number c.index-objects-at.result c.loop-at-test.true c.index-objects-at.is
    (rw c.number_of.ensures at c.if-number-number_of.true)
