use Rattle.std.proofs.lemmas.List.Sorted.{IsPermutation-trans}
use Rattle.load_order.proofs.PartLemmas.{parts_are}
use Rattle.load_order.proofs.order.put_in_order.Goals as goal

pub arrange_within-requires : goal.arrange_within-requires
arrange_within-requires c =
    parts_are c.sort.new.objects c.first_from-from.result c.first_from-to.result c.sort.ensures.sorted c.first_from-from.ensures.within c.first_from-to.ensures.within
    c.first_from-from.ensures.below c.first_from-from.ensures.above c.first_from-to.ensures.below c.first_from-to.ensures.above

pub returns-clause-same : goal.returns-clause-same
returns-clause-same c = IsPermutation-trans c.args.objects.now c.sort.new.objects _ c.sort.ensures.same c.arrange_within.ensures.same
