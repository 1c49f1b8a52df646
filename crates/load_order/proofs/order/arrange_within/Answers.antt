use Rattle.std.proofs.lemmas.List.Sorted.{IsPermutation-put_mid}
use Rattle.load_order.proofs.PartLemmas.{cut, placed, unplaced, views_sorted}
use Rattle.load_order.proofs.order.arrange_within.Goals as goal

pub arrange-requires : goal.arrange-requires
arrange-requires c = views_sorted c.args.objects.now c.args.from c.args.to c.requires

pub returns-clause-same : goal.returns-clause-same
returns-clause-same c = IsPermutation-put_mid c.args.from _ c.args.objects.now c.arrange.new.views c.arrange.ensures.same

pub returns-clause-ordered : goal.returns-clause-ordered
returns-clause-ordered c =
    λ yes. placed c.args.objects.now _ _ _ c.arrange.new.views c.requires.up (cut c.args.objects.now c.args.from c.args.to c.requires) c.arrange.ensures.same (c.arrange.ensures.ordered yes)

pub returns-clause-stuck : goal.returns-clause-stuck
returns-clause-stuck c =
    λ no. unplaced c.args.objects.now _ _ _ c.arrange.new.views (cut c.args.objects.now c.args.from c.args.to c.requires) c.arrange.ensures.same (c.arrange.ensures.stuck no)
