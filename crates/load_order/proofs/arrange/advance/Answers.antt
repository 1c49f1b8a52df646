use Rattle.load_order.proofs.ReadyLemmas.{put_first_at}
use Rattle.load_order.proofs.arrange.advance.Goals as goal

pub returns-in-Some-clause-found : goal.returns-in-Some-clause-found
returns-in-Some-clause-found c =
    λ yes. put_first_at c.args.left.now c.in-Some.at c.rotate_right.new.self c.requires c.in-Some.ensures c.rotate_right.ensures.after
