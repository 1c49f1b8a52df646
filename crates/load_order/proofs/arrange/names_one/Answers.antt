use Rattle.std.proofs.Common.{rules, ◌∙◌}
use Rattle.std.proofs.lemmas.Fn.{always_returns_same}
use Rattle.load_order.specs.Stages.{against_need}
use Rattle.load_order.proofs.ReadyLemmas.{need_found}
use Rattle.load_order.proofs.arrange.names_one.Goals as goal

pub returns : goal.returns
returns c =
    let found = c.binary_search_by.ensures in
    c.is_ok.ensures.value ∙ need_found c.args.need.now c.args.left.now _ c.requires found.bound
    (found.position (against_need c.args.need.now) (always_returns_same _ _ _ (λ a r f' k. (search rules, search rules))))
