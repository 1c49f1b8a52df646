use Rattle.std.proofs.Common.{rules}
use Rattle.std.specs.Ordering.{is_lt}
use Rattle.std.proofs.lemmas.List.Sorted.{answers_always}
use Rattle.folder_forms.specs.LoadOrder.{load_cmp}
use Rattle.load_order.proofs.OrderLemmas.{load_ranks}
use Rattle.server_data.specs.declared.data.Object.{Object}
use Rattle.load_order.proofs.compare.sort.Goals as goal

pub returns-clause-sorted : goal.returns-clause-sorted
returns-clause-sorted c =
    c.sort_unstable_by.ensures.sorted (λ (x y : Object). is_lt (load_cmp x y)) load_ranks
    (answers_always _ _ _ (λ f a r g called. search rules))
