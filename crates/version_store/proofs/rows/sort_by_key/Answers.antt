use Rattle.std.proofs.Common.{rules, length, ◌∙◌, ap}
use Rattle.std.proofs.lemmas.Fn.{always_returns_same}
use Rattle.version_store.specs.Key.{key_at}
use Rattle.version_store.proofs.Kept.{written_whole}
use Rattle.version_store.proofs.rows.sort_by_key.Goals as goal

pub returns : goal.returns
returns c =
    let whole = written_whole c.args.rows.now c.sort_by_key.new.self (c.sort_by_key.ensures.len ∙ ap length c.as_mut_slice.ensures.value) in
    record {
      same = rw whole (rw c.as_mut_slice.ensures.value at c.sort_by_key.ensures.permutation);
      rise = rw whole (c.in_ok-sort_by_key.ensures.sorted (key_at c.args.place) (always_returns_same _ _ _ (λ a r g h. search rules)));
      stable = rw whole (rw c.as_mut_slice.ensures.value at (c.sort_by_key.ensures.stable (key_at c.args.place) (always_returns_same _ _ _ (λ a r g h. search rules))));
    }
