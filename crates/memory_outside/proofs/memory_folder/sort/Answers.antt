use Rattle.std.proofs.Common.{length, ◌∙◌, ap}
use Rattle.std.proofs.lemmas.List.Sorted.{IsPermutation-sym}
use Rattle.memory_outside.proofs.Parts.{written_over-whole}
use Rattle.memory_outside.proofs.memory_folder.sort.Goals as goal

pub returns : goal.returns
returns c =
    let whole = written_over-whole c.args.names.now c.sort_unstable.new.self (c.sort_unstable.ensures.len ∙ ap length c.as_mut_slice.ensures.value) in
    record {
      permutation = rw whole (IsPermutation-sym _ _ (rw c.as_mut_slice.ensures.value at c.sort_unstable.ensures.permutation));
      sorted = rw whole c.sort_unstable.ensures.sorted;
    }
