use Rattle.std.proofs.Common.{◌≡◌, ◌++◌, ◌∷◌, [], sym, ◌∙◌, ap}
use Rattle.memory_outside.proofs.Names.{own_names_ended}
use Rattle.memory_outside.proofs.memory_shelf.MemoryShelf.end.Goals as goal

pub invariant_of-self-in-Some : goal.invariant_of-self-in-Some
invariant_of-self-in-Some c =
    let more : c.push_reserved.new.self.items ≡ c.self.inside.made.items ++ c.in-Some.file ∷ [] = c.push_reserved.ensures.items ∙ ap (λ l. l ++ c.in-Some.file ∷ []) c.in_ok-reserve.ensures.items in
    let ended = own_names_ended c.self.inside.made.items c.push_reserved.new.self.items c.self.inside.begun c.take.new.self c.in-Some.file more (sym c.take.ensures.value ∙ c.in-Some.is) c.take.ensures.after c.self.invariant.made c.self.invariant.begun in
    record { seen = c.self.invariant.seen; made = ended.0; begun = ended.1 }

pub returns-in-Some-clause-own_names : goal.returns-in-Some-clause-own_names
returns-in-Some-clause-own_names = invariant_of-self-in-Some
