use Rattle.std.proofs.Common.{◌≡◌, ◌++◌, length, option_map}
use Rattle.object_forms.specs.Shape.{part_indices, parts}
use Rattle.object_forms.specs.Token.{tokens}
use Rattle.object_texts.proofs.key.part_indices.Given as goal

abbrev pub invariant-parts : goal.invariant-parts
invariant-parts l = option_map (λ others. l.made ++ others) (part_indices l.columns (parts 0 (tokens l.rest))) ≡ part_indices l.columns (parts 0 (tokens l.inner))

abbrev pub decreases-parts : goal.decreases-parts
decreases-parts l = length l.rest
