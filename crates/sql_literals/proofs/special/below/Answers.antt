use Rattle.std.proofs.Common.{◌≡◌, ltb, map, replicate, sym, subst, w8, ◌∙◌}
use Rattle.std.specs.Simd.Lanes.{sel_l}
use Rattle.std.proofs.lemmas.Simd.{tops_compared, zip2_splat}
use Rattle.sql_literals.proofs.Marks.{selected}
use Rattle.sql_literals.specs.Runs.{marks}
use Rattle.sql_literals.proofs.special.below.Goals as goal

pub returns : goal.returns
returns c =
    let v = c.args.lanes in
    let b = c.args.byte in
    subst (λ ms. sel_l ms (replicate 16 255) (replicate 16 0) ≡ marks (λ x. ltb x b) v)
    (sym (tops_compared w8 ltb v (replicate 16 b) ∙ zip2_splat ltb v 16 b c.fits-lanes.0))
    (subst (λ n. sel_l (map (λ x. ltb x b) v) (replicate n 255) (replicate n 0) ≡ marks (λ x. ltb x b) v) c.fits-lanes.0 (selected (λ x. ltb x b) v))
