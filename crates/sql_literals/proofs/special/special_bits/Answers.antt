use Rattle.std.proofs.Common.{◌≡◌, eqb, length, map, w8, ◌∙◌, ap, lit≤}
use Rattle.std.specs.Simd.Lanes.{mask_l}
use Rattle.std.proofs.lemmas.List.{length-map}
use Rattle.std.proofs.lemmas.Simd.{bitmask_splat}
use Rattle.sql_literals.proofs.Marks.{mark_high}
use Rattle.sql_cells.specs.Literal.{is_special}
use Rattle.sql_literals.proofs.special.special_bits.Goals as goal

pub returns : goal.returns
returns c =
    let m = c.specials-marks.result in
    let long : length m ≡ 16 = ap length c.specials-marks.ensures ∙ length-map c.args.lanes _ ∙ c.fits-lanes.0 in
    bitmask_splat w8 eqb m 16 255 long (lit≤ tt)
    ∙ ap (λ t. mask_l (map (λ x. eqb x 255) t)) c.specials-marks.ensures
    ∙ ap mask_l (mark_high is_special c.args.lanes)
