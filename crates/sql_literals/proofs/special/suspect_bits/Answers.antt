use Rattle.std.proofs.Common.{◌≡◌, eqb, length, map, w8, sym, ◌∙◌, ap, lit≤}
use Rattle.std.specs.Simd.Lanes.{mask_l, chunk}
use Rattle.std.proofs.lemmas.List.{length-map}
use Rattle.std.proofs.lemmas.Simd.{bitmask_splat, length-chunk}
use Rattle.sql_literals.proofs.Marks.{mark_high, none_suspect}
use Rattle.sql_literals.specs.Runs.{is_suspect}
use Rattle.sql_literals.proofs.special.suspect_bits.Goals as goal

pub returns : goal.returns
returns c = λ none.
    let lanes = chunk c.args.at 16 c.args.bytes.now in
    let m = c.suspects-marks.result in
    let long : length m ≡ 16 = ap length c.suspects-marks.ensures ∙ length-map lanes _ ∙ length-chunk c.args.at 16 c.args.bytes.now c.requires in
    let bits = bitmask_splat w8 eqb m 16 255 long (lit≤ tt)
    ∙ ap (λ t. mask_l (map (λ x. eqb x 255) t)) c.suspects-marks.ensures
    ∙ ap mask_l (mark_high is_suspect lanes) in
    none_suspect c.args.bytes.now c.args.at c.requires (sym bits ∙ none)
