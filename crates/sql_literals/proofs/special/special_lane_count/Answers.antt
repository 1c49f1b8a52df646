use Rattle.std.proofs.Common.{ap, ◌∙◌, arith}
use Rattle.std.specs.Simd.Lanes.{chunk}
use Rattle.std.specs.Int.RustNames.{count_ones}
use Rattle.std.proofs.lemmas.Simd.{ones-mask_l, length-chunk}
use Rattle.std.proofs.lemmas.List.Sums.{count_by-le-length}
use Rattle.sql_cells.specs.Literal.{is_special}
use Rattle.sql_literals.proofs.special.special_lane_count.Goals as goal

pub returns : goal.returns
returns c =
    let n = ap count_ones c.special_bits-bits.ensures ∙ ones-mask_l is_special (chunk c.args.at 16 c.args.bytes.now) in
    record { count = n; small = omega (arith, n, count_by-le-length is_special (chunk c.args.at 16 c.args.bytes.now), length-chunk c.args.at 16 c.args.bytes.now c.requires) }
