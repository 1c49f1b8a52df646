use Rattle.std.proofs.Common.{◌≡◌, ◌≢◌, ◌≤◌, ◌+◌, ℕ, List, length, map, sym, ◌∙◌, arith, cond, eqb, not, subst, lit≤}
use Rattle.std.specs.Simd.Lanes.{mask_l, chunk}
use lib.Count.{count_trailing_zeros}
use Rattle.std.specs.List.{prefix_len}
use Rattle.std.proofs.lemmas.Bool.Decides.{nat_tests}
use Rattle.std.proofs.lemmas.Simd.{first_set_mask_l, run_in_chunk_fails, run_in_chunk_le, length-chunk, none_from_empty_mask}
use Rattle.sql_cells.specs.Literal.{is_special}
use Rattle.sql_literals.proofs.special.plain_lanes.Goals as goal

counted : (xs : List ℕ) (i bits : ℕ) → i + 16 ≤ length xs → bits ≡ mask_l (map is_special (chunk i 16 xs)) → bits ≢ 0 → count_trailing_zeros 64 bits ≡ prefix_len (λ x. not (is_special x)) (chunk i 16 xs)
counted xs i bits room is some =
    let found = first_set_mask_l is_special (chunk i 16 xs) 16 (length-chunk i 16 xs room) (lit≤ tt) in
    let here : cond (eqb bits 0) 16 (count_trailing_zeros 64 bits) ≡ prefix_len (λ x. not (is_special x)) (chunk i 16 xs) = subst (λ b. cond (eqb b 0) 16 (count_trailing_zeros 64 b) ≡ prefix_len (λ x. not (is_special x)) (chunk i 16 xs)) (sym is) found in
    grind (arith, nat_tests)

pub returns-then-bits-eq0-clause-run : goal.returns-then-bits-eq0-clause-run
returns-then-bits-eq0-clause-run c =
    record { low = omega arith; high = c.requires; plain = none_from_empty_mask is_special c.args.bytes.now c.args.at 16 0 c.requires (sym c.special_bits-bits.ensures ∙ c.if-bits-eq0.true) }

pub returns-else-bits-eq0-clause-within : goal.returns-else-bits-eq0-clause-within
returns-else-bits-eq0-clause-within c =
    run_in_chunk_le is_special c.args.bytes.now c.args.at 16 _ 0 c.requires (counted _ _ _ c.requires c.special_bits-bits.ensures c.if-bits-eq0.false)

pub returns-else-bits-eq0-clause-run : goal.returns-else-bits-eq0-clause-run
returns-else-bits-eq0-clause-run c =
    let count = counted _ _ _ c.requires c.special_bits-bits.ensures c.if-bits-eq0.false in
    let within = run_in_chunk_le is_special c.args.bytes.now c.args.at 16 _ 0 c.requires count in
    record { low = omega arith; high = omega (arith, within, c.requires); plain = run_in_chunk_fails is_special c.args.bytes.now c.args.at 16 _ 0 c.requires count }
