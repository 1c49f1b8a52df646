-- How a count grows by a piece and by a byte.
use Rattle.std.proofs.Common.{◌≡◌, ℕ, ◌+◌, cond, List, take, drop, take-add, ap, ◌∙◌}
use Rattle.std.specs.List.{count_by}
use Rattle.std.proofs.lemmas.List.Sums.{sum_by-append}
use Rattle.sql_cells.specs.Literal.{is_special}

pub counted_more : (xs : List ℕ) (i : ℕ) → count_by is_special (take (i + 16) xs) ≡ count_by is_special (take i xs) + count_by is_special (take 16 (drop i xs))
counted_more xs i = ap (count_by is_special) (take-add i 16 xs) ∙ sum_by-append (λ x. cond (is_special x) 1 0) (take i xs) (take 16 (drop i xs))
