-- The list of all kinds, from the last row to the first.
use Rattle.std.proofs.Common.{◌≡◌, ℕ, zero, suc, ◌+◌, ◌-◌, ◌<◌, max, List, [], ◌∷◌, length, get_or, refl, sym, subst, arith, rules, nat_cmp, Ok, Err}
use Rattle.std.specs.Ordering.{ord_max}
use Rattle.std.proofs.lemmas.Grind.{common_steps}
use Rattle.statement_reading.specs.Kinds.{kind_row}
use Rattle.statement_reading.specs.Readings.{IsRead, InRow}
use Rattle.statement_forms.specs.Statement.{IsReadAs, Statements}
use Rattle.statement_reading.specs.declared.fault.StatementFault.TheVariants.{BadStatement, OutOfMemory}
use Rattle.statement_reading.specs.declared.read.StatementKind.{StatementKind}
use Rattle.statement_reading.specs.declared.read.TheConstants.{KINDS}
use Rattle.statement_forms.specs.declared.statement.Statement.{Statement}
use Rattle.statement_reading.proofs.Rows.{Passed, passed_read, passed_more, row_statement}

-- from the i-th on, row and index are 58 together
abbrev CountsDown : ℕ → List StatementKind → Type 0
CountsDown i [] = Unit {0}
CountsDown i (kind ∷ kinds) = (kind_row kind + i ≡ 58) × CountsDown (i + 1) kinds

counted_at : (i : ℕ) (kinds : List StatementKind) (j : ℕ) (d : StatementKind) → CountsDown i kinds → j < length kinds → kind_row (get_or kinds j d) + (i + j) ≡ 58
counted_at i [] j d counts within = absurd (omega arith)
counted_at i (kind ∷ kinds) zero d counts within = omega (arith, counts.0)
counted_at i (kind ∷ kinds) (suc j) d counts within = omega (arith, counted_at (i + 1) kinds j d counts.1 (omega arith))

all_counted : CountsDown 0 KINDS
all_counted = (refl, (refl, (refl, (refl, (refl, (refl, (refl, (refl, (refl, (refl, (refl, (refl, (refl, (refl, (refl, (refl, (refl, (refl, (refl, (refl, (refl, (refl, (refl, (refl, (refl, (refl, (refl, (refl, (refl, (refl, (refl, (refl, (refl, (refl, (refl, (refl, (refl, (refl, (refl, (refl, (refl, (refl, (refl, (refl, (refl, (refl, (refl, (refl, (refl, (refl, (refl, (refl, (refl, (refl, (refl, (refl, (refl, (refl, (refl, tt)))))))))))))))))))))))))))))))))))))))))))))))))))))))))))

-- The row of the kind at this index.
pub kind_at : (i : ℕ) (d : StatementKind) → i < 59 → kind_row (get_or KINDS i d) + i ≡ 58
kind_at i d within = omega (arith, counted_at 0 KINDS i d all_counted within)

pub nat_max : (p q : ℕ) → ord_max nat_cmp p q ≡ max p q
nat_max p q = first_of (search rules, grind (arith, common_steps))

module _ (i : ℕ) (d : StatementKind) (text : List ℕ) (p : ℕ) (within : i < 59) (passed : Passed (59 - i) text p) where
  row_above : Passed (kind_row (get_or KINDS i d) + 1) text p
  row_above = subst (λ n. Passed n text p) (omega (arith, kind_at i d within)) passed

  -- A statement of the next kind is the text's.
  pub kind_read : (s : Statement) → IsRead (InRow (kind_row (get_or KINDS i d))) text (Ok s) → IsReadAs text s
  kind_read s only = passed_read (kind_row (get_or KINDS i d)) text p s row_above only

  -- One kind more has refused.
  pub kind_passed : (q m : ℕ) → m ≡ max p q → IsRead (InRow (kind_row (get_or KINDS i d))) text (Err (BadStatement q)) → Passed (59 - (i + 1)) text m
  kind_passed q m is refused = subst (λ n. Passed n text m) (omega (arith, kind_at i d within)) (subst (Passed (kind_row (get_or KINDS i d)) text) (sym is) (passed_more (kind_row (get_or KINDS i d)) text p q row_above refused))

  -- Memory ran out for a statement's text.
  pub kind_some : IsRead (InRow (kind_row (get_or KINDS i d))) text (Err OutOfMemory) → Statements text
  kind_some some = row_statement (kind_row (get_or KINDS i d)) text some
