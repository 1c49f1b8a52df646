-- Rows: reading statement after statement, and joining the answers.
use Rattle.std.proofs.Common.{◌≡◌, ℕ, ◌+◌, ◌<◌, ◌≤◌, ◌⊎◌, inl, inr, max, List, refl, sym, ◌∙◌, ap, subst, arith, Result, Err}
use Rattle.std.proofs.lemmas.Bool.{cases_lt}
use Rattle.grammar.specs.Language.{Language, Refused, Or}
use Rattle.grammar.proofs.Wholes.{refused_or}
use Rattle.statement_reading.specs.Readings.{TextOfSome, IsOnly, IsRead, InRow, FromRow}
use Rattle.statement_forms.specs.Statement.{list_row, IsTextOf, Statements, IsReadAs}
use Rattle.statement_reading.specs.declared.fault.StatementFault.{StatementFault}
use Rattle.statement_reading.specs.declared.fault.StatementFault.TheVariants.{BadStatement, OutOfMemory}
use Rattle.statement_forms.specs.declared.statement.Statement.{Statement}
use Rattle.statement_reading.proofs.Forms.{refused_same}
use Rattle.statement_reading.proofs.RowValues.{values_of, statement_at, rebuilt, below_59}

-- the statements of a row are made of values, whose texts are theirs
pub record Row {V : Type 0} (n : ℕ) (make : V → Statement) (F : V → Language) : Type 0 where
  pub all : (s : Statement) → list_row s ≡ n → (v : V) × (s ≡ make v)
  pub row : (v : V) → list_row (make v) ≡ n
  pub to : (v : V) (t : List ℕ) → IsTextOf (make v) t → F v t
  pub from : (v : V) (t : List ℕ) → F v t → IsTextOf (make v) t

-- Each statement of a row is made of its values.
pub made_of : (n : ℕ) (s : Statement) → list_row s ≡ n → s ≡ statement_at n (values_of s)
made_of n s e = sym (rebuilt s) ∙ ap (λ k. statement_at k (values_of s)) e

module _ {V : Type 0} {n : ℕ} {make : V → Statement} {F : V → Language} (row : Row n make F) where
  to_row : (t : List ℕ) → TextOfSome F t → TextOfSome (InRow n) t
  unfolding TextOfSome
  to_row t (v, text) = (make v, (row.row v, row.from v t text))

  of_row : (t : List ℕ) → TextOfSome (InRow n) t → TextOfSome F t
  unfolding TextOfSome
  of_row t (s, (e, text)) = let (v, is) = row.all s e in (v, row.to v t (subst (λ s. IsTextOf s t) is text))

  pub row_only : (text : List ℕ) (v : V) → IsOnly F text v → IsOnly (InRow n) text (make v)
  row_only text v only = record {
    text_of = (row.row v, row.from v text only.text_of);
    only = λ other (e, there). let (u, is) = row.all other e in is ∙ ap make (only.only u (row.to u text (subst (λ s. IsTextOf s text) is there)));
  }

  pub row_some : (text : List ℕ) → TextOfSome F text → TextOfSome (InRow n) text
  row_some text some = to_row text some

  pub row_refused : (text : List ℕ) (p : ℕ) → Refused (TextOfSome F) text p → Refused (TextOfSome (InRow n)) text p
  row_refused text p refused = refused_same (TextOfSome F) (TextOfSome (InRow n)) text p to_row of_row refused

  -- A fault that is passed on.
  pub row_fault : (text : List ℕ) (fault : StatementFault) (q : Result Statement StatementFault) → IsRead F text (Err fault) → q ≡ Err fault → IsRead (InRow n) text q
  row_fault text (BadStatement p) q refused is = subst (IsRead (InRow n) text) (sym is) (row_refused text p refused)
  row_fault text OutOfMemory q some is = subst (IsRead (InRow n) text) (sym is) (row_some text some)

-- the rows from the last one down

at_or_above : (n k : ℕ) → n ≤ k → (n + 1 ≤ k) ⊎ (k ≡ n)
at_or_above n k low = elim (cases_lt n k) [ inl h ↦ inl (omega arith) | inr h ↦ inr (omega arith) ]

from_of : (n : ℕ) (t : List ℕ) → Or (TextOfSome (FromRow (n + 1))) (TextOfSome (InRow n)) t → TextOfSome (FromRow n) t
unfolding Or TextOfSome
from_of n t (inl (s, (above, text))) = (s, (omega arith, text))
from_of n t (inr (s, (e, text))) = (s, (omega arith, text))

of_from : (n : ℕ) (t : List ℕ) → TextOfSome (FromRow n) t → Or (TextOfSome (FromRow (n + 1))) (TextOfSome (InRow n)) t
unfolding Or TextOfSome
of_from n t (s, (low, text)) = elim (at_or_above n (list_row s) low) [ inl h ↦ inl (s, (h, text)) | inr e ↦ inr (s, (e, text)) ]

-- the rows from n on have refused the text, the greatest place being this one: no row yet, or some
pub record Passed (n : ℕ) (text : List ℕ) (place : ℕ) : Type 0 where
  pub none_has : (s : Statement) → n ≤ list_row s → IsTextOf s text → ⊥
  pub refused : (n ≡ 59) × (place ≡ 0) ⊎ Refused (TextOfSome (FromRow n)) text place

-- The row of a statement is one of 59.
pub row_below : (s : Statement) → list_row s < 59
row_below s = below_59 s

pub passed_start : (text : List ℕ) → Passed 59 text 0
passed_start text = record { none_has = λ s above there. omega (arith, row_below s); refused = inl (refl, refl) }

first_refused : (n : ℕ) (text : List ℕ) (p : ℕ) → n + 1 ≡ 59 → Refused (TextOfSome (InRow n)) text p → Refused (TextOfSome (FromRow n)) text p
unfolding TextOfSome
first_refused n text p last refused = refused_same (TextOfSome (InRow n)) (TextOfSome (FromRow n)) text p
    (λ t (s, (e, there)). (s, (omega arith, there))) (λ t (s, (low, there)). (s, (omega (arith, row_below s), there))) refused

both_refused : (n : ℕ) (text : List ℕ) (p q : ℕ) → Refused (TextOfSome (FromRow (n + 1))) text p → Refused (TextOfSome (InRow n)) text q → Refused (TextOfSome (FromRow n)) text (max p q)
unfolding Or
both_refused n text p q above here = refused_same (Or (TextOfSome (FromRow (n + 1))) (TextOfSome (InRow n))) (TextOfSome (FromRow n)) text (max p q) (from_of n) (of_from n) (refused_or _ _ text p q above here)

-- One row more has refused.
pub passed_more : (n : ℕ) (text : List ℕ) (p q : ℕ) → Passed (n + 1) text p → Refused (TextOfSome (InRow n)) text q → Passed n text (max p q)
unfolding TextOfSome
passed_more n text p q passed refused = record {
  none_has = λ s low there. elim (at_or_above n (list_row s) low) [ inl h ↦ passed.none_has s h there | inr e ↦ refused.no_text (s, (e, there)) ];
  refused = elim passed.refused [
    | inl (last, zero) ↦ inr (subst (Refused (TextOfSome (FromRow n)) text) (omega arith) (first_refused n text q last refused))
    | inr above ↦ inr (both_refused n text p q above refused)
  ];
}

-- A statement of the next row is the text's.
pub passed_read : (n : ℕ) (text : List ℕ) (p : ℕ) (s : Statement) → Passed (n + 1) text p → IsOnly (InRow n) text s → IsReadAs text s
passed_read n text p s passed only = record {
  text_of = only.text_of.1;
  latest = λ other there. elim (cases_lt (list_row other) n) [
    | inl less ↦ inl (omega (arith, only.text_of.0))
    | inr more ↦ elim (at_or_above n (list_row other) more) [ inl h ↦ absurd (passed.none_has other h there) | inr e ↦ inr (only.only other (e, there)) ]
  ];
}

some_statement : (n : ℕ) (t : List ℕ) → TextOfSome (FromRow n) t → Statements t
unfolding TextOfSome Statements
some_statement n t (s, (low, there)) = (s, there)

statement_from : (t : List ℕ) → Statements t → TextOfSome (FromRow 0) t
unfolding TextOfSome Statements
statement_from t (s, there) = (s, (omega arith, there))

-- All rows have refused.
pub passed_all : (text : List ℕ) (p : ℕ) → Passed 0 text p → Refused Statements text p
passed_all text p passed = elim passed.refused [ inl (zero, is) ↦ absurd (omega arith) | inr refused ↦ refused_same (TextOfSome (FromRow 0)) Statements text p (some_statement 0) statement_from refused ]

pub row_statement : (n : ℕ) (text : List ℕ) → TextOfSome (InRow n) text → Statements text
unfolding TextOfSome Statements
row_statement n text (s, (e, there)) = (s, there)
