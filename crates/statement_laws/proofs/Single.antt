-- A text is read as one statement.
use Rattle.std.proofs.Common.{◌≡◌, ℕ, arith, inl, inr, List, sym}
use Rattle.statement_forms.specs.Statement.{IsReadAs}
use Rattle.statement_forms.specs.declared.statement.Statement.{Statement}

pub one_reading : (text : List ℕ) (one other : Statement) → IsReadAs text one → IsReadAs text other → one ≡ other
one_reading text one other read also = elim (read.latest other also.text_of) [
  | inr same ↦ sym same
  | inl less ↦ elim (also.latest one read.text_of) [ inr same ↦ same | inl more ↦ absurd (omega arith) ]
]
