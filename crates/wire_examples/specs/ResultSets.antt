-- Whole result sets (MySQL source documentation, ProtocolText::Resultset).
use Rattle.std.specs.Prelude.{ℕ, List, [], ◌∷◌, ◌++◌, Some, None, codes}
use Rattle.plain_data.specs.Cell.{Cell}
use Rattle.wire_forms.specs.ResultSet.{IsResultSet, IsTaken}
use Rattle.wire_forms.specs.declared.ends.Ends.TheVariants.{Eof, Ok}
use Rattle.wire_examples.specs.Replies.{id_definition, eof, ending_ok}

-- the rows `1` and NULL
abbrev pub two_rows : List (List Cell)
two_rows = (Some (codes "1") ∷ []) ∷ (None ∷ []) ∷ []

-- the messages of these rows
abbrev pub row_messages : List (List ℕ)
row_messages = (1 ∷ codes "1") ∷ (251 ∷ []) ∷ []

-- the result set of one column and these rows, with EOF packets
abbrev pub set_with_eof : List (List ℕ)
set_with_eof = (1 ∷ []) ∷ id_definition ∷ eof ∷ (row_messages ++ eof ∷ [])

-- the same result set with an OK at its end
abbrev pub set_without_eof : List (List ℕ)
set_without_eof = (1 ∷ []) ∷ id_definition ∷ (row_messages ++ ending_ok ∷ [])

-- both are whole result sets of the two rows, and the reader takes them for such; neither is one under the other ending
pub record ResultSets : Type 0 where
  pub with_eof : IsResultSet Eof 1 two_rows set_with_eof
  pub with_eof_taken : IsTaken Eof 1 two_rows set_with_eof
  pub without_eof : IsResultSet Ok 1 two_rows set_without_eof
  pub without_eof_taken : IsTaken Ok 1 two_rows set_without_eof
  pub not_with_eof : IsTaken Eof 1 two_rows set_without_eof → ⊥
  pub not_without_eof : IsTaken Ok 1 two_rows set_with_eof → ⊥
