-- The pieces of a statement's text.
use Rattle.std.specs.Prelude.{◌≡◌, ℕ, ◌≤◌, ◌^◌, ℤ, List, [], ◌∷◌, ◌++◌, length, Option, MatchOption, ◌+◌, Result, IsOk}
use Rattle.std.specs.Fmt.{signed_decimal}
use Rattle.std.specs.List.{fold}
use Rattle.sql_cells.specs.Literal.{text_literal}
use Rattle.sql_cells.specs.Name.{quoted_name}
use Rattle.statement_forms.specs.Text.{by_key, by_keys, dotted, key_above, key_from, one_after, rows_from, wide_above, wide_up_to}
use Rattle.sql_statements.specs.declared.piece.Piece.{Piece}
use Rattle.sql_statements.specs.declared.piece.Piece.TheVariants.{Word, Whole, Name, Path, Text, Signed, RowsFrom, KeyFrom, Above, ByKey, WideAbove, WideUpTo, ByKeys, OneAfter}

-- the bytes of a piece, as they are written
abbrev pub piece_text : Piece → List ℕ
piece_text (Word bytes) = bytes.now
piece_text (Whole text) = text.now
piece_text (Name part) = quoted_name part.now
piece_text (Path schema name) = dotted schema.now name.now
piece_text (Text part) = text_literal part.now
piece_text (Signed number) = signed_decimal number.now
piece_text (RowsFrom columns schema table) = rows_from columns.now schema.now table.now
piece_text (KeyFrom key schema table) = key_from key.now schema.now table.now
piece_text (Above key bound) = key_above key.now bound.now
piece_text (ByKey key) = by_key key.now
piece_text (WideAbove keys bound) = wide_above keys.now bound.now
piece_text (WideUpTo keys bound) = wide_up_to keys.now bound.now
piece_text (ByKeys keys) = by_keys keys.now
piece_text (OneAfter skipped) = one_after skipped

-- the pieces one after the other
abbrev pub pieces_text : List Piece → List ℕ
pieces_text pieces = fold (λ text piece. text ++ piece_text piece) [] pieces

-- a comma and a name between backquotes
abbrev pub later_name : List ℕ → List ℕ
later_name name = 44 ∷ quoted_name name

-- a comma and a number
abbrev pub later_number : ℤ → List ℕ
later_number number = 44 ∷ signed_decimal number

-- the text has this length, or more bytes than can be counted
abbrev pub IsLength : Option ℕ → List ℕ → Type 0
IsLength counted text = MatchOption counted (2 ^ 64 ≤ length text) (λ n. n ≡ length text)
