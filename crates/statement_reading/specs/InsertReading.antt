-- INSERT statements as they are read, part by part.
use Rattle.std.specs.Prelude.{◌≡◌, ℕ, ◌+◌, ◌-◌, ◌≤◌, List, ◌++◌, codes, length, take, drop, Result, Ok, Err}
use Rattle.grammar.specs.Language.{Language, Fixed, Then, Times}
use Rattle.sql_cells.specs.Spelling.{Literal}
use Rattle.statement_forms.specs.Insert.{NamesAnd, NextLiteral, Row, FurtherRow, Rows}
use Rattle.statement_reading.specs.declared.insert.FilledSize.{FilledSize}
use Rattle.statement_reading.specs.declared.insert.Run.{Run}

-- so many literals, each after a comma, and a closing parenthesis
unfoldable pub RowRest : ℕ → Language
RowRest more = Then (Times NextLiteral more) (Fixed (codes ")"))

-- a row after its opening parenthesis: a literal, and so many more
unfoldable pub RowInside : ℕ → Language
RowInside more = Then Literal (RowRest more)

-- the words after the columns, and rows
unfoldable pub Values : ℕ → Language
Values more = Then (Fixed (codes ") VALUES\n")) (Rows more)

-- the reading without the number
abbrev pub run_size : Result Run ℕ → Result ℕ ℕ
run_size (Ok run) = Ok run.size
run_size (Err place) = Err place

-- the reading of columns and rows, by its size alone
abbrev pub filled_size : Result FilledSize ℕ → Result ℕ ℕ
filled_size (Ok found) = Ok found.size
filled_size (Err place) = Err place

-- the front of the run's size is so many texts of the language one after another, no more of them than bytes
abbrev pub IsRunOf : Language → Run → List ℕ → Type 0
IsRunOf texts run bytes = Times texts run.count (take run.size bytes) × (run.count ≤ run.size)

-- so many rows of one more than so many literals
pub record IsRows (more count : ℕ) (text : List ℕ) : Type 0 where
  pub others : ℕ
  pub filled : Then (Row more) (Times (FurtherRow more) others) text
  pub count_is : count ≡ others + 1

-- the same after the words
pub record HasValues (more count : ℕ) (text : List ℕ) : Type 0 where
  pub body : List ℕ
  pub text_is : text ≡ codes ") VALUES\n" ++ body
  pub filled : IsRows more count body

-- the front of this size has columns up to that place, and so many rows
pub record IsFilled (bytes : List ℕ) (columns rows size : ℕ) : Type 0 where
  pub more : ℕ
  pub rest : List ℕ
  pub low : 2 ≤ columns
  pub within : columns ≤ length bytes
  pub text_is : take size bytes ≡ codes " (" ++ take (columns - 2) (drop 2 bytes) ++ rest
  pub named : NamesAnd more (take (columns - 2) (drop 2 bytes))
  pub filled : HasValues more rows rest
