-- A data file that is being written.
use Rattle.std.specs.Prelude.{◌≡◌, ◌≤◌, ◌↔◌, ℕ, true, false, List, [], ◌∷◌, ◌++◌, length, map}
use Rattle.link_traits.specs.declared.folder.Shelf.{Ghosts}
use Rattle.plain_data.specs.Cell.{Cell}
use Rattle.dumper_cli.specs.DataFile.{FileText, row_text, insert_head, rows_text, file_name}
use Rattle.dumper_cli.specs.declared.column.Column.{Column}
use Rattle.dumper_cli.specs.declared.data_file.DataFile.{DataFile}

-- the file has this text: its front was appended to the shelf, and what is left of it waits
pub record Holds {S : Type 0} (of : Ghosts S) (text : FileText)
    (file : DataFile S of) : Type 0 where
  pub begun : file.begun ≡ true
  pub size : file.size ≡ text.size
  pub front : List ℕ
  pub bytes : text.bytes ≡ front ++ file.waiting.bytes
  pub appended : of.size file.shelf ≡ length front
  pub told : of.tells file.shelf →
      (of.told file.shelf).begun ≡ record { name = file.name; bytes = front }

-- the file has these rows, and isn't begun where there is none
abbrev pub HoldsRows : {S : Type 0} (of : Ghosts S) → List (List ℕ) → DataFile S of → Type 0
HoldsRows of [] file = (file.begun ≡ false) × (file.waiting.bytes ≡ [])
HoldsRows of (row ∷ rows) file = Holds of (rows_text file.head.bytes row rows) file

-- these rows of the table were written to the file
pub record IsWriting {S : Type 0} (of : Ghosts S) (schema table : List ℕ) (columns : List Column)
    (rows : List (List Cell)) (file : DataFile S of) : Type 0 where
  pub name : file.name ≡ file_name schema table
  pub head : file.head.bytes ≡ insert_head table columns
  pub text : HoldsRows of (map (row_text columns) rows) file

-- what every call of a file keeps
pub record KeepsFile {S : Type 0} (of : Ghosts S) (old new : DataFile S of) : Type 0 where
  pub name : new.name ≡ old.name
  pub head : new.head.bytes ≡ old.head.bytes
  pub tells : of.tells old.shelf ↔ of.tells new.shelf
  pub later : of.faults old.shelf ≤ of.faults new.shelf

-- the file is as it was, but for the text of the row that was to be written
pub record IsSame {S : Type 0} (of : Ghosts S) (old new : DataFile S of) : Type 0 where
  pub shelf : new.shelf ≡ old.shelf
  pub begun : new.begun ≡ old.begun
  pub name : new.name ≡ old.name
  pub head : new.head.bytes ≡ old.head.bytes
  pub waiting : new.waiting.bytes ≡ old.waiting.bytes
  pub size : new.size ≡ old.size
