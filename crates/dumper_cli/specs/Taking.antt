-- What is taken from a row.
use Rattle.std.specs.Prelude.{◌≡◌, true, false, None, Some, List, [], ◌∷◌, ◌++◌, ℕ}
use Rattle.link_traits.specs.Cause.{Rose}
use Rattle.link_traits.specs.declared.folder.Shelf.{Ghosts}
use Rattle.my_session.specs.declared.fault.SessionFault.{SessionFault}
use Rattle.my_session.specs.declared.fault.SessionFault.TheVariants.{Garbled, OutOfMemory}
use Rattle.plain_data.specs.Cell.{Cell}
use Rattle.dumper_cli.specs.Columns.{column_from, is_row_of}
use Rattle.dumper_cli.specs.Writing.{IsWriting}
use Rattle.dumper_cli.specs.declared.column.Column.{Column}
use Rattle.dumper_cli.specs.declared.copy.Unadded.{Unadded}
use Rattle.dumper_cli.specs.declared.copy.Unadded.TheVariants.{File as UnaddedFile, Garbled as UnaddedGarbled, OutOfMemory as UnaddedOutOfMemory}
use Rattle.dumper_cli.specs.declared.data_file.DataFile.{DataFile}
use Rattle.dumper_cli.specs.declared.fault.DumpFault.{DumpFault}
use Rattle.dumper_cli.specs.declared.fault.DumpFault.TheVariants.{FolderNotEmpty, File, Session as InSession}

-- a row with these cells tells a column, which is added
pub record AddsColumn (cells : List Cell) (old new : List Column) : Type 0 where
  pub column : Column
  pub column_is : column_from cells ≡ Some column
  pub new_is : new ≡ old ++ column ∷ []

-- why a row, which came at this place, tells no column
abbrev pub Untold : List Cell → ℕ → SessionFault → Type 0
Untold cells place (Garbled at) = (at ≡ place) × (column_from cells ≡ None)
Untold cells place OutOfMemory = Unit {0}
Untold cells place fault = ⊥

-- why a row, which came at this place, has no text
abbrev pub Unspelled : List Column → List Cell → ℕ → SessionFault → Type 0
Unspelled columns cells place (Garbled at) = (at ≡ place) × (is_row_of columns cells ≡ false)
Unspelled columns cells place OutOfMemory = Unit {0}
Unspelled columns cells place fault = ⊥

-- what a dump answers where a row wasn't added to the file
abbrev pub unadded_fault : Unadded → DumpFault
unadded_fault UnaddedFile = File
unadded_fault (UnaddedGarbled place) = InSession (Garbled place)
unadded_fault UnaddedOutOfMemory = InSession OutOfMemory

module _ {S : Type 0} (shelf : Ghosts S) where
  -- the row was added to the file
  pub record AddsRow (columns : List Column) (cells : List Cell)
      (file new_file : DataFile S shelf) : Type 0 where
    pub fits : is_row_of columns cells ≡ true
    pub writes : (schema table : List ℕ) (rows : List (List Cell)) →
        IsWriting shelf schema table columns rows file →
        IsWriting shelf schema table columns (rows ++ cells ∷ []) new_file

  -- why it wasn't
  abbrev pub Unwritten : List Column → List Cell → ℕ → DataFile S shelf → DataFile S shelf →
      DumpFault → Type 0
  Unwritten columns cells place file new_file (FolderNotEmpty name) = ⊥
  Unwritten columns cells place file new_file File =
      Rose (shelf.faults file.shelf) (shelf.faults new_file.shelf)
  Unwritten columns cells place file new_file (InSession fault) =
      Unspelled columns cells place fault
