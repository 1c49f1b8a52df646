-- The calls of a session in a dump.
use Rattle.std.specs.Prelude.{◌≡◌, ◌<◌, ◌≤◌, ◌↔◌, Bool, true, false, ℕ, List, [], ◌∷◌, ◌++◌, length}
use Rattle.link_traits.specs.Cause.{Rose}
use Rattle.link_traits.specs.declared.link.Link.{Ghosts as LinkGhosts}
use Rattle.link_traits.specs.declared.folder.Shelf.{Ghosts as ShelfGhosts}
use Rattle.my_session.specs.Session.{SessionView}
use Rattle.my_session.specs.Wire.{IsOnward}
use Rattle.wire_forms.specs.Reading.{idle}
use Rattle.plain_data.specs.Cell.{Cell}
use Rattle.statement_forms.specs.declared.form.Form.TheVariants.{Select}
use Rattle.dumper_cli.specs.Run.{Start, Reached, SaidFront, Halted}
use Rattle.dumper_cli.specs.Stage.{awaits_columns, asks_rows, awaits_rows, is_over}
use Rattle.dumper_cli.specs.Words.{Asked}
use Rattle.dumper_cli.specs.Writing.{IsWriting}
use Rattle.dumper_cli.specs.declared.column.Column.{Column}
use Rattle.dumper_cli.specs.declared.data_file.DataFile.{DataFile}
use Rattle.dumper_cli.specs.declared.fault.DumpFault.{DumpFault}
use Rattle.dumper_cli.specs.declared.fault.DumpFault.TheVariants.{FolderNotEmpty, File, Session as InSession}

-- the session can be asked something
pub record IsReady {L : Type 0} (session : SessionView L) : Type 0 where
  pub alive : session.has_failed ≡ false
  pub none_pending : session.pending.reading ≡ idle session.peer.ends

-- rows of a SELECT are pending
pub record HasPendingRows {L : Type 0} (session : SessionView L) : Type 0 where
  pub alive : session.has_failed ≡ false
  pub some : 0 < session.pending.reading.columns
  pub rows : session.pending.reading.awaited ≡ 0
  pub ends : session.pending.reading.ends ≡ session.peer.ends
  pub form : session.pending.form ≡ Select

module _ {L : Type 0} (of : LinkGhosts L) where
  -- what every call of a session keeps
  pub record Keeps (old new : SessionView L) : Type 0 where
    pub tells : of.tells old.link ↔ of.tells new.link
    pub later : of.faults old.link ≤ of.faults new.link
    pub honest : of.honest old.link ↔ of.honest new.link
    pub origin : (first : L) → of.same_origin first old.link → of.same_origin first new.link
    pub peer : new.peer ≡ old.peer

  -- a row came, and with its column there are more
  pub record ColumnAdded (columns : List Column) (old : SessionView L) (more : List Column)
      (new : SessionView L) : Type 0 where
    pub has_rows : HasPendingRows new
    pub pending : new.pending ≡ old.pending
    pub onward : IsOnward old.place new.place
    pub reached : (asked : Asked) (start : Start) →
        Reached of asked (awaits_columns old.pending.reading columns) start old →
        Reached of asked (awaits_columns new.pending.reading more) start new

  -- all columns came, and there are some
  pub record ColumnsEnd (columns : List Column) (old : SessionView L) (all : List Column)
      (new : SessionView L) : Type 0 where
    pub ready : IsReady new
    pub some : 0 < length all
    pub reached : (asked : Asked) (start : Start) →
        Reached of asked (awaits_columns old.pending.reading columns) start old →
        Reached of asked (asks_rows new.peer.ends all) start new

  -- after a row about a column, or after the last
  abbrev pub NextColumn : Bool → List Column → SessionView L → List Column → SessionView L → Type 0
  NextColumn true columns old more new = ColumnAdded columns old more new
  NextColumn false columns old all new = ColumnsEnd columns old all new

-- the run stands still, as at a fault of the file: the messages of a front of it were sent
pub record StandsStill {L : Type 0} (of : LinkGhosts L) (asked : Asked) (start : Start)
    (now : L) : Type 0 where
  pub later : start.faults ≤ of.faults now
  pub front : of.tells now → SaidFront asked start.wire (of.told now).sent

module _ {L S : Type 0} (link : LinkGhosts L) (shelf : ShelfGhosts S) where
  -- a row came, and was added to the file
  pub record RowAdded (columns : List Column) (old : SessionView L) (file : DataFile S shelf)
      (new : SessionView L) (new_file : DataFile S shelf) : Type 0 where
    pub has_rows : HasPendingRows new
    pub pending : new.pending ≡ old.pending
    pub onward : IsOnward old.place new.place
    pub cells : List Cell
    pub reached : (asked : Asked) (rows : List (List Cell)) (start : Start) →
        Reached link asked (awaits_rows old.pending.reading columns rows) start old →
        Reached link asked (awaits_rows new.pending.reading columns (rows ++ cells ∷ [])) start new
    pub writes : (schema table : List ℕ) (rows : List (List Cell)) →
        IsWriting shelf schema table columns rows file →
        IsWriting shelf schema table columns (rows ++ cells ∷ []) new_file

  -- all rows came
  pub record RowsEnd (columns : List Column) (old : SessionView L) (file : DataFile S shelf)
      (new : SessionView L) (new_file : DataFile S shelf) : Type 0 where
    pub ready : IsReady new
    pub reached : (asked : Asked) (rows : List (List Cell)) (start : Start) →
        Reached link asked (awaits_rows old.pending.reading columns rows) start old →
        Reached link asked (is_over columns rows) start new
    pub writes : (schema table : List ℕ) (rows : List (List Cell)) →
        IsWriting shelf schema table columns rows file →
        IsWriting shelf schema table columns rows new_file

  -- why a run stopped that reads rows into a file
  abbrev pub Broke : Asked → Start → S → L → S → DumpFault → Type 0
  Broke asked start before new after (FolderNotEmpty name) = ⊥
  Broke asked start before new after File =
      StandsStill link asked start new × Rose (shelf.faults before) (shelf.faults after)
  Broke asked start before new after (InSession fault) = Halted link asked start new fault

  -- all rows were read and written to the file
  pub record Copied (columns : List Column) (old : SessionView L) (file : DataFile S shelf)
      (new : SessionView L) (new_file : DataFile S shelf) : Type 0 where
    pub rows : List (List Cell)
    pub reached : (asked : Asked) (start : Start) →
        Reached link asked (awaits_rows old.pending.reading columns []) start old →
        Reached link asked (is_over columns rows) start new
    pub writes : (schema table : List ℕ) → IsWriting shelf schema table columns [] file →
        IsWriting shelf schema table columns rows new_file
