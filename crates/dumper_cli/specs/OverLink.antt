-- A dump over one link and one shelf.
use Rattle.std.specs.Prelude.{◌≡◌, ◌⊎◌, ℕ, List, [], ◌∷◌, ◌++◌}
use Rattle.link_traits.specs.Cause.{Rose}
use Rattle.link_traits.specs.declared.link.Link.{Ghosts as LinkGhosts}
use Rattle.link_traits.specs.declared.folder.Shelf.{Ghosts as ShelfGhosts}
use Rattle.my_session.specs.Session.{SessionView, fresh}
use Rattle.my_session.specs.declared.fault.SessionFault.TheVariants.{Link, OutOfMemory}
use Rattle.my_session.specs.declared.session.TheConstants.{QUIT}
use Rattle.plain_data.specs.Cell.{Cell}
use Rattle.dumper_cli.specs.Course.{IsWhole, EndsWith, AreAll}
use Rattle.dumper_cli.specs.DataFile.{table_files}
use Rattle.dumper_cli.specs.Run.{Start, Reached, SaidFront}
use Rattle.dumper_cli.specs.Stage.{awaits_rows, sends_names, is_over}
use Rattle.dumper_cli.specs.Words.{Asked}
use Rattle.dumper_cli.specs.declared.column.Column.{Column}
use Rattle.dumper_cli.specs.declared.fault.DumpFault.{DumpFault}
use Rattle.dumper_cli.specs.declared.fault.DumpFault.TheVariants.{FolderNotEmpty, File, Session as InSession}

module _ {L S : Type 0} (link : LinkGhosts L) (shelf : ShelfGhosts S) where
  -- all rows came, and the shelf's files are those of the table
  pub record Tabled (schema table : List ℕ) (columns : List Column) (old : SessionView L)
      (before : S) (new : SessionView L) (after : S) : Type 0 where
    pub rows : List (List Cell)
    pub reached : (asked : Asked) (start : Start) →
        Reached link asked (awaits_rows old.pending.reading columns []) start old →
        Reached link asked (is_over columns rows) start new
    pub made : shelf.tells before → (shelf.told after).made ≡ table_files schema table columns rows

  -- a dump over a session, from the login to the end of the rows
  pub record Conversed (asked : Asked) (old : SessionView L) (before : S) (new : SessionView L)
      (after : S) : Type 0 where
    pub columns : List Column
    pub rows : List (List Cell)
    pub reached : (start : Start) → Reached link asked (sends_names old.peer.ends) start old →
        Reached link asked (is_over columns rows) start new
    pub made : shelf.tells before →
        (shelf.told after).made ≡ table_files asked.schema asked.table columns rows

  -- these messages were sent, to the last or to the last but COM_QUIT, which may be missing only where the count rose
  pub record AllSaid (asked : Asked) (columns : List Column) (messages : List (List ℕ))
      (old new : L) : Type 0 where
    pub are_all : (link.told old).sent ≡ [] → AreAll asked columns messages
    pub quits : ((link.told new).sent ≡ messages ++ QUIT.now ∷ [])
        ⊎ (((link.told new).sent ≡ messages) × Rose (link.faults old) (link.faults new))

  -- a whole dump, seen from the link and the shelf
  pub record LinkDumped (asked : Asked) (old : L) (before : S) (new : L) (after : S) : Type 0 where
    pub columns : List Column
    pub rows : List (List Cell)
    pub heard : link.tells new → IsWhole asked columns rows (fresh link old)
    pub all_said : (t : link.tells new) → AllSaid asked columns (heard t).wire.sent old new
    pub made : shelf.tells before →
        (shelf.told after).made ≡ table_files asked.schema asked.table columns rows

  -- why a dump stopped, seen from the link and the shelf
  abbrev pub StoppedOver : Asked → L → S → L → S → DumpFault → Type 0
  StoppedOver asked old before new after (FolderNotEmpty name) = ⊥
  StoppedOver asked old before new after File = Rose (shelf.faults before) (shelf.faults after)
  StoppedOver asked old before new after (InSession Link) = Rose (link.faults old) (link.faults new)
  StoppedOver asked old before new after (InSession OutOfMemory) = Unit {0}
  StoppedOver asked old before new after (InSession fault) =
      link.tells new → EndsWith asked (fresh link old) fault

  -- the messages of a dump that came to some stage were sent, or these and COM_QUIT, and no others
  pub record FrontSaid (asked : Asked) (old new : L) : Type 0 where
    pub sent : List (List ℕ)
    pub front : SaidFront asked (fresh link old) sent
    pub sent_is : ((link.told new).sent ≡ sent) ⊎ ((link.told new).sent ≡ sent ++ QUIT.now ∷ [])

  pub record LinkStopped (asked : Asked) (old : L) (before : S) (new : L) (after : S)
      (fault : DumpFault) : Type 0 where
    pub front : link.tells new → FrontSaid asked old new
    pub why : StoppedOver asked old before new after fault
