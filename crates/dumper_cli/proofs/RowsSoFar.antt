-- The rows that were read and written so far.
use Rattle.std.proofs.Common.{◌≤◌, ℕ, List, [], ◌∷◌, ◌++◌, refl, ◌∙◌, arith}
use Rattle.link_traits.specs.declared.link.Link.{Ghosts as LinkGhosts}
use Rattle.link_traits.specs.declared.folder.Shelf.{Ghosts as ShelfGhosts}
use Rattle.my_session.specs.Session.{SessionView}
use Rattle.plain_data.specs.Cell.{Cell}
use Rattle.dumper_cli.specs.Next.{RowAdded, RowsEnd, Copied, Broke}
use Rattle.dumper_cli.specs.Run.{Start, Reached}
use Rattle.dumper_cli.specs.Stage.{awaits_rows}
use Rattle.dumper_cli.specs.Words.{Asked}
use Rattle.dumper_cli.specs.Writing.{IsWriting, KeepsFile}
use Rattle.dumper_cli.specs.declared.column.Column.{Column}
use Rattle.dumper_cli.specs.declared.data_file.DataFile.{DataFile}
use Rattle.dumper_cli.specs.declared.fault.DumpFault.{DumpFault}
use Rattle.dumper_cli.specs.declared.fault.DumpFault.TheVariants.{FolderNotEmpty, File, Session as InSession}
use Rattle.dumper_cli.proofs.Reaching.{Rose-later}

module _ {L S : Type 0} (link : LinkGhosts L) (shelf : ShelfGhosts S) where
  -- since then these rows came, and were written to the file
  pub record SoFar (columns : List Column) (old : SessionView L) (file : DataFile S shelf) (now : SessionView L) (now_file : DataFile S shelf) : Type 0 where
    pub rows : List (List Cell)
    pub reached : (asked : Asked) (start : Start) → Reached link asked (awaits_rows old.pending.reading columns []) start old → Reached link asked (awaits_rows now.pending.reading columns rows) start now
    pub writes : (schema table : List ℕ) → IsWriting shelf schema table columns [] file → IsWriting shelf schema table columns rows now_file

  pub SoFar-begun : (columns : List Column) (old : SessionView L) (file : DataFile S shelf) → SoFar columns old file old file
  SoFar-begun columns old file = record { rows = []; reached = λ asked start at. at; writes = λ schema table writing. writing }

  module _ (columns : List Column) (old : SessionView L) (file : DataFile S shelf) (mid : SessionView L) (mid_file : DataFile S shelf) (now : SessionView L) (now_file : DataFile S shelf) (so_far : SoFar columns old file mid mid_file) where
    pub SoFar-more : RowAdded link shelf columns mid mid_file now now_file → SoFar columns old file now now_file
    SoFar-more more = record {
      rows = so_far.rows ++ more.cells ∷ [];
      reached = λ asked start at. more.reached asked so_far.rows start (so_far.reached asked start at);
      writes = λ schema table writing. more.writes schema table so_far.rows (so_far.writes schema table writing);
    }

    pub Copied-ended : RowsEnd link shelf columns mid mid_file now now_file → Copied link shelf columns old file now now_file
    Copied-ended last = record {
      rows = so_far.rows;
      reached = λ asked start at. last.reached asked so_far.rows start (so_far.reached asked start at);
      writes = λ schema table writing. last.writes schema table so_far.rows (so_far.writes schema table writing);
    }

  pub KeepsFile-same : (a : DataFile S shelf) → KeepsFile shelf a a
  KeepsFile-same a = record { name = refl; head = refl; tells = (λ t. t, λ t. t); later = omega arith }

  pub KeepsFile-then : (a b c : DataFile S shelf) → KeepsFile shelf a b → KeepsFile shelf b c → KeepsFile shelf a c
  KeepsFile-then a b c one two = record {
    name = two.name ∙ one.name;
    head = two.head ∙ one.head;
    tells = (λ t. two.tells.0 (one.tells.0 t), λ t. one.tells.1 (two.tells.1 t));
    later = let first = one.later in let second = two.later in omega arith;
  }

  -- why a run broke off, seen from an earlier state of the shelf
  pub Broke-later : (asked : Asked) (start : Start) (before mid after : S) (new : L) (fault : DumpFault) → shelf.faults before ≤ shelf.faults mid → Broke link shelf asked start mid new after fault → Broke link shelf asked start before new after fault
  Broke-later asked start before mid after new (FolderNotEmpty name) later broke = broke
  Broke-later asked start before mid after new File later broke = (broke.0, Rose-later _ _ _ later broke.1)
  Broke-later asked start before mid after new (InSession fault) later broke = broke
