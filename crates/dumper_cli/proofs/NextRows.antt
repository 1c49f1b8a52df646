-- What the next row of a reply does to a dump.
use Rattle.std.proofs.Common.{◌≡◌, ◌<◌, ℕ, List, [], ◌∷◌, ◌++◌, length, Option, Some, None, Result, Ok, Err, sym, ◌∙◌, ap, subst, arith}
use Rattle.link_traits.specs.declared.link.Link.{Ghosts as LinkGhosts}
use Rattle.link_traits.specs.declared.folder.Shelf.{Ghosts as ShelfGhosts}
use Rattle.my_session.specs.Awaited.{further}
use Rattle.my_session.specs.Coming.{NextServed, reached_by}
use Rattle.my_session.specs.Session.{SessionView, Pending, NextRow, IsSameServer, reader_view}
use Rattle.my_session.specs.declared.fault.SessionFault.{SessionFault}
use Rattle.my_session.specs.declared.peer.Peer.{Peer}
use Rattle.wire_forms.specs.Reading.{idle}
use Rattle.my_session.specs.declared.fault.SessionFault.TheVariants.{Link, Refused, Garbled, NotProtocol10, PluginUnsupported, TooLong, StreamTooLong, OutOfMemory}
use Rattle.result_rows.specs.RowCells.{row_cells}
use Rattle.result_rows.specs.declared.row.Row.{Row}
use Rattle.plain_data.specs.Cell.{Cell}
use Rattle.statement_forms.specs.declared.form.Form.TheVariants.{Select}
use Rattle.dumper_cli.specs.Next.{IsReady, HasPendingRows, Keeps, ColumnAdded, ColumnsEnd, RowAdded, RowsEnd, Broke}
use Rattle.dumper_cli.specs.Run.{Start, Reached, Halted}
use Rattle.dumper_cli.specs.Stage.{Stage, awaits_columns, awaits_rows, awaiting, doing}
use Rattle.dumper_cli.specs.Taking.{AddsColumn, Untold, AddsRow, Unspelled, Unwritten}
use Rattle.dumper_cli.specs.Words.{Asked}
use Rattle.dumper_cli.specs.declared.column.Column.{Column}
use Rattle.dumper_cli.specs.declared.data_file.DataFile.{DataFile}
use Rattle.dumper_cli.specs.declared.fault.DumpFault.{DumpFault}
use Rattle.dumper_cli.specs.declared.fault.DumpFault.TheVariants.{FolderNotEmpty, File, Session as InSession}
use Rattle.dumper_cli.proofs.Reaching.{Keeps-by, column_added, row_added, column_unfit, row_unfit, row_front, row_memory, rows_end, columns_end, no_columns, row_halts}

-- what the next row does to a session
abbrev pub Nexts : {L : Type 0} → LinkGhosts L → SessionView L → Result (Option Row) SessionFault → SessionView L → Type 0
Nexts of old result new = NextRow (of.tells old.link) (reader_view of old) result (of.tells new.link) (reader_view of new) × IsSameServer {S = SessionView _} (λ s. of.honest s.link) (λ one other. of.same_origin one.link other.link) (λ s. of.served s.link) old new × (of.honest old.link → NextServed old.pending.form (reached_by (reader_view of old) (of.served old.link)) result (reached_by (reader_view of new) (of.served new.link)))

module _ {L : Type 0} (of : LinkGhosts L) (joins : (one next last : L) → of.same_origin one next → of.same_origin next last → of.same_origin one last) (old new : SessionView L) where
  pub nexts_keeps : (result : Result (Option Row) SessionFault) → Nexts of old result new → Keeps of old new
  nexts_keeps result next = Keeps-by of joins old new next.0.keeps.tells next.0.keeps.counted.later next.1.honest next.1.origin next.0.keeps.peer

  module _ (has_rows : HasPendingRows old) where
    -- ---- a row

    module _ (found : Row) (next : Nexts of old (Ok (Some found)) new) where
      rows_still : HasPendingRows new
      rows_still =
          let same : new.pending ≡ old.pending = next.0.pending in
          record {
            alive = next.0.keeps.failed;
            some = subst (λ (p : Pending). 0 < p.reading.columns) (sym same) has_rows.some;
            rows = ap (λ (p : Pending). p.reading.awaited) same ∙ has_rows.rows;
            ends = ap (λ (p : Pending). p.reading.ends) same ∙ has_rows.ends ∙ ap (λ (p : Peer). p.ends) (sym next.0.keeps.peer);
            form = ap (λ (p : Pending). p.form) same ∙ has_rows.form;
          }

      row_keeps : Keeps of old new
      row_keeps = nexts_keeps (Ok (Some found)) next

      pub nexts_column : (columns more : List Column) → AddsColumn (row_cells found) columns more → ColumnAdded of columns old more new
      nexts_column columns more adds = record {
        has_rows = rows_still;
        pending = next.0.pending;
        onward = next.0.onward;
        reached = λ asked start at. subst (λ (p : Pending). Reached of asked (awaits_columns p.reading more) start new) (sym next.0.pending) (column_added of asked start old new row_keeps found next.0.takes columns more adds.column adds.column_is adds.new_is at);
      }

      pub nexts_no_column : (columns : List Column) (fault : SessionFault) → Untold (row_cells found) found.place fault → (asked : Asked) (start : Start) → Reached of asked (awaits_columns old.pending.reading columns) start old → Halted of asked start new.link fault
      nexts_no_column columns Link why asked start at = absurd why
      nexts_no_column columns (Refused form refusal) why asked start at = absurd why
      nexts_no_column columns (Garbled place) why asked start at = subst (λ (p : ℕ). Halted of asked start new.link (Garbled p)) (sym why.0) (column_unfit of asked start old new row_keeps found next.0.takes columns why.1 at)
      nexts_no_column columns (NotProtocol10 version) why asked start at = absurd why
      nexts_no_column columns (PluginUnsupported name) why asked start at = absurd why
      nexts_no_column columns (TooLong size) why asked start at = absurd why
      nexts_no_column columns StreamTooLong why asked start at = absurd why
      nexts_no_column columns OutOfMemory why asked start at = row_memory of asked start old new row_keeps found next.0.takes (awaits_columns old.pending.reading columns) at

      unspelled_halts : (columns : List Column) (rows : List (List Cell)) (fault : SessionFault) → Unspelled columns (row_cells found) found.place fault → (asked : Asked) (start : Start) → Reached of asked (awaits_rows old.pending.reading columns rows) start old → Halted of asked start new.link fault
      unspelled_halts columns rows Link why asked start at = absurd why
      unspelled_halts columns rows (Refused form refusal) why asked start at = absurd why
      unspelled_halts columns rows (Garbled place) why asked start at = subst (λ (p : ℕ). Halted of asked start new.link (Garbled p)) (sym why.0) (row_unfit of asked start old new row_keeps found next.0.takes columns rows why.1 at)
      unspelled_halts columns rows (NotProtocol10 version) why asked start at = absurd why
      unspelled_halts columns rows (PluginUnsupported name) why asked start at = absurd why
      unspelled_halts columns rows (TooLong size) why asked start at = absurd why
      unspelled_halts columns rows StreamTooLong why asked start at = absurd why
      unspelled_halts columns rows OutOfMemory why asked start at = row_memory of asked start old new row_keeps found next.0.takes (awaits_rows old.pending.reading columns rows) at

      module _ {S : Type 0} (shelf : ShelfGhosts S) (columns : List Column) (file new_file : DataFile S shelf) where
        pub nexts_row : AddsRow shelf columns (row_cells found) file new_file → RowAdded of shelf columns old file new new_file
        nexts_row adds = record {
          has_rows = rows_still;
          pending = next.0.pending;
          onward = next.0.onward;
          cells = row_cells found;
          reached = λ asked rows start at.
              subst (λ (p : Pending). Reached of asked (awaits_rows p.reading columns (rows ++ row_cells found ∷ [])) start new) (sym next.0.pending) (row_added of asked start old new row_keeps found next.0.takes columns rows adds.fits at);
          writes = adds.writes;
        }

        pub nexts_no_row : (fault : DumpFault) → Unwritten shelf columns (row_cells found) found.place file new_file fault → (asked : Asked) (rows : List (List Cell)) (start : Start) → Reached of asked (awaits_rows old.pending.reading columns rows) start old → Broke of shelf asked start file.shelf new.link new_file.shelf fault
        nexts_no_row (FolderNotEmpty name) why asked rows start at = absurd why
        nexts_no_row File why asked rows start at = (
          record { later = (let one = at.later in let two = next.0.keeps.counted.later in omega arith); front = row_front of asked start old new row_keeps found next.0.takes (awaits_rows old.pending.reading columns rows) at },
          why,
        )
        nexts_no_row (InSession fault) why asked rows start at = unspelled_halts columns rows fault why asked start at

    -- ---- the end

    module _ (next : Nexts of old (Ok None) new) where
      end_ready : IsReady new
      end_ready = record { alive = next.0.keeps.failed; none_pending = next.0.pending ∙ ap (λ (p : Peer). idle p.ends) (sym next.0.keeps.peer) }

      end_keeps : Keeps of old new
      end_keeps = nexts_keeps (Ok None) next

      pub nexts_columns_end : (columns : List Column) → 0 < length columns → ColumnsEnd of columns old columns new
      nexts_columns_end columns some = record {
        ready = end_ready;
        some = some;
        reached = λ asked start at. columns_end of asked start old new end_keeps next.0.takes columns some has_rows.ends at;
      }

      pub nexts_no_columns : (columns : List Column) → length columns ≡ 0 → (asked : Asked) (start : Start) → Reached of asked (awaits_columns old.pending.reading columns) start old → Halted of asked start new.link (Garbled old.place)
      nexts_no_columns columns none asked start at = no_columns of asked start old new end_keeps next.0.takes columns none at

      pub nexts_rows_end : {S : Type 0} (shelf : ShelfGhosts S) (columns : List Column) (file : DataFile S shelf) → RowsEnd of shelf columns old file new file
      nexts_rows_end shelf columns file = record {
        ready = end_ready;
        reached = λ asked rows start at. rows_end of asked start old new end_keeps next.0.takes columns rows at;
        writes = λ schema table rows writing. writing;
      }

    -- ---- a fault

    pub nexts_halt : (fault : SessionFault) → Nexts of old (Err fault) new → (asked : Asked) (start : Start) (stage : Stage) → doing asked stage ≡ awaiting (further Select old.pending.reading) → Reached of asked stage start old → Halted of asked start new.link fault
    nexts_halt fault next asked start stage waits at =
        row_halts of asked start old new (nexts_keeps (Err fault) next) has_rows.form fault (λ e. next.0.keeps.counted.failed (ap (λ (f : SessionFault). Err f) e)) next.0.takes stage waits at
