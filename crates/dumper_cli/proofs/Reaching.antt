-- How a dump gets on, and where it stops, over a session.
use Rattle.std.proofs.Common.{◌≡◌, ◌<◌, ◌≤◌, ◌↔◌, ℕ, Bool, true, false, List, [], ◌∷◌, ◌++◌, length, Option, Some, None, Result, Ok, Err, OnOk, refl, sym, ◌∙◌, ap, subst, arith}
use Rattle.std.specs.Prelude.{IfErr}
use Rattle.link_traits.specs.Cause.{Rose}
use Rattle.link_traits.specs.declared.link.Link.{Ghosts}
use Rattle.my_session.specs.Awaited.{further, further_fault}
use Rattle.my_session.specs.Halt.{Halts}
use Rattle.my_session.specs.Session.{SessionView, Pending, wire_of, IsCounted, Runs, Asks, HearsRow, HearsEnd, rows_awaited}
use Rattle.my_session.specs.Wire.{Hears}
use Rattle.my_session.specs.declared.peer.Peer.{Peer}
use Rattle.my_session.specs.declared.fault.SessionFault.{SessionFault}
use Rattle.my_session.specs.declared.fault.SessionFault.TheVariants.{Link, Refused, Garbled, NotProtocol10, PluginUnsupported, TooLong, StreamTooLong, OutOfMemory}
use Rattle.wire_forms.specs.declared.ends.Ends.{Ends as Ending}
use Rattle.wire_forms.specs.Reading.{Reading, Further, definition, row, end, reading_after, further_of}
use Rattle.result_rows.specs.RowCells.{row_cells}
use Rattle.result_rows.specs.declared.row.Row.{Row}
use Rattle.plain_data.specs.Cell.{Cell}
use Rattle.statement_forms.specs.declared.command.Command.TheVariants.{NamesBinary}
use Rattle.statement_forms.specs.declared.form.Form.{Form}
use Rattle.statement_forms.specs.declared.form.Form.TheVariants.{Select}
use Rattle.statement_forms.specs.declared.query.Query.TheVariants.{Columns as ColumnsQuery, Rows}
use Rattle.dumper_cli.specs.Columns.{column_from, is_row_of}
use Rattle.dumper_cli.specs.Course.{Comes, heard, at_unfit, awaiting_it}
use Rattle.dumper_cli.specs.Next.{Keeps, HasPendingRows}
use Rattle.dumper_cli.specs.Run.{Start, SaidFront, Reached, StoppedBy, Halted}
use Rattle.dumper_cli.specs.Stage.{Stage, sends_names, awaits_names, asks_columns, awaits_column_count, awaits_columns, asks_rows, awaits_row_count, awaits_rows, is_over, awaiting, doing, stage_after, with_column, with_columns, stage_if, after_columns, after_rows, column_names}
use Rattle.dumper_cli.specs.Words.{Asked}
use Rattle.dumper_cli.specs.declared.column.Column.{Column}
use Rattle.dumper_cli.proofs.Calls.{Cause, Ends, halts_ends, ran, run_ends, described, query_ends}

pub Rose-later : (a b c : ℕ) → a ≤ b → Rose b c → Rose a c
Rose-later a b c le rose = omega arith

module _ {L : Type 0} (of : Ghosts L) where
  pub Keeps-same : (a : SessionView L) → Keeps of a a
  Keeps-same a = record { tells = (λ t. t, λ t. t); later = omega arith; honest = (λ h. h, λ h. h); origin = λ first same. same; peer = refl }

  pub Keeps-then : (a b c : SessionView L) → Keeps of a b → Keeps of b c → Keeps of a c
  Keeps-then a b c one two = record {
    tells = (λ t. two.tells.0 (one.tells.0 t), λ t. one.tells.1 (two.tells.1 t));
    later = let first = one.later in let second = two.later in omega arith;
    honest = (λ h. two.honest.0 (one.honest.0 h), λ h. one.honest.1 (two.honest.1 h));
    origin = λ first same. two.origin first (one.origin first same);
    peer = two.peer ∙ one.peer;
  }

  -- what a call of the session says
  pub Keeps-by : ((one next last : L) → of.same_origin one next → of.same_origin next last → of.same_origin one last) → (a b : SessionView L) → (of.tells a.link ↔ of.tells b.link) → of.faults a.link ≤ of.faults b.link → (of.honest a.link ↔ of.honest b.link) → of.same_origin a.link b.link → b.peer ≡ a.peer → Keeps of a b
  Keeps-by joins a b tells later honest origin peer = record { peer = peer; tells = tells; later = later; honest = honest; origin = λ first same. joins first a.link b.link same origin }

module _ {L : Type 0} (of : Ghosts L) (asked : Asked) where
  -- the run goes on at the next stage
  pub reached_by : (stage next : Stage) (start : Start) (old new : SessionView L) → Keeps of old new → (of.tells old.link → Comes asked start.wire stage (wire_of of old) → Comes asked start.wire next (wire_of of new)) → Reached of asked stage start old → Reached of asked next start new
  reached_by stage next start old new keeps goes at = record {
    later = let one = at.later in let two = keeps.later in omega arith;
    comes = λ t. let u = keeps.tells.1 t in goes u (at.comes u);
  }

  stopped_by : (start : Start) (now : L) (fault : SessionFault) → (fault ≡ Link → Rose start.faults (of.faults now)) → (of.tells now → Cause asked start.wire fault) → StoppedBy of asked start now fault
  stopped_by start now Link rose why = rose refl
  stopped_by start now (Refused form refusal) rose why = why
  stopped_by start now (Garbled place) rose why = why
  stopped_by start now (NotProtocol10 version) rose why = why
  stopped_by start now (PluginUnsupported name) rose why = why
  stopped_by start now (TooLong size) rose why = why
  stopped_by start now StreamTooLong rose why = why
  stopped_by start now OutOfMemory rose why = tt

  -- the run stops in a call
  pub halted_by : (stage : Stage) (start : Start) (old : SessionView L) (now : L) (fault : SessionFault) → (of.tells old.link ↔ of.tells now) → of.faults old.link ≤ of.faults now → (fault ≡ Link → Rose (of.faults old.link) (of.faults now))
      → (of.tells old.link → Comes asked start.wire stage (wire_of of old) → Ends asked start.wire fault (of.told now).sent) → Reached of asked stage start old → Halted of asked start now fault
  halted_by stage start old now fault tells later failed ends at = record {
    later = let one = at.later in omega arith;
    front = λ t. let u = tells.1 t in (ends u (at.comes u)).front;
    why = stopped_by start now fault (λ e. Rose-later start.faults (of.faults old.link) (of.faults now) at.later (failed e)) (λ t. let u = tells.1 t in (ends u (at.comes u)).why);
  }

  -- the run stops for want of memory
  pub halted_memory : (stage : Stage) (start : Start) (now : SessionView L) → Reached of asked stage start now → Halted of asked start now.link OutOfMemory
  halted_memory stage start now at = record { later = at.later; front = λ t. record { stage = stage; wire = wire_of of now; comes = at.comes t; sent_is = refl }; why = tt }

-- ---- SET NAMES

module _ {L : Type 0} (of : Ghosts L) (old new : SessionView L) where
  pub names_ok : (result : Result (Unit {0}) SessionFault) → Keeps of old new → (of.tells old.link → Runs NamesBinary (wire_of of old) result (wire_of of new)) → OnOk result ((asked : Asked) (start : Start) → Reached of asked (sends_names old.peer.ends) start old → Reached of asked (asks_columns new.peer.ends) start new)
  names_ok (Ok finished) keeps runs = λ asked start. reached_by of asked (sends_names old.peer.ends) (asks_columns new.peer.ends) start old new keeps (λ t comes. subst (λ (p : Peer). Comes asked start.wire (asks_columns p.ends) (wire_of of new)) (sym keeps.peer) (ran asked start.wire NamesBinary (sends_names old.peer.ends) (awaits_names old.peer.ends) (asks_columns old.peer.ends) refl refl (λ message. refl) (wire_of of old) (wire_of of new) comes (runs t)))
  names_ok (Err fault) keeps runs = tt

  pub names_err : (result : Result (Unit {0}) SessionFault) → (of.tells old.link ↔ of.tells new.link) → IsCounted (of.faults old.link) (of.faults new.link) result → (of.tells old.link → Runs NamesBinary (wire_of of old) result (wire_of of new)) → IfErr result (λ fault. (asked : Asked) (start : Start) → Reached of asked (sends_names old.peer.ends) start old → Halted of asked start new.link fault)
  names_err (Ok finished) tells counted runs = tt
  names_err (Err fault) tells counted runs = λ asked start. halted_by of asked (sends_names old.peer.ends) start old new.link fault tells counted.later (λ e. counted.failed (ap (λ (f : SessionFault). Err f) e)) (λ t comes. run_ends asked start.wire NamesBinary (sends_names old.peer.ends) (awaits_names old.peer.ends) (asks_columns old.peer.ends) refl refl (λ message. refl) (wire_of of old) (wire_of of new) comes fault (runs t))

-- ---- the queries

-- rows of a SELECT are pending after it
pub HasRows-asked : {L : Type 0} (new : SessionView L) (ends : Ending) (columns : ℕ) → new.has_failed ≡ false → 0 < columns → ends ≡ new.peer.ends → new.pending ≡ record { reading = rows_awaited ends columns; form = Select } → HasPendingRows new
HasRows-asked new ends columns alive some same pending = record {
  ends = ap (λ (p : Pending). p.reading.ends) pending ∙ same;
  alive = alive;
  some = subst (λ (p : Pending). 0 < p.reading.columns) (sym pending) some;
  rows = ap (λ (p : Pending). p.reading.awaited) pending;
  form = ap (λ (p : Pending). p.form) pending;
}

column_turns : (reading : Reading) (message : List ℕ) → further_of reading message ≡ definition → stage_after (awaits_columns reading []) message ≡ Some (awaits_columns (reading_after reading definition) [])
column_turns reading message is = ap (λ (f : Further). after_columns reading [] f) is

row_turns : (columns : List Column) (reading : Reading) (message : List ℕ) → further_of reading message ≡ definition → stage_after (awaits_rows reading columns []) message ≡ Some (awaits_rows (reading_after reading definition) columns [])
row_turns columns reading message is = ap (λ (f : Further). after_rows reading columns [] f) is

module _ {L : Type 0} (of : Ghosts L) (asked : Asked) (old new : SessionView L) where
  module _ (columns : ℕ) where
    pub columns_asked : Keeps of old new → new.pending.reading ≡ rows_awaited old.peer.ends columns → (of.tells old.link → Asks old.peer.ends (ColumnsQuery asked.schema asked.table) (wire_of of old) (Ok columns) (wire_of of new)) → (start : Start) → Reached of asked (asks_columns old.peer.ends) start old → Reached of asked (awaits_columns new.pending.reading []) start new
    columns_asked keeps pending asks start = reached_by of asked (asks_columns old.peer.ends) (awaits_columns new.pending.reading []) start old new keeps (λ t comes.
        subst (λ (r : Reading). Comes asked start.wire (awaits_columns r []) (wire_of of new)) (sym pending)
        (described asked start.wire old.peer.ends (ColumnsQuery asked.schema asked.table) (asks_columns old.peer.ends) (awaits_column_count old.peer.ends) (λ reading. awaits_columns reading []) refl refl (λ message. refl) (λ reading. refl) column_turns (λ steps is. is) (λ steps awaited lead. lead) (λ steps payload lead. lead) (wire_of of old) (wire_of of new) comes (asks t).steps (rows_awaited old.peer.ends columns) (wire_of of new) refl (asks t).so (asks t).leads))

    pub rows_asked : (list : List Column) → Keeps of old new → new.pending.reading ≡ rows_awaited old.peer.ends columns → (of.tells old.link → Asks old.peer.ends (Rows (column_names list) asked.schema asked.table) (wire_of of old) (Ok columns) (wire_of of new)) → (start : Start) → Reached of asked (asks_rows old.peer.ends list) start old → Reached of asked (awaits_rows new.pending.reading list []) start new
    rows_asked list keeps pending asks start = reached_by of asked (asks_rows old.peer.ends list) (awaits_rows new.pending.reading list []) start old new keeps (λ t comes.
        subst (λ (r : Reading). Comes asked start.wire (awaits_rows r list []) (wire_of of new)) (sym pending)
        (described asked start.wire old.peer.ends (Rows (column_names list) asked.schema asked.table) (asks_rows old.peer.ends list) (awaits_row_count old.peer.ends list) (λ reading. awaits_rows reading list []) refl refl (λ message. refl) (λ reading. refl) (row_turns list) (λ steps is. is) (λ steps awaited lead. lead) (λ steps payload lead. lead) (wire_of of old) (wire_of of new) comes (asks t).steps (rows_awaited old.peer.ends columns) (wire_of of new) refl (asks t).so (asks t).leads))

  module _ (fault : SessionFault) (tells : of.tells old.link ↔ of.tells new.link) (counted : IsCounted {A = ℕ} (of.faults old.link) (of.faults new.link) (Err fault)) where
    pub columns_unasked : (of.tells old.link → Asks old.peer.ends (ColumnsQuery asked.schema asked.table) (wire_of of old) (Err fault) (wire_of of new)) → (start : Start) → Reached of asked (asks_columns old.peer.ends) start old → Halted of asked start new.link fault
    columns_unasked asks start = halted_by of asked (asks_columns old.peer.ends) start old new.link fault tells counted.later (λ e. counted.failed (ap (λ (f : SessionFault). Err f) e)) (λ t comes.
        query_ends asked start.wire old.peer.ends (ColumnsQuery asked.schema asked.table) (asks_columns old.peer.ends) (awaits_column_count old.peer.ends) (λ reading. awaits_columns reading []) refl refl (λ message. refl) (λ reading. refl) column_turns (λ steps is. is) (λ steps awaited lead. lead) (λ steps payload lead. lead) (wire_of of old) (wire_of of new) comes fault (asks t))

    pub rows_unasked : (list : List Column) → (of.tells old.link → Asks old.peer.ends (Rows (column_names list) asked.schema asked.table) (wire_of of old) (Err fault) (wire_of of new)) → (start : Start) → Reached of asked (asks_rows old.peer.ends list) start old → Halted of asked start new.link fault
    rows_unasked list asks start = halted_by of asked (asks_rows old.peer.ends list) start old new.link fault tells counted.later (λ e. counted.failed (ap (λ (f : SessionFault). Err f) e)) (λ t comes.
        query_ends asked start.wire old.peer.ends (Rows (column_names list) asked.schema asked.table) (asks_rows old.peer.ends list) (awaits_row_count old.peer.ends list) (λ reading. awaits_rows reading list []) refl refl (λ message. refl) (λ reading. refl) (row_turns list) (λ steps is. is) (λ steps awaited lead. lead) (λ steps payload lead. lead) (wire_of of old) (wire_of of new) comes fault (asks t))

-- ---- the rows

module _ {L : Type 0} (of : Ghosts L) (asked : Asked) (start : Start) (old new : SessionView L) (keeps : Keeps of old new) where
  -- a message came that a session goes on at and a dump doesn't
  module _ (stage : Stage) (waits : doing asked stage ≡ awaiting (further Select old.pending.reading)) (message : List ℕ) (unfit : stage_after stage message ≡ None) where
    unfit_ends : Hears message (wire_of of old) (wire_of of new) → further_fault Select old.place (further_of old.pending.reading message) ≡ None → Comes asked start.wire stage (wire_of of old) → Ends asked start.wire (Garbled old.place) (of.told new.link).sent
    unfit_ends hears goes_on comes = record {
      front = record { stage = stage; wire = wire_of of old; comes = comes; sent_is = hears.sent };
      why = awaiting_it comes waits (at_unfit record { message = message; new = wire_of of new; hears = hears; goes_on = goes_on; unfit = unfit });
    }

  module _ (found : Row) (hears : of.tells old.link → HearsRow old.pending.reading found (wire_of of old) (wire_of of new)) where
    row_goes_on : (message : List ℕ) → further_of old.pending.reading message ≡ row (row_cells found) → further_fault Select old.place (further_of old.pending.reading message) ≡ None
    row_goes_on message is = ap (λ (f : Further). further_fault Select old.place f) is

    pub column_added : (columns more : List Column) (column : Column) → column_from (row_cells found) ≡ Some column → more ≡ columns ++ column ∷ [] → Reached of asked (awaits_columns old.pending.reading columns) start old → Reached of asked (awaits_columns old.pending.reading more) start new
    column_added columns more column column_is more_is = reached_by of asked (awaits_columns old.pending.reading columns) (awaits_columns old.pending.reading more) start old new keeps (λ t comes.
        let row = hears t in
        heard comes refl row.heard (row_goes_on row.message row.row_is)
        (ap (λ (f : Further). after_columns old.pending.reading columns f) row.row_is ∙ ap (λ (c : Option Column). with_column (awaits_columns old.pending.reading) columns c) column_is ∙ ap (λ (l : List Column). Some (awaits_columns old.pending.reading l)) (sym more_is)))

    pub row_added : (columns : List Column) (rows : List (List Cell)) → is_row_of columns (row_cells found) ≡ true → Reached of asked (awaits_rows old.pending.reading columns rows) start old → Reached of asked (awaits_rows old.pending.reading columns (rows ++ row_cells found ∷ [])) start new
    row_added columns rows fits = reached_by of asked (awaits_rows old.pending.reading columns rows) (awaits_rows old.pending.reading columns (rows ++ row_cells found ∷ [])) start old new keeps (λ t comes.
        let row = hears t in
        heard comes refl row.heard (row_goes_on row.message row.row_is)
        (ap (λ (f : Further). after_rows old.pending.reading columns rows f) row.row_is ∙ ap (λ (b : Bool). stage_if b (awaits_rows old.pending.reading columns (rows ++ row_cells found ∷ []))) fits))

    pub column_unfit : (columns : List Column) → column_from (row_cells found) ≡ None → Reached of asked (awaits_columns old.pending.reading columns) start old → Halted of asked start new.link (Garbled found.place)
    column_unfit columns none = halted_by of asked (awaits_columns old.pending.reading columns) start old new.link (Garbled found.place) keeps.tells keeps.later (λ e. absurd (cc)) (λ t comes.
        let row = hears t in
        subst (λ (p : ℕ). Ends asked start.wire (Garbled p) (of.told new.link).sent) (sym row.place_is)
        (unfit_ends (awaits_columns old.pending.reading columns) refl row.message (ap (λ (f : Further). after_columns old.pending.reading columns f) row.row_is ∙ ap (λ (c : Option Column). with_column (awaits_columns old.pending.reading) columns c) none) row.heard (row_goes_on row.message row.row_is) comes))

    pub row_unfit : (columns : List Column) (rows : List (List Cell)) → is_row_of columns (row_cells found) ≡ false → Reached of asked (awaits_rows old.pending.reading columns rows) start old → Halted of asked start new.link (Garbled found.place)
    row_unfit columns rows unfit = halted_by of asked (awaits_rows old.pending.reading columns rows) start old new.link (Garbled found.place) keeps.tells keeps.later (λ e. absurd (cc)) (λ t comes.
        let row = hears t in
        subst (λ (p : ℕ). Ends asked start.wire (Garbled p) (of.told new.link).sent) (sym row.place_is)
        (unfit_ends (awaits_rows old.pending.reading columns rows) refl row.message (ap (λ (f : Further). after_rows old.pending.reading columns rows f) row.row_is ∙ ap (λ (b : Bool). stage_if b (awaits_rows old.pending.reading columns (rows ++ row_cells found ∷ []))) unfit) row.heard (row_goes_on row.message row.row_is) comes))

    -- the run stops at a row for want of memory, or stands there
    pub row_front : (stage : Stage) → Reached of asked stage start old → of.tells new.link → SaidFront asked start.wire (of.told new.link).sent
    row_front stage at t = let u = keeps.tells.1 t in record { stage = stage; wire = wire_of of old; comes = at.comes u; sent_is = (hears u).heard.sent }

    pub row_memory : (stage : Stage) → Reached of asked stage start old → Halted of asked start new.link OutOfMemory
    row_memory stage at = record { later = let one = at.later in let two = keeps.later in omega arith; front = row_front stage at; why = tt }

  module _ (hears : of.tells old.link → HearsEnd old.pending.reading (wire_of of old) (wire_of of new)) where
    end_goes_on : (message : List ℕ) → further_of old.pending.reading message ≡ end → further_fault Select old.place (further_of old.pending.reading message) ≡ None
    end_goes_on message is = ap (λ (f : Further). further_fault Select old.place f) is

    pub rows_end : (columns : List Column) (rows : List (List Cell)) → Reached of asked (awaits_rows old.pending.reading columns rows) start old → Reached of asked (is_over columns rows) start new
    rows_end columns rows = reached_by of asked (awaits_rows old.pending.reading columns rows) (is_over columns rows) start old new keeps (λ t comes.
        let last = hears t in
        heard comes refl last.heard (end_goes_on last.message last.end_is) (ap (λ (f : Further). after_rows old.pending.reading columns rows f) last.end_is))

    columns_so : (ends : Ending) (columns : List Column) → 0 < length columns → with_columns ends columns ≡ Some (asks_rows ends columns)
    columns_so ends [] some = absurd (omega arith)
    columns_so ends (column ∷ columns) some = refl

    columns_none : (ends : Ending) (columns : List Column) → length columns ≡ 0 → with_columns ends columns ≡ None
    columns_none ends [] none = refl
    columns_none ends (column ∷ columns) none = absurd (omega (arith, none))

    pub columns_end : (columns : List Column) → 0 < length columns → old.pending.reading.ends ≡ old.peer.ends → Reached of asked (awaits_columns old.pending.reading columns) start old → Reached of asked (asks_rows new.peer.ends columns) start new
    columns_end columns some same = reached_by of asked (awaits_columns old.pending.reading columns) (asks_rows new.peer.ends columns) start old new keeps (λ t comes.
        let last = hears t in
        subst (λ (e : Ending). Comes asked start.wire (asks_rows e columns) (wire_of of new)) (same ∙ ap (λ (p : Peer). p.ends) (sym keeps.peer))
        (heard comes refl last.heard (end_goes_on last.message last.end_is) (ap (λ (f : Further). after_columns old.pending.reading columns f) last.end_is ∙ columns_so old.pending.reading.ends columns some)))

    pub no_columns : (columns : List Column) → length columns ≡ 0 → Reached of asked (awaits_columns old.pending.reading columns) start old → Halted of asked start new.link (Garbled old.place)
    no_columns columns none = halted_by of asked (awaits_columns old.pending.reading columns) start old new.link (Garbled old.place) keeps.tells keeps.later (λ e. absurd (cc)) (λ t comes.
        let last = hears t in
        unfit_ends (awaits_columns old.pending.reading columns) refl last.message (ap (λ (f : Further). after_columns old.pending.reading columns f) last.end_is ∙ columns_none old.pending.reading.ends columns none) last.heard (end_goes_on last.message last.end_is) comes)

  module _ (form_is : old.pending.form ≡ Select) (fault : SessionFault) (failed : fault ≡ Link → Rose (of.faults old.link) (of.faults new.link)) (halts : of.tells old.link → Halts (further old.pending.form old.pending.reading) (wire_of of old) fault (wire_of of new)) where
    pub row_halts : (stage : Stage) → doing asked stage ≡ awaiting (further Select old.pending.reading) → Reached of asked stage start old → Halted of asked start new.link fault
    row_halts stage waits = halted_by of asked stage start old new.link fault keeps.tells keeps.later failed (λ t comes.
        halts_ends asked start.wire stage (wire_of of old) (wire_of of new) comes (further Select old.pending.reading) waits fault (subst (λ (f : Form). Halts (further f old.pending.reading) (wire_of of old) fault (wire_of of new)) form_is (halts t)))
