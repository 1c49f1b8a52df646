-- A session as a caller sees it, and what its calls do.
use Rattle.std.specs.Prelude.{ℕ, ◌≡◌, ◌<◌, ◌≤◌, ◌↔◌, ◌⊎◌, Bool, true, false, List, [], ◌∷◌, ◌++◌, Option, Some, None, Result, Ok, Err, IfErr, length}
use Rattle.link_traits.specs.Cause.{Rose}
use Rattle.link_traits.specs.Link.{stream}
use Rattle.link_traits.specs.declared.link.Link.{Ghosts}
use Rattle.wire_forms.specs.Reading.{Reading, row, end, idle, further_of}
use Rattle.wire_forms.specs.declared.ends.Ends.{Ends}
use Rattle.result_rows.specs.RowCells.{row_cells}
use Rattle.result_rows.specs.declared.row.Row.{Row}
use Rattle.honest_server.specs.Link.{ServedLink, TellsNoMore}
use Rattle.statement_forms.specs.Form.{query_form}
use Rattle.statement_forms.specs.Statement.{QueryHasText}
use Rattle.statement_forms.specs.Text.{command_text}
use Rattle.statement_forms.specs.declared.command.Command.{Command}
use Rattle.statement_forms.specs.declared.form.Form.{Form}
use Rattle.statement_forms.specs.declared.query.Query.{Query}
use Rattle.my_session.specs.Awaited.{further}
use Rattle.my_session.specs.Halt.{Halts, Stops}
use Rattle.my_session.specs.Statements.{IsRun, RunAwaits, RunSends, LeadAwaits, LeadSends, IsDescribed, QueryAwaits, QuerySends}
use Rattle.my_session.specs.Login.{IsLoggedIn, LoginAwaits, LoginSends}
use Rattle.my_session.specs.Wire.{Wire, Takes, Hears, IsOnward}
use Rattle.my_session.specs.declared.peer.Peer.{Peer}
use Rattle.my_session.specs.declared.fault.SessionFault.{SessionFault}
use Rattle.my_session.specs.declared.fault.SessionFault.TheVariants.{Link, Refused, NotProtocol10, PluginUnsupported, OutOfMemory}

-- the rows that are pending: where in the result set the reader is, and the form of the statement that asked for them
pub record Pending : Type 0 where
  pub reading : Reading
  pub form : Form

-- rows are awaited of so many columns, where result sets end so
abbrev pub rows_awaited : Ends → ℕ → Reading
rows_awaited ends columns = record { columns = columns; awaited = 0; ends = ends }

-- a session: its link, how many bytes were heard on it, the sequence id of the next packet, what the greeting said of the server,
-- whether the session has failed, and what is pending
pub record SessionView (L : Type 0) : Type 0 where
  pub link : L
  pub place : ℕ
  pub id : ℕ
  pub peer : Peer
  pub has_failed : Bool
  pub pending : Pending

-- a link, how many bytes were taken off it, and the sequence id of the next packet
pub record LinkAt (L : Type 0) : Type 0 where
  pub link : L
  pub place : ℕ
  pub id : ℕ

-- the link, where so many bytes were taken off it and the next packet has this id
abbrev pub link_at : {L : Type 0} → L → ℕ → ℕ → LinkAt L
link_at link place id = record { link = link; place = place; id = id }

-- what goes over its link
abbrev pub wire_of : {L : Type 0} → Ghosts L → SessionView L → Wire
wire_of of session = record {
  sent = (of.told session.link).sent;
  stream = stream (of.told session.link);
  place = session.place;
  id = session.id;
}

-- an ERR leaves a session as it is, and every other fault ends it
abbrev pub ends_session : SessionFault → Bool
ends_session (Refused form refusal) = false
ends_session fault = true

-- whether a session has failed after a call
abbrev pub failed_by : {A : Type 0} → Result A SessionFault → Bool
failed_by (Ok answer) = false
failed_by (Err fault) = ends_session fault

-- the count of faults never falls, and a fault of the link comes only where it rose
pub record IsCounted {A : Type 0} (before now : ℕ) (result : Result A SessionFault) : Type 0 where
  pub later : before ≤ now
  pub failed : result ≡ Err Link → Rose before now

-- these two come at a login alone
abbrev pub IsOfStatement : SessionFault → Type 0
IsOfStatement (NotProtocol10 version) = ⊥
IsOfStatement (PluginUnsupported name) = ⊥
IsOfStatement fault = Unit {0}

-- a fault of a statement that ends the session
pub record EndsStatement (fault : SessionFault) : Type 0 where
  pub kind : IsOfStatement fault
  pub ends : ends_session fault ≡ true

-- the faults are of this kind, and none is for want of memory
pub record NeedsNoMemory {A : Type 0} (IsSo : SessionFault → Type 0)
    (result : Result A SessionFault) : Type 0 where
  pub kind : IfErr result IsSo
  pub memory : result ≡ Err OutOfMemory → ⊥

-- the faults of a command where there is so much room: it takes no memory where its text has at most 1,000 bytes, and there is room for that
pub record RunFaultsIn (room : ℕ) (command : Command)
    (result : Result (Unit {0}) SessionFault) : Type 0 where
  pub kind : IfErr result IsOfStatement
  pub memory : 1001 ≤ room → length (command_text command) ≤ 1000 → result ≡ Err OutOfMemory → ⊥

-- the faults of a command: one whose text has at most 1,000 bytes takes no memory
pub record RunFaults (command : Command) (result : Result (Unit {0}) SessionFault) : Type 0 where
  pub kind : IfErr result IsOfStatement
  pub memory : length (command_text command) ≤ 1000 → result ≡ Err OutOfMemory → ⊥

-- what running a command does
abbrev pub Runs : Command → Wire → Result (Unit {0}) SessionFault → Wire → Type 0
Runs command old (Ok done) new = Takes (IsRun command) old new
Runs command old (Err fault) new = Stops (RunAwaits command) (RunSends command) old fault new

-- what asking a query does, where result sets end so
abbrev pub Asks : Ends → Query → Wire → Result ℕ SessionFault → Wire → Type 0
Asks ends query old (Ok columns) new =
    Takes (λ steps. IsDescribed query steps (rows_awaited ends columns)) old new
Asks ends query old (Err fault) new =
    Stops (QueryAwaits ends query) (QuerySends query) old fault new

-- the USE before a query wasn't run
abbrev pub LeadStops : Query → Wire → SessionFault → Wire → Type 0
LeadStops query old fault new = Stops (LeadAwaits query) (LeadSends query) old fault new

-- what hearing the messages before the rows does to a conversation that had come to this reading: it comes to the rows, or stops
abbrev pub Describes : Query → Reading → Wire → Result (Unit {0}) SessionFault → Wire → Type 0
Describes query reading old (Ok done) new =
    (start : Wire) → Takes (λ steps. IsDescribed query steps reading) start old →
    Takes (λ steps. IsDescribed query steps (rows_awaited reading.ends reading.columns)) start new
Describes query reading old (Err fault) new =
    (start : Wire) → Takes (λ steps. IsDescribed query steps reading) start old →
    Stops (QueryAwaits reading.ends query) (QuerySends query) start fault new

-- the rows of a query are pending, which have so many columns, and at least one
pub record HasPending (ends : Ends) (query : Query) (columns : ℕ) (pending : Pending) : Type 0 where
  pub some : 0 < columns
  pub is : pending ≡ record { reading = rows_awaited ends columns; form = query_form query }

-- what is pending after a query
abbrev pub PendingAfter : Ends → Query → Result ℕ SessionFault → Pending → Type 0
PendingAfter ends query (Ok columns) pending = HasPending ends query columns pending
PendingAfter ends query (Err fault) pending = pending.reading ≡ idle ends

-- the next message was heard and is a row with these cells
pub record HearsRow (reading : Reading) (found : Row) (old new : Wire) : Type 0 where
  pub message : List ℕ
  pub heard : Hears message old new
  pub row_is : further_of reading message ≡ row (row_cells found)
  pub place_is : found.place ≡ old.place

-- the next message was heard and is the end of the rows
pub record HearsEnd (reading : Reading) (old new : Wire) : Type 0 where
  pub message : List ℕ
  pub heard : Hears message old new
  pub end_is : further_of reading message ≡ end

-- what reading the next row does
abbrev pub TakesRow : Pending → Wire → Result (Option Row) SessionFault → Wire → Type 0
TakesRow pending old (Ok (Some found)) new = HearsRow pending.reading found old new
TakesRow pending old (Ok None) new = HearsEnd pending.reading old new
TakesRow pending old (Err fault) new = Halts (further pending.form pending.reading) old fault new

-- what is pending after it
abbrev pub PendingAfterRow : Ends → Pending → Result (Option Row) SessionFault → Pending → Type 0
PendingAfterRow ends old (Ok (Some found)) new = new ≡ old
PendingAfterRow ends old (Ok None) new = new.reading ≡ idle ends
PendingAfterRow ends old (Err fault) new = new.reading ≡ idle ends

-- a row and the end of the rows take bytes off the link, whether it tells or not
abbrev pub MovesOn : ℕ → Result (Option Row) SessionFault → ℕ → Type 0
MovesOn old (Ok found) new = IsOnward old new
MovesOn old (Err fault) new = Unit {0}

-- what a reader of rows says of one: what goes over its link, its faults, what the greeting said of the server, whether it has failed,
-- and what is pending
pub record ReaderView : Type 0 where
  pub wire : Wire
  pub faults : ℕ
  pub peer : Peer
  pub has_failed : Bool
  pub pending : Pending

-- a reader that hasn't failed, and of which no rows are pending
pub record IsFree (reader : ReaderView) : Type 0 where
  pub alive : reader.has_failed ≡ false
  pub none_pending : reader.pending.reading ≡ idle reader.peer.ends

-- the query has a text, and the reader is free for it
pub record MayAsk (query : Query) (reader : ReaderView) : Type 0 where
  pub text : QueryHasText query
  pub free : IsFree reader

-- the same server is at the other end: honest or not, of one origin, and on the same terms, and what it doesn't tell any more it doesn't
-- tell again
pub record IsSameServer {S : Type 0} (is_honest : S → Type 0) (joins : S → S → Type 0)
    (served_of : S → ServedLink) (old new : S) : Type 0 where
  pub honest : is_honest old ↔ is_honest new
  pub origin : joins old new
  pub terms : is_honest old → (served_of new).state.terms ≡ (served_of old).state.terms
  pub wide : is_honest old → TellsNoMore (served_of old).keeps_wide (served_of new).keeps_wide

-- what every call keeps of a reader: it tells as before, a fault of the link is counted, the greeting stands, and it has failed
-- exactly after a fault that ends the session
pub record KeepsReader {A : Type 0} (tells_before : Type 0) (old : ReaderView)
    (result : Result A SessionFault) (tells_now : Type 0) (new : ReaderView) : Type 0 where
  pub tells : tells_before ↔ tells_now
  pub counted : IsCounted old.faults new.faults result
  pub peer : new.peer ≡ old.peer
  pub failed : new.has_failed ≡ failed_by result

-- what reading the next row does to a reader of rows
pub record NextRow (tells : Type 0) (old : ReaderView) (result : Result (Option Row) SessionFault)
    (tells_still : Type 0) (new : ReaderView) : Type 0 where
  pub keeps : KeepsReader tells old result tells_still new
  pub pending : PendingAfterRow old.peer.ends old.pending result new.pending
  pub onward : MovesOn old.wire.place result new.wire.place
  pub takes : tells → TakesRow old.pending old.wire result new.wire

module _ {L : Type 0} (of : Ghosts L) where
  -- a link on which nothing was heard
  abbrev pub fresh : L → Wire
  fresh link = record {
    sent = (of.told link).sent;
    stream = stream (of.told link);
    place = 0;
    id = 0;
  }

  -- where a session's link is
  abbrev pub place_of : SessionView L → LinkAt L
  place_of session = link_at session.link session.place session.id

  -- a session as a reader of rows
  abbrev pub reader_view : SessionView L → ReaderView
  reader_view session =
      record {
        wire = wire_of of session;
        faults = of.faults session.link;
        peer = session.peer;
        has_failed = session.has_failed;
        pending = session.pending;
      }

  -- the same server is at the other end of a link
  abbrev pub KeepsServer : L → L → Type 0
  KeepsServer old new =
      IsSameServer of.honest of.same_origin of.served old new

  -- what every call keeps of a session
  pub record KeepsSession {A : Type 0} (old new : SessionView L)
      (result : Result A SessionFault) : Type 0 where
    pub server : KeepsServer old.link new.link
    pub reader : KeepsReader (of.tells old.link) (reader_view old) result (of.tells new.link)
        (reader_view new)

  -- a session that was logged in over a link
  pub record LoggedIn (user password : List ℕ) (link : L) (session : SessionView L) : Type 0 where
    pub tells : of.tells link ↔ of.tells session.link
    pub later : of.faults link ≤ of.faults session.link
    pub alive : session.has_failed ≡ false
    pub idle : session.pending.reading ≡ idle session.peer.ends
    pub takes : of.tells link →
        Takes (IsLoggedIn user password session.peer) (fresh link) (wire_of of session)

  -- the wire of a link that was given back
  pub record IsWireOf (link : L) (wire : Wire) : Type 0 where
    pub sent : wire.sent ≡ (of.told link).sent
    pub stream : wire.stream ≡ stream (of.told link)

  -- why a login stopped
  pub record LoginStopped (user password : List ℕ) (link given_back : L)
      (fault : SessionFault) : Type 0 where
    pub tells : of.tells link ↔ of.tells given_back
    pub later : of.faults link ≤ of.faults given_back
    pub failed : fault ≡ Link → Rose (of.faults link) (of.faults given_back)
    pub wire : Wire
    pub is_wire : IsWireOf given_back wire
    pub stops : of.tells link →
        Stops (LoginAwaits user password) (LoginSends user password) (fresh link) fault wire

  -- what closing a session does: COM_QUIT is sent, whatever comes of it, but not where the session has failed
  pub record Closes (quit : List ℕ) (session : SessionView L) (link : L) : Type 0 where
    pub tells : of.tells session.link ↔ of.tells link
    pub later : of.faults session.link ≤ of.faults link
    pub failed : session.has_failed ≡ true → link ≡ session.link
    pub quits : session.has_failed ≡ false → of.tells session.link →
        ((of.told link).sent ≡ (of.told session.link).sent ++ quit ∷ [])
        ⊎ (((of.told link).sent ≡ (of.told session.link).sent)
        × Rose (of.faults session.link) (of.faults link))
