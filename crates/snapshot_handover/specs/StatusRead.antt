-- What asking for the position of the binary log does: the status query, its first row, and its end.
use Rattle.std.specs.Prelude.{ℕ, ◌≡◌, ◌<◌, ◌↔◌, ◌⊎◌, false, List, [], ◌∷◌, ◌++◌, Option, Some, None, Result, Ok, Err, IfErr}
use Rattle.honest_server.specs.State.{Given, State}
use Rattle.link_traits.specs.declared.link.Link.{Ghosts as LinkGhosts}
use Rattle.my_session.specs.Asked.{AsksServed}
use Rattle.my_session.specs.Awaited.{further}
use Rattle.my_session.specs.Coming.{NextServed, reached_by}
use Rattle.my_session.specs.Halt.{Halts}
use Rattle.my_session.specs.Served.{given}
use Rattle.my_session.specs.Session.{Asks, HearsEnd, HearsRow, IsCounted, IsFree, IsOfStatement, IsSameServer, KeepsReader, NextRow, Pending, PendingAfter, ReaderView, SessionView, failed_by, rows_awaited, wire_of}
use Rattle.my_session.specs.Shown.{KeepsOwn}
use Rattle.my_session.specs.Wire.{Wire}
use Rattle.my_session.specs.declared.fault.SessionFault.{SessionFault}
use Rattle.my_session.specs.declared.fault.SessionFault.TheVariants.{Link, Refused, Garbled, NotProtocol10, PluginUnsupported, TooLong, StreamTooLong, OutOfMemory}
use Rattle.my_session.specs.declared.reads.Reads.{Ghosts}
use Rattle.plain_data.specs.Cell.{Cell}
use Rattle.result_rows.specs.RowCells.{row_cells}
use Rattle.result_rows.specs.declared.row.Row.{Row}
use Rattle.server_data.specs.Fold.{mark}
use Rattle.server_data.specs.declared.data.Position.{Position}
use Rattle.statement_forms.specs.Form.{query_form}
use Rattle.statement_forms.specs.declared.query.Query.{Query}
use Rattle.wire_forms.specs.declared.ends.Ends.{Ends}
use Rattle.snapshot_handover.specs.Handover.{IsFrozen}
use Rattle.snapshot_handover.specs.Status.{SaysNoPosition, SaysPosition, status_query}

-- ---- on the wire

-- why no position is made of a row that began at this place: it says none, or there is no memory for the one that it says
abbrev pub MakesNoPosition : List Cell → ℕ → SessionFault → Type 0
MakesNoPosition cells place (Garbled at) = (at ≡ place) × SaysNoPosition cells
MakesNoPosition cells place OutOfMemory = (position : Position) × SaysPosition cells position
MakesNoPosition cells place Link = ⊥
MakesNoPosition cells place (Refused form refusal) = ⊥
MakesNoPosition cells place (NotProtocol10 version) = ⊥
MakesNoPosition cells place (PluginUnsupported name) = ⊥
MakesNoPosition cells place (TooLong size) = ⊥
MakesNoPosition cells place StreamTooLong = ⊥

-- the next message was heard, and is a row that says this position
pub record HearsPosition (pending : Pending) (position : Position) (old new : Wire) : Type 0 where
  pub found : Row
  pub heard : HearsRow pending.reading found old new
  pub says : SaysPosition (row_cells found) position

-- a row was heard that says this position, and then the end
pub record HearsOnePosition (pending : Pending) (position : Position)
    (old new : Wire) : Type 0 where
  pub middle : Wire
  pub first : HearsPosition pending position old middle
  pub ended : HearsEnd pending.reading middle new

-- why that wasn't so: no message came that can be taken for a row or the end, or a row says no position, or is the second
pub data HearsNoPosition (pending : Pending) (old : Wire) (fault : SessionFault)
    (new : Wire) : Type 0 where
  at_first : Halts (further pending.form pending.reading) old fault new →
      HearsNoPosition pending old fault new
  at_row : (found : Row) → HearsRow pending.reading found old new →
      MakesNoPosition (row_cells found) found.place fault → HearsNoPosition pending old fault new
  at_end : (position : Position) (middle : Wire) → HearsPosition pending position old middle →
      Halts (further pending.form pending.reading) middle fault new →
      HearsNoPosition pending old fault new
  at_second : (position : Position) (middle : Wire) (other : Row) →
      HearsPosition pending position old middle → HearsRow pending.reading other middle new →
      fault ≡ Garbled other.place → HearsNoPosition pending old fault new

-- what hearing the rows of a status does
abbrev pub HearsStatus : Pending → Wire → Result (Option Position) SessionFault → Wire → Type 0
HearsStatus pending old (Ok None) new = HearsEnd pending.reading old new
HearsStatus pending old (Ok (Some position)) new = HearsOnePosition pending position old new
HearsStatus pending old (Err fault) new = HearsNoPosition pending old fault new

-- the status was asked for, and its rows were heard
pub record HearsAsked (ends : Ends) (query : Query) (old : Wire)
    (result : Result (Option Position) SessionFault) (new : Wire) : Type 0 where
  pub columns : ℕ
  pub middle : Wire
  pub asks : Asks ends query old (Ok columns) middle
  pub hears : HearsStatus (record { reading = rows_awaited ends columns; form = query_form query })
      middle result new

-- what asking for the position does, where result sets end so
abbrev pub AsksPosition : Ends → Query → Wire → Result (Option Position) SessionFault → Wire →
    Type 0
AsksPosition ends query old (Ok found) new = HearsAsked ends query old (Ok found) new
AsksPosition ends query old (Err fault) new =
    Asks ends query old (Err fault) new ⊎ HearsAsked ends query old (Err fault) new

-- ---- at an honest server

-- what is told at what is seen: its mark, and nothing is garbled; only an unwilling server refuses
abbrev pub TellsMark : State → Result (Option Position) SessionFault → Type 0
TellsMark state (Ok found) = found ≡ mark state.seen
TellsMark state (Err Link) = Unit {0}
TellsMark state (Err (Refused form refusal)) = state.terms.server.willing ≡ false
TellsMark state (Err (Garbled place)) = ⊥
TellsMark state (Err (NotProtocol10 version)) = ⊥
TellsMark state (Err (PluginUnsupported name)) = ⊥
TellsMark state (Err (TooLong size)) = Unit {0}
TellsMark state (Err StreamTooLong) = Unit {0}
TellsMark state (Err OutOfMemory) = Unit {0}

-- a refusal is the last of the ERR answers, with its form
abbrev pub EndsWithErr : List Given → Result (Option Position) SessionFault → List Given → Type 0
EndsWithErr old (Ok found) new = new ≡ old
EndsWithErr old (Err (Refused form refusal)) new = new ≡ old ++ given form refusal ∷ []
EndsWithErr old (Err fault) new = Unit {0}

-- what asking for the position does while the read lock is held: it tells the mark of what is seen, of which nothing changes
pub record ServesPosition (old : State) (result : Result (Option Position) SessionFault)
    (new : State) : Type 0 where
  pub own : KeepsOwn old new
  pub frozen : IsFrozen new
  pub seen : new.seen ≡ old.seen
  pub tells : TellsMark old result
  pub errors : EndsWithErr old.errors result new.errors

-- ---- of a reader

-- what asking for the position keeps of a reader: it is free after it, unless the fault ends the session
pub record KeepsAsking (tells_before : Type 0) (old : ReaderView)
    (result : Result (Option Position) SessionFault) (tells_now : Type 0)
    (new : ReaderView) : Type 0 where
  pub tells : tells_before ↔ tells_now
  pub counted : IsCounted old.faults new.faults result
  pub peer : new.peer ≡ old.peer
  pub free : failed_by result ≡ false → IsFree new

-- a row or the end can be heard
pub record AwaitsNext (reader : ReaderView) : Type 0 where
  pub alive : reader.has_failed ≡ false
  pub pending : 0 < reader.pending.reading.columns
  pub rows : reader.pending.reading.awaited ≡ 0

-- what is made of the first row or the end
abbrev pub MakesFirst : Result (Option Row) SessionFault → Result (Option Position) SessionFault →
    Type 0
MakesFirst (Ok (Some found)) (Ok (Some position)) = SaysPosition (row_cells found) position
MakesFirst (Ok (Some found)) (Ok None) = ⊥
MakesFirst (Ok (Some found)) (Err fault) = MakesNoPosition (row_cells found) found.place fault
MakesFirst (Ok None) result = result ≡ Ok None
MakesFirst (Err fault) result = result ≡ Err fault

-- what is made of what comes after it
abbrev pub MakesEnd : Result (Option Row) SessionFault → Result (Unit {0}) SessionFault → Type 0
MakesEnd (Ok (Some other)) result = result ≡ Err (Garbled other.place)
MakesEnd (Ok None) result = result ≡ Ok tt
MakesEnd (Err fault) result = result ≡ Err fault

module _ {R : Type 0} (of : Ghosts R) where
  -- a query was asked
  pub record AskedOf (query : Query) (old : R) (result : Result ℕ SessionFault)
      (new : R) : Type 0 where
    pub server : IsSameServer of.honest of.same_origin of.served old new
    pub reader : KeepsReader (of.tells old) (of.view old) result (of.tells new) (of.view new)
    pub pending : PendingAfter (of.view old).peer.ends query result (of.view new).pending
    pub fault : IfErr result IsOfStatement
    pub asks : of.tells old →
        Asks (of.view old).peer.ends query (of.view old).wire result (of.view new).wire
    pub served : of.honest old →
        AsksServed query (of.served old).state result (reached_by (of.view new) (of.served new))

  -- the next row was read
  abbrev pub NextOf : R → Result (Option Row) SessionFault → R → Type 0
  NextOf old next new =
      NextRow (of.tells old) (of.view old) next (of.tells new) (of.view new)
      × IsSameServer of.honest of.same_origin of.served old new
      × (of.honest old → NextServed (of.view old).pending.form
      (reached_by (of.view old) (of.served old)) next (reached_by (of.view new) (of.served new)))

  -- the next row was read, and this was made of it
  pub record ReadsNext {A : Type 0}
      (Made : Result (Option Row) SessionFault → Result A SessionFault → Type 0) (old : R)
      (result : Result A SessionFault) (new : R) : Type 0 where
    pub next : Result (Option Row) SessionFault
    pub next_of : NextOf old next new
    pub made : Made next result

  -- the rows of a status were read: the first, and, where it says a position, what comes after it
  pub data ReadsRows (old : R) (result : Result (Option Position) SessionFault)
      (new : R) : Type 0 where
    no_row : ReadsNext MakesFirst old (Ok None) new → result ≡ Ok None → ReadsRows old result new
    no_position : (fault : SessionFault) → ReadsNext MakesFirst old (Err fault) new →
        result ≡ Err fault → ReadsRows old result new
    one_row : (position : Position) (middle : R) →
        ReadsNext MakesFirst old (Ok (Some position)) middle →
        ReadsNext MakesEnd middle (Ok tt) new →
        result ≡ Ok (Some position) → ReadsRows old result new
    no_end : (position : Position) (middle : R) (fault : SessionFault) →
        ReadsNext MakesFirst old (Ok (Some position)) middle →
        ReadsNext MakesEnd middle (Err fault) new →
        result ≡ Err fault → ReadsRows old result new

  -- a status was asked for, and its rows were read
  pub data ReadsStatus (query : Query) (old : R) (result : Result (Option Position) SessionFault)
      (new : R) : Type 0 where
    not_asked : (fault : SessionFault) → AskedOf query old (Err fault) new → result ≡ Err fault →
        ReadsStatus query old result new
    asked : (columns : ℕ) (middle : R) → AskedOf query old (Ok columns) middle →
        ReadsRows middle result new → ReadsStatus query old result new

-- where the link of a session tells what goes over it, this is what asking for the position does there
abbrev pub AsksOverLink : {L : Type 0} → LinkGhosts L → SessionView L →
    Result (Option Position) SessionFault → SessionView L → Type 0
AsksOverLink of old result new =
    of.tells old.link →
    AsksPosition old.peer.ends (status_query old.peer.newer) (wire_of of old) result
    (wire_of of new)
