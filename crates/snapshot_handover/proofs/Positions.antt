-- What asking for the position keeps, and what goes over the wire.
use Rattle.std.proofs.Common.{◌≡◌, ◌≤◌, ◌↔◌, ℕ, true, List, refl, sym, ◌∙◌, ap, subst, arith, inl, inr, ◌⊎◌, Option, Some, None, Result, Ok, Err}
use Rattle.link_traits.specs.Cause.{Rose}
use Rattle.my_session.specs.Session.{IsSameServer, Pending, TakesRow, ends_session}
use Rattle.my_session.specs.declared.fault.SessionFault.{SessionFault}
use Rattle.my_session.specs.declared.fault.SessionFault.TheVariants.{Link, Refused, Garbled, NotProtocol10, PluginUnsupported, TooLong, StreamTooLong, OutOfMemory}
use Rattle.my_session.specs.declared.peer.Peer.{Peer}
use Rattle.my_session.specs.declared.reads.Reads.{Ghosts}
use Rattle.plain_data.specs.Cell.{Cell}
use Rattle.result_rows.specs.RowCells.{row_cells}
use Rattle.result_rows.specs.declared.row.Row.{Row}
use Rattle.server_data.specs.declared.data.Position.{Position}
use Rattle.statement_forms.specs.declared.query.Query.{Query}
use Rattle.wire_forms.specs.Reading.{idle}
use Rattle.snapshot_handover.specs.Status.{SaysPosition}
use Rattle.snapshot_handover.specs.StatusRead.{AskedOf, AsksPosition, HearsAsked, HearsStatus, KeepsAsking, NextOf, ReadsRows, ReadsStatus, ReadsNext, MakesEnd, MakesFirst, MakesNoPosition, asked, at_end, at_first, at_row, at_second, no_end, no_position, no_row, not_asked, one_row}

-- a fault of which no position is made ends the session, and is none of the link
unsaid_ends : (cells : List Cell) (place : ℕ) (fault : SessionFault) → MakesNoPosition cells place fault → (ends_session fault ≡ true) × (fault ≡ Link → ⊥)
unsaid_ends cells place (Garbled at) unsaid = (refl, λ is. cc)
unsaid_ends cells place OutOfMemory unsaid = (refl, λ is. cc)
unsaid_ends cells place Link unsaid = absurd unsaid
unsaid_ends cells place (Refused form refusal) unsaid = absurd unsaid
unsaid_ends cells place (NotProtocol10 version) unsaid = absurd unsaid
unsaid_ends cells place (PluginUnsupported name) unsaid = absurd unsaid
unsaid_ends cells place (TooLong size) unsaid = absurd unsaid
unsaid_ends cells place StreamTooLong unsaid = absurd unsaid

-- ---- what each step was

module _ {R : Type 0} (of : Ghosts R) where
  -- a row was read that says this position
  pub record FirstSays (position : Position) (old new : R) : Type 0 where
    pub found : Row
    pub next : NextOf of old (Ok (Some found)) new
    pub says : SaysPosition (row_cells found) position

  -- a row was read of which no position is made
  pub record FirstUnsaid (fault : SessionFault) (old new : R) : Type 0 where
    pub found : Row
    pub next : NextOf of old (Ok (Some found)) new
    pub unsaid : MakesNoPosition (row_cells found) found.place fault

  -- a row was read in the place of the end
  pub record SecondRow (fault : SessionFault) (old new : R) : Type 0 where
    pub other : Row
    pub next : NextOf of old (Ok (Some other)) new
    pub fault_is : fault ≡ Garbled other.place

  first_none_by : (old new : R) (next : Result (Option Row) SessionFault) → NextOf of old next new → MakesFirst next (Ok None) → NextOf of old (Ok None) new
  first_none_by old new (Ok (Some found)) next_of made = absurd made
  first_none_by old new (Ok None) next_of made = next_of
  first_none_by old new (Err fault) next_of made = absurd (cc)

  pub first_none : (old new : R) → ReadsNext of MakesFirst old (Ok None) new → NextOf of old (Ok None) new
  first_none old new takes = first_none_by old new takes.next takes.next_of takes.made

  first_some_by : (old new : R) (position : Position) (next : Result (Option Row) SessionFault) → NextOf of old next new → MakesFirst next (Ok (Some position)) → FirstSays position old new
  first_some_by old new position (Ok (Some found)) next_of made = record { found = found; next = next_of; says = made }
  first_some_by old new position (Ok None) next_of made = absurd (cc)
  first_some_by old new position (Err fault) next_of made = absurd (cc)

  pub first_some : (old new : R) (position : Position) → ReadsNext of MakesFirst old (Ok (Some position)) new → FirstSays position old new
  first_some old new position takes = first_some_by old new position takes.next takes.next_of takes.made

  first_err_by : (old new : R) (fault : SessionFault) (next : Result (Option Row) SessionFault) → NextOf of old next new → MakesFirst next (Err fault) → NextOf of old (Err fault) new ⊎ FirstUnsaid fault old new
  first_err_by old new fault (Ok (Some found)) next_of made = inr (record { found = found; next = next_of; unsaid = made })
  first_err_by old new fault (Ok None) next_of made = absurd (cc)
  first_err_by old new fault (Err other) next_of made =
      let same : other ≡ fault = cc in
      inl (subst (λ (f : SessionFault). NextOf of old (Err f) new) same next_of)

  pub first_err : (old new : R) (fault : SessionFault) → ReadsNext of MakesFirst old (Err fault) new → NextOf of old (Err fault) new ⊎ FirstUnsaid fault old new
  first_err old new fault takes = first_err_by old new fault takes.next takes.next_of takes.made

  end_ok_by : (old new : R) (next : Result (Option Row) SessionFault) → NextOf of old next new → MakesEnd next (Ok tt) → NextOf of old (Ok None) new
  end_ok_by old new (Ok (Some other)) next_of made = absurd (cc)
  end_ok_by old new (Ok None) next_of made = next_of
  end_ok_by old new (Err fault) next_of made = absurd (cc)

  pub end_ok : (old new : R) → ReadsNext of MakesEnd old (Ok tt) new → NextOf of old (Ok None) new
  end_ok old new takes = end_ok_by old new takes.next takes.next_of takes.made

  end_err_by : (old new : R) (fault : SessionFault) (next : Result (Option Row) SessionFault) → NextOf of old next new → MakesEnd next (Err fault) → NextOf of old (Err fault) new ⊎ SecondRow fault old new
  end_err_by old new fault (Ok (Some other)) next_of made = inr (record { other = other; next = next_of; fault_is = cc })
  end_err_by old new fault (Ok None) next_of made = absurd (cc)
  end_err_by old new fault (Err other) next_of made =
      let same : other ≡ fault = cc in
      inl (subst (λ (f : SessionFault). NextOf of old (Err f) new) same next_of)

  pub end_err : (old new : R) (fault : SessionFault) → ReadsNext of MakesEnd old (Err fault) new → NextOf of old (Err fault) new ⊎ SecondRow fault old new
  end_err old new fault takes = end_err_by old new fault takes.next takes.next_of takes.made

  -- ---- the same server is at the other end

  abbrev pub Same : R → R → Type 0
  Same old new = IsSameServer of.honest of.same_origin of.served old new

  module _ (joins : (one next last : R) → of.same_origin one next → of.same_origin next last → of.same_origin one last) where
    same_on : (old middle new : R) → Same old middle → Same middle new → Same old new
    same_on old middle new first later = record {
      honest = (λ h. later.honest.0 (first.honest.0 h), λ h. first.honest.1 (later.honest.1 h));
      origin = joins old middle new first.origin later.origin;
      terms = λ h. later.terms (first.honest.0 h) ∙ first.terms h;
      wide = λ h now. first.wide h (later.wide (first.honest.0 h) now);
    }

    rows_same_err : (old new : R) (fault : SessionFault) → NextOf of old (Err fault) new ⊎ FirstUnsaid fault old new → Same old new
    rows_same_err old new fault (inl next) = next.1
    rows_same_err old new fault (inr unsaid) = unsaid.next.1

    end_same_err : (old new : R) (fault : SessionFault) → NextOf of old (Err fault) new ⊎ SecondRow fault old new → Same old new
    end_same_err old new fault (inl next) = next.1
    end_same_err old new fault (inr second) = second.next.1

    rows_same : (old new : R) (result : Result (Option Position) SessionFault) → ReadsRows of old result new → Same old new
    rows_same old new result (no_row takes is) = (first_none old new takes).1
    rows_same old new result (no_position fault takes is) = rows_same_err old new fault (first_err old new fault takes)
    rows_same old new result (one_row position middle first end is) =
        same_on old middle new (first_some old middle position first).next.1 (end_ok middle new end).1
    rows_same old new result (no_end position middle fault first end is) =
        same_on old middle new (first_some old middle position first).next.1 (end_same_err middle new fault (end_err middle new fault end))

    pub status_same : (query : Query) (old new : R) (result : Result (Option Position) SessionFault) → ReadsStatus of query old result new → Same old new
    status_same query old new result (not_asked fault of_query is) = of_query.server
    status_same query old new result (asked columns middle of_query rows) = same_on old middle new of_query.server (rows_same middle new result rows)

  -- ---- what is kept

  -- what every call keeps
  record Kept (old new : R) : Type 0 where
    tells : of.tells old ↔ of.tells new
    later : (of.view old).faults ≤ (of.view new).faults
    peer : (of.view new).peer ≡ (of.view old).peer

  abbrev Asking : R → Result (Option Position) SessionFault → R → Type 0
  Asking old result new = KeepsAsking (of.tells old) (of.view old) result (of.tells new) (of.view new)

  kept_next : (old new : R) (next : Result (Option Row) SessionFault) → NextOf of old next new → Kept old new
  kept_next old new next of_next = record { tells = of_next.0.keeps.tells; later = of_next.0.keeps.counted.later; peer = of_next.0.keeps.peer }

  kept_asked : (query : Query) (old new : R) (result : Result ℕ SessionFault) → AskedOf of query old result new → Kept old new
  kept_asked query old new result of_query = record { tells = of_query.reader.tells; later = of_query.reader.counted.later; peer = of_query.reader.peer }

  asking_on : (old middle new : R) (result : Result (Option Position) SessionFault) → Kept old middle → Asking middle result new → Asking old result new
  asking_on old middle new result first later = record {
    tells = (λ t. later.tells.0 (first.tells.0 t), λ t. first.tells.1 (later.tells.1 t));
    counted = record {
      later = omega (arith, first.later, later.counted.later);
      failed = λ is. let rose : Rose (of.view middle).faults (of.view new).faults = later.counted.failed is in omega (arith, rose, first.later);
    };
    peer = later.peer ∙ first.peer;
    free = later.free;
  }

  -- the last step gave no fault
  asking_ok : (old new : R) (found : Option Position) → NextOf of old (Ok None) new → Asking old (Ok found) new
  asking_ok old new found of_next = record {
    tells = of_next.0.keeps.tells;
    counted = record { later = of_next.0.keeps.counted.later; failed = λ is. absurd (cc) };
    peer = of_next.0.keeps.peer;
    free = λ alive. record {
      alive = of_next.0.keeps.failed;
      none_pending = of_next.0.pending ∙ ap (λ (p : Peer). idle p.ends) (sym of_next.0.keeps.peer);
    };
  }

  -- it gave a fault of its own
  asking_err : (old new : R) (fault : SessionFault) → NextOf of old (Err fault) new → Asking old (Err fault) new
  asking_err old new fault of_next = record {
    tells = of_next.0.keeps.tells;
    counted = record { later = of_next.0.keeps.counted.later; failed = λ is. let link : fault ≡ Link = cc in of_next.0.keeps.counted.failed (ap (λ (f : SessionFault). Err f) link) };
    peer = of_next.0.keeps.peer;
    free = λ alive. record {
      alive = of_next.0.keeps.failed ∙ alive;
      none_pending = of_next.0.pending ∙ ap (λ (p : Peer). idle p.ends) (sym of_next.0.keeps.peer);
    };
  }

  -- a row was read, and the answer is a fault that ends the session
  asking_bad : (old new : R) (found : Row) (fault : SessionFault) → ends_session fault ≡ true → (fault ≡ Link → ⊥) → NextOf of old (Ok (Some found)) new → Asking old (Err fault) new
  asking_bad old new found fault ends other of_next = record {
    tells = of_next.0.keeps.tells;
    counted = record { later = of_next.0.keeps.counted.later; failed = λ is. absurd (other (cc)) };
    peer = of_next.0.keeps.peer;
    free = λ alive. absurd (cc (ends, alive));
  }

  asking_rows_err : (old new : R) (fault : SessionFault) → NextOf of old (Err fault) new ⊎ FirstUnsaid fault old new → Asking old (Err fault) new
  asking_rows_err old new fault (inl next) = asking_err old new fault next
  asking_rows_err old new fault (inr unsaid) =
      let ends = unsaid_ends (row_cells unsaid.found) unsaid.found.place fault unsaid.unsaid in
      asking_bad old new unsaid.found fault ends.0 ends.1 unsaid.next

  asking_end_err : (old new : R) (fault : SessionFault) → NextOf of old (Err fault) new ⊎ SecondRow fault old new → Asking old (Err fault) new
  asking_end_err old new fault (inl next) = asking_err old new fault next
  asking_end_err old new fault (inr second) =
      asking_bad old new second.other fault (ap (λ (f : SessionFault). ends_session f) second.fault_is) (λ is. cc (second.fault_is, is)) second.next

  asking_rows : (old new : R) (result : Result (Option Position) SessionFault) → ReadsRows of old result new → Asking old result new
  asking_rows old new result (no_row takes is) =
      subst (λ (r : Result (Option Position) SessionFault). Asking old r new) (sym is) (asking_ok old new None (first_none old new takes))
  asking_rows old new result (no_position fault takes is) =
      subst (λ (r : Result (Option Position) SessionFault). Asking old r new) (sym is) (asking_rows_err old new fault (first_err old new fault takes))
  asking_rows old new result (one_row position middle first end is) =
      let says = first_some old middle position first in
      subst (λ (r : Result (Option Position) SessionFault). Asking old r new) (sym is)
      (asking_on old middle new (Ok (Some position)) (kept_next old middle (Ok (Some says.found)) says.next) (asking_ok middle new (Some position) (end_ok middle new end)))
  asking_rows old new result (no_end position middle fault first end is) =
      let says = first_some old middle position first in
      subst (λ (r : Result (Option Position) SessionFault). Asking old r new) (sym is)
      (asking_on old middle new (Err fault) (kept_next old middle (Ok (Some says.found)) says.next) (asking_end_err middle new fault (end_err middle new fault end)))

  asking_unasked : (query : Query) (old new : R) (fault : SessionFault) → AskedOf of query old (Err fault) new → Asking old (Err fault) new
  asking_unasked query old new fault of_query = record {
    tells = of_query.reader.tells;
    counted = record { later = of_query.reader.counted.later; failed = λ is. let link : fault ≡ Link = cc in of_query.reader.counted.failed (ap (λ (f : SessionFault). Err f) link) };
    peer = of_query.reader.peer;
    free = λ alive. record {
      alive = of_query.reader.failed ∙ alive;
      none_pending = of_query.pending ∙ ap (λ (p : Peer). idle p.ends) (sym of_query.reader.peer);
    };
  }

  pub status_keeps : (query : Query) (old new : R) (result : Result (Option Position) SessionFault) → ReadsStatus of query old result new → Asking old result new
  status_keeps query old new result (not_asked fault of_query is) =
      subst (λ (r : Result (Option Position) SessionFault). Asking old r new) (sym is) (asking_unasked query old new fault of_query)
  status_keeps query old new result (asked columns middle of_query rows) =
      asking_on old middle new result (kept_asked query old middle (Ok columns) of_query) (asking_rows middle new result rows)

  -- ---- what goes over the wire

  abbrev Hears : R → Result (Option Position) SessionFault → R → Type 0
  Hears old result new = of.tells old → HearsStatus (of.view old).pending (of.view old).wire result (of.view new).wire

  hears_rows_err : (old new : R) (fault : SessionFault) → NextOf of old (Err fault) new ⊎ FirstUnsaid fault old new → Hears old (Err fault) new
  hears_rows_err old new fault (inl next) tells = at_first (next.0.takes tells)
  hears_rows_err old new fault (inr unsaid) tells = at_row unsaid.found (unsaid.next.0.takes tells) unsaid.unsaid

  hears_end_err : (old middle new : R) (position : Position) (fault : SessionFault) → FirstSays position old middle → NextOf of middle (Err fault) new ⊎ SecondRow fault middle new → Hears old (Err fault) new
  hears_end_err old middle new position fault first (inl next) tells =
      let same : (of.view middle).pending ≡ (of.view old).pending = first.next.0.pending in
      at_end position (of.view middle).wire
      (record { found = first.found; heard = first.next.0.takes tells; says = first.says })
      (subst (λ (p : Pending). TakesRow p (of.view middle).wire (Err fault) (of.view new).wire) same (next.0.takes (first.next.0.keeps.tells.0 tells)))
  hears_end_err old middle new position fault first (inr second) tells =
      let same : (of.view middle).pending ≡ (of.view old).pending = first.next.0.pending in
      at_second position (of.view middle).wire second.other
      (record { found = first.found; heard = first.next.0.takes tells; says = first.says })
      (subst (λ (p : Pending). TakesRow p (of.view middle).wire (Ok (Some second.other)) (of.view new).wire) same (second.next.0.takes (first.next.0.keeps.tells.0 tells)))
      second.fault_is

  hears_one : (old middle new : R) (position : Position) → FirstSays position old middle → NextOf of middle (Ok None) new → Hears old (Ok (Some position)) new
  hears_one old middle new position first end tells =
      let same : (of.view middle).pending ≡ (of.view old).pending = first.next.0.pending in
      record {
        middle = (of.view middle).wire;
        first = record { found = first.found; heard = first.next.0.takes tells; says = first.says };
        ended = subst (λ (p : Pending). TakesRow p (of.view middle).wire (Ok None) (of.view new).wire) same (end.0.takes (first.next.0.keeps.tells.0 tells));
      }

  hears_rows : (old new : R) (result : Result (Option Position) SessionFault) → ReadsRows of old result new → Hears old result new
  hears_rows old new result (no_row takes is) =
      subst (λ (r : Result (Option Position) SessionFault). Hears old r new) (sym is) (λ tells. (first_none old new takes).0.takes tells)
  hears_rows old new result (no_position fault takes is) =
      subst (λ (r : Result (Option Position) SessionFault). Hears old r new) (sym is) (hears_rows_err old new fault (first_err old new fault takes))
  hears_rows old new result (one_row position middle first end is) =
      subst (λ (r : Result (Option Position) SessionFault). Hears old r new) (sym is)
      (hears_one old middle new position (first_some old middle position first) (end_ok middle new end))
  hears_rows old new result (no_end position middle fault first end is) =
      subst (λ (r : Result (Option Position) SessionFault). Hears old r new) (sym is)
      (hears_end_err old middle new position fault (first_some old middle position first) (end_err middle new fault end))

  abbrev AsksAt : Query → R → Result (Option Position) SessionFault → R → Type 0
  AsksAt query old result new = AsksPosition (of.view old).peer.ends query (of.view old).wire result (of.view new).wire

  asks_by : (query : Query) (old new : R) (result : Result (Option Position) SessionFault) → HearsAsked (of.view old).peer.ends query (of.view old).wire result (of.view new).wire → AsksAt query old result new
  asks_by query old new (Ok found) hears = hears
  asks_by query old new (Err fault) hears = inr hears

  pub status_asks : (query : Query) (old new : R) (result : Result (Option Position) SessionFault) → ReadsStatus of query old result new → of.tells old → AsksAt query old result new
  status_asks query old new result (not_asked fault of_query is) tells =
      subst (λ (r : Result (Option Position) SessionFault). AsksAt query old r new) (sym is) (inl (of_query.asks tells))
  status_asks query old new result (asked columns middle of_query rows) tells =
      asks_by query old new result (record {
        columns = columns;
        middle = (of.view middle).wire;
        asks = of_query.asks tells;
        hears = subst (λ (p : Pending). HearsStatus p (of.view middle).wire result (of.view new).wire) of_query.pending.is (hears_rows middle new result rows (of_query.reader.tells.0 tells));
      })
