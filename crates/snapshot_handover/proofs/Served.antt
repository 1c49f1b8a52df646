-- What asking for the position leaves of the state that an honest server keeps.
use Rattle.std.proofs.Common.{◌≡◌, ℕ, Bool, List, refl, sym, ◌∙◌, ap, subst, inl, inr, ◌⊎◌, Option, Some, None, Result, Ok, Err}
use Rattle.honest_server.specs.Moves.{plainly}
use Rattle.honest_server.specs.Serve.{Serves}
use Rattle.honest_server.specs.State.{State}
use Rattle.honest_server.specs.WellFormed.{IsSound}
use Rattle.my_session.proofs.Shown.{asking_keeps, rows_come}
use Rattle.my_session.specs.Asked.{AsksServed, LeadsBy}
use Rattle.my_session.specs.Coming.{Reached, Rest, StillComes, TakesNext, reached_by, reply_of_rest}
use Rattle.my_session.specs.Session.{Pending}
use Rattle.my_session.specs.Shown.{ComesFrom, by_lock}
use Rattle.my_session.specs.declared.fault.SessionFault.{SessionFault}
use Rattle.my_session.specs.declared.reads.Reads.{Ghosts}
use Rattle.server_data.specs.declared.data.Position.{Position}
use Rattle.statement_forms.specs.Form.{query_form}
use Rattle.statement_forms.specs.declared.form.Form.{Form}
use Rattle.statement_forms.specs.declared.query.Query.{Query}
use Rattle.statement_forms.specs.declared.statement.Statement.TheVariants.{Query as SomeQuery}
use Rattle.snapshot_handover.proofs.Asking.{asked_frozen, asked_frozen_seen}
use Rattle.snapshot_handover.proofs.Marks.{Told, lead_none, next_err_told, no_second, none_told, one_told, query_told, row_unsaid_told}
use Rattle.snapshot_handover.proofs.Positions.{FirstSays, FirstUnsaid, SecondRow, end_err, end_ok, first_err, first_none, first_some}
use Rattle.snapshot_handover.specs.Handover.{IsFrozen}
use Rattle.snapshot_handover.specs.Status.{status_query}
use Rattle.snapshot_handover.specs.StatusRead.{NextOf, ReadsRows, ReadsStatus, ServesPosition, asked, no_end, no_position, no_row, not_asked, one_row}

module _ {R : Type 0} (of : Ghosts R) where
  abbrev state_of : R → State
  state_of one = (of.served one).state

  abbrev at : R → Reached
  at one = reached_by (of.view one) (of.served one)

  module _ (newer : Bool) (old : State) (is_newer : newer ≡ old.terms.server.newer) (was : IsFrozen old) (sound : IsSound old.terms.server old.seen) where
    -- the rows of a status were read, and the state stayed
    record RowsTold (first : R) (result : Result (Option Position) SessionFault) (last : R) : Type 0 where
      state : state_of last ≡ state_of first
      told : Told old result (state_of first)

    module _ (first : R) (honest : of.honest first) (form_is : (of.view first).pending.form ≡ query_form (status_query newer)) (rest : Rest) (comes : StillComes rest (at first)) (from : ComesFrom old.seen (status_query newer) rest) (serves : Serves plainly old (SomeQuery (status_query newer)) (reply_of_rest rest) (state_of first)) where
      rows_err : (last : R) (fault : SessionFault) → NextOf of first (Err fault) last ⊎ FirstUnsaid of fault first last → RowsTold first (Err fault) last
      rows_err last fault (inl next) =
          let served = next.2 honest in
          let takes : TakesNext rest (query_form (status_query newer)) (Err fault) (at last) = subst (λ (f : Form). TakesNext rest f (Err fault) (at last)) form_is (served.takes rest comes) in
          record { state = served.state; told = next_err_told newer old is_newer was sound rest (state_of first) serves from rest fault (at last) refl takes }
      rows_err last fault (inr unsaid) =
          let served = unsaid.next.2 honest in
          record { state = served.state; told = row_unsaid_told newer old is_newer was sound rest (state_of first) serves from unsaid.found unsaid.found.place (at last) fault (served.takes rest comes) unsaid.unsaid }

      rows_end : (middle last : R) (position : Position) → FirstSays of position first middle → NextOf of middle (Ok None) last → RowsTold first (Ok (Some position)) last
      rows_end middle last position says end =
          let served = says.next.2 honest in
          let takes = served.takes rest comes in
          let later = end.2 (says.next.1.honest.0 honest) in
          let over = later.takes (record rest { rows = takes.more }) takes.comes in
          record { state = later.state ∙ served.state; told = one_told newer old is_newer was sound rest (state_of first) serves from says.found (at middle) position takes says.says over.ended }

      rows_end_err : (middle last : R) (position : Position) (fault : SessionFault) → FirstSays of position first middle → NextOf of middle (Err fault) last ⊎ SecondRow of fault middle last → RowsTold first (Err fault) last
      rows_end_err middle last position fault says (inl next) =
          let served = says.next.2 honest in
          let takes = served.takes rest comes in
          let later = next.2 (says.next.1.honest.0 honest) in
          let same : (of.view middle).pending.form ≡ query_form (status_query newer) = ap (λ (p : Pending). p.form) says.next.0.pending ∙ form_is in
          let failed : TakesNext (record rest { rows = takes.more }) (query_form (status_query newer)) (Err fault) (at last) = subst (λ (f : Form). TakesNext (record rest { rows = takes.more }) f (Err fault) (at last)) same (later.takes (record rest { rows = takes.more }) takes.comes) in
          record { state = later.state ∙ served.state; told = next_err_told newer old is_newer was sound rest (state_of first) serves from (record rest { rows = takes.more }) fault (at last) refl failed }
      rows_end_err middle last position fault says (inr second) =
          let served = says.next.2 honest in
          let takes = served.takes rest comes in
          let later = second.next.2 (says.next.1.honest.0 honest) in
          let other = later.takes (record rest { rows = takes.more }) takes.comes in
          absurd (cc (no_second newer old is_newer was sound rest (state_of first) serves from says.found (at middle) takes, other.rows_are))

      rows_told : (last : R) (result : Result (Option Position) SessionFault) → ReadsRows of first result last → RowsTold first result last
      rows_told last result (no_row takes is) =
          let next = first_none of first last takes in
          let served = next.2 honest in
          subst (λ (r : Result (Option Position) SessionFault). RowsTold first r last) (sym is)
          (record { state = served.state; told = none_told newer old is_newer was sound rest (state_of first) serves from (served.takes rest comes) })
      rows_told last result (no_position fault takes is) =
          subst (λ (r : Result (Option Position) SessionFault). RowsTold first r last) (sym is) (rows_err last fault (first_err of first last fault takes))
      rows_told last result (one_row position middle one end is) =
          subst (λ (r : Result (Option Position) SessionFault). RowsTold first r last) (sym is)
          (rows_end middle last position (first_some of first middle position one) (end_ok of middle last end))
      rows_told last result (no_end position middle fault one end is) =
          subst (λ (r : Result (Option Position) SessionFault). RowsTold first r last) (sym is)
          (rows_end_err middle last position fault (first_some of first middle position one) (end_err of middle last fault end))

  serves_position : (query : Query) (old last : State) (middle : Reached) (asking : Result ℕ SessionFault) (result : Result (Option Position) SessionFault) → IsFrozen old → AsksServed query old asking middle → last ≡ middle.served.state → Told old result middle.served.state → ServesPosition old result last
  serves_position query old last middle asking result was asks same told =
      subst (λ (s : State). ServesPosition old result s) (sym same) (record {
        own = asking_keeps query old asking middle asks;
        frozen = asked_frozen query old asking middle asks was;
        seen = asked_frozen_seen query old asking middle asks was;
        tells = told.0;
        errors = told.1;
      })

  pub status_served : (newer : Bool) (old last : R) (result : Result (Option Position) SessionFault) → ReadsStatus of (status_query newer) old result last → of.honest old → newer ≡ (state_of old).terms.server.newer → IsFrozen (state_of old) → IsSound (state_of old).terms.server (state_of old).seen → ServesPosition (state_of old) result (state_of last)
  status_served newer old last result (not_asked fault of_query is) honest is_newer was sound =
      let asks = of_query.served honest in
      subst (λ (r : Result (Option Position) SessionFault). ServesPosition (state_of old) r (state_of last)) (sym is)
      (serves_position (status_query newer) (state_of old) (state_of last) (at last) (Err fault) (Err fault) was asks refl (query_told newer (state_of old) is_newer was sound fault (state_of last) asks))
  status_served newer old last result (asked columns middle of_query rows) honest is_newer was sound =
      let opens = of_query.served honest in
      let same : opens.middle ≡ state_of old = subst (λ (o : Option (List ℕ)). LeadsBy o (state_of old) opens.middle) (lead_none newer) opens.leads in
      let serves : Serves plainly (state_of old) (SomeQuery (status_query newer)) (reply_of_rest opens.rest) (state_of middle) = subst (λ (s : State). Serves plainly s (SomeQuery (status_query newer)) (reply_of_rest opens.rest) (state_of middle)) same opens.serves in
      let from : ComesFrom (state_of old).seen (status_query newer) opens.rest = rows_come (status_query newer) (state_of old) (at middle) (state_of old).seen opens (by_lock was.is_guarded.is_idle.view was.frozen refl) in
      let form_is : (of.view middle).pending.form ≡ query_form (status_query newer) = ap (λ (p : Pending). p.form) of_query.pending.is in
      let told = rows_told newer (state_of old) is_newer was sound middle (of_query.server.honest.0 honest) form_is opens.rest opens.comes from serves last result rows in
      serves_position (status_query newer) (state_of old) (state_of last) (at middle) (Ok columns) result was opens told.state told.told
