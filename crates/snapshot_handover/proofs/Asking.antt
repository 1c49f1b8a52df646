-- What asking a query leaves of a frozen session and of a worker.
use Rattle.std.proofs.Common.{◌≡◌, ℕ, List, [], ◌∷◌, ◌++◌, Result, refl, sym, ◌∙◌, ap}
use Rattle.honest_server.specs.State.{State}
use Rattle.server_data.specs.declared.data.Transaction.{Transaction}
use Rattle.my_session.proofs.Shown.{asking_keeps, asking_keeps_shown, rows_come}
use Rattle.my_session.specs.Asked.{AsksServed}
use Rattle.my_session.specs.Coming.{Reached}
use Rattle.my_session.specs.Shown.{IsShownAt, by_lock, by_view, alone}
use Rattle.my_session.specs.declared.fault.SessionFault.{SessionFault}
use Rattle.statement_forms.specs.declared.form.Form.TheVariants.{ShowMasterStatus}
use Rattle.statement_forms.specs.declared.query.Query.{Query}
use Rattle.snapshot_handover.specs.Handover.{IsFrozen, MayShow}
use Rattle.snapshot_handover.specs.Reads.{FrozenReadsSeen, WorkersReadTheirViews}

-- what is shown while the read lock is held is what is seen
seen_shown : (history : List Transaction) (state : State) → IsShownAt ShowMasterStatus history state → state.seen ≡ history
seen_shown history state (by_view other view) = absurd (cc)
seen_shown history state (by_lock view frozen seen) = seen
seen_shown history state (alone view quiet sole seen) = seen

module _ (query : Query) (old : State) (result : Result ℕ SessionFault) (new : Reached) (asks : AsksServed query old result new) where
  pub asked_frozen_seen : IsFrozen old → new.served.state.seen ≡ old.seen
  asked_frozen_seen was =
      seen_shown old.seen new.served.state
      (asking_keeps_shown query old result new ShowMasterStatus old.seen asks (by_lock was.is_guarded.is_idle.view was.frozen refl))

  pub asked_frozen : IsFrozen old → IsFrozen new.served.state
  asked_frozen was =
      let own = asking_keeps query old result new asks in
      record {
        is_guarded = record {
          guarded = own.guarded ∙ was.is_guarded.guarded;
          is_idle = record {
            view = own.view ∙ was.is_guarded.is_idle.view;
            pending = own.pending was.is_guarded.is_idle.pending;
          };
        };
        frozen = own.frozen ∙ was.frozen;
        before = was.before;
        grants = own.grants ∙ was.grants ∙ ap (λ (l : List Transaction). was.before ++ l ∷ []) (sym (asked_frozen_seen was));
      }

  pub asked_worker : MayShow old → MayShow new.served.state
  asked_worker was =
      let own = asking_keeps query old result new asks in
      record { mine = own.mine ∙ was.mine; pending = own.pending was.pending }

pub frozen_reads_seen : FrozenReadsSeen
frozen_reads_seen query old result new asks was = record {
  frozen = asked_frozen query old result new asks was;
  seen = asked_frozen_seen query old result new asks was;
  rows = λ opens. rows_come query old new old.seen opens (by_lock was.is_guarded.is_idle.view was.frozen refl);
}

pub workers_read_views : WorkersReadTheirViews
workers_read_views history query old result new asks may view = record {
  may = asked_worker query old result new asks may;
  view = (asking_keeps query old result new asks).view ∙ view;
  rows = λ select opens. rows_come query old new history opens (by_view select view);
}
