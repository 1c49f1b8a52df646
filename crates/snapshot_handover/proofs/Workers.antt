-- What opening a worker's snapshot leaves of its link.
use Rattle.std.specs.Prelude.{OnOk}
use Rattle.server_data.specs.declared.data.Transaction.{Transaction}
use Rattle.std.proofs.Common.{◌≡◌, List, [], sym, ◌∙◌, ap, subst, inl, inr, Option, Some, None, Result, Ok, Err}
use Rattle.honest_server.specs.Effect.{EndsOpen}
use Rattle.honest_server.specs.Moves.{Way, plainly, beside}
use Rattle.honest_server.specs.Serve.{Reply, done, rows, refused, Serves, MayLose}
use Rattle.honest_server.specs.State.{State, with_others}
use Rattle.my_session.specs.Served.{IsLeft, untouched, handled, committed, RunsServed}
use Rattle.my_session.specs.declared.fault.SessionFault.{SessionFault}
use Rattle.my_session.specs.declared.fault.SessionFault.TheVariants.{Link, Refused, Garbled, NotProtocol10, PluginUnsupported, TooLong, StreamTooLong, OutOfMemory}
use Rattle.server_data.specs.declared.data.Change.{Change}
use Rattle.statement_forms.specs.declared.command.Command.TheVariants.{RepeatableRead, StartSnapshot}
use Rattle.statement_forms.specs.declared.statement.Statement.TheVariants.{Command as SomeCommand}
use Rattle.snapshot_handover.specs.Handover.{MayShow}

lost_none : (old new : Option (List Change)) → old ≡ None → MayLose old new → new ≡ None
lost_none old new is (inl same) = same ∙ is
lost_none old new is (inr none) = none

ended_none : (state : State) (pending : Option (List Change)) (new : State) → pending ≡ None → EndsOpen state pending new → new ≡ state
ended_none state None new is ended = ended
ended_none state (Some changes) new is ended = absurd (cc)

moved : (old new : State) → new.mine ≡ old.mine → new.pending ≡ old.pending → MayShow old → MayShow new
moved old new mine pending may = record { mine = mine ∙ may.mine; pending = pending ∙ may.pending }

module _ (old new : State) (may : MayShow old) where
  isolates : (way : Way) (reply : Reply) → Serves way old (SomeCommand RepeatableRead) reply new → MayShow new
  isolates way done serves = moved old new (ap (λ (s : State). s.mine) serves.handles) (ap (λ (s : State). s.pending) serves.handles) may
  isolates way (rows found) serves = absurd serves.handles
  isolates way (refused found refusal) serves = record {
    mine = ap (λ (s : State). s.mine) serves.gives.new_is ∙ may.mine;
    pending = ap (λ (s : State). s.pending) serves.gives.new_is ∙ lost_none old.pending serves.gives.pending may.pending serves.gives.lost;
  }

  left_isolating : IsLeft plainly old (SomeCommand RepeatableRead) new → MayShow new
  left_isolating (untouched same) = subst (λ (s : State). MayShow s) (sym same) may
  left_isolating (handled reply serves) = isolates plainly reply serves
  left_isolating (committed commits) = absurd commits.ends

  pub isolated : (result : Result (Unit {0}) SessionFault) → RunsServed plainly old RepeatableRead result new → MayShow new
  isolated (Ok finished) runs = isolates plainly done runs
  isolated (Err Link) runs = left_isolating runs
  isolated (Err (Refused form refusal)) runs = isolates plainly (refused [] refusal) runs.serves
  isolated (Err (Garbled place)) runs = absurd runs
  isolated (Err (NotProtocol10 version)) runs = absurd runs
  isolated (Err (PluginUnsupported name)) runs = absurd runs
  isolated (Err (TooLong size)) runs = left_isolating runs
  isolated (Err StreamTooLong) runs = left_isolating runs
  isolated (Err OutOfMemory) runs = left_isolating runs

module _ (holder old new : State) (may : MayShow old) where
  opens : (reply : Reply) → Serves (beside holder) old (SomeCommand StartSnapshot) reply new → MayShow new
  opens done serves =
      let middle_is = ended_none (with_others old serves.more) old.pending serves.handles.middle may.pending serves.handles.ended in
      record {
        mine = ap (λ (s : State). s.mine) serves.handles.new_is ∙ ap (λ (s : State). s.mine) middle_is ∙ may.mine;
        pending = ap (λ (s : State). s.pending) serves.handles.new_is ∙ ap (λ (s : State). s.pending) middle_is ∙ may.pending;
      }
  opens (rows found) serves = absurd serves.handles
  opens (refused found refusal) serves = record {
    mine = ap (λ (s : State). s.mine) serves.gives.new_is ∙ may.mine;
    pending = ap (λ (s : State). s.pending) serves.gives.new_is ∙ lost_none old.pending serves.gives.pending may.pending serves.gives.lost;
  }

  left_opening : IsLeft (beside holder) old (SomeCommand StartSnapshot) new → MayShow new
  left_opening (untouched same) = subst (λ (s : State). MayShow s) (sym same) may
  left_opening (handled reply serves) = opens reply serves
  left_opening (committed commits) = absurd commits

  pub opened : (result : Result (Unit {0}) SessionFault) → RunsServed (beside holder) old StartSnapshot result new → MayShow new
  opened (Ok finished) runs = opens done runs
  opened (Err Link) runs = left_opening runs
  opened (Err (Refused form refusal)) runs = opens (refused [] refusal) runs.serves
  opened (Err (Garbled place)) runs = absurd runs
  opened (Err (NotProtocol10 version)) runs = absurd runs
  opened (Err (PluginUnsupported name)) runs = absurd runs
  opened (Err (TooLong size)) runs = left_opening runs
  opened (Err StreamTooLong) runs = left_opening runs
  opened (Err OutOfMemory) runs = left_opening runs

pub shown : (holder old new : State) (result : Result (Unit {0}) SessionFault) → RunsServed (beside holder) old StartSnapshot result new → OnOk result (new.view ≡ Some holder.seen)
shown holder old new (Ok finished) runs =
    ap (λ (s : State). s.view) runs.handles.new_is
    ∙ ap (λ (l : List Transaction). Some l) (sym (ap (λ (s : State). s.seen) runs.handles.new_is) ∙ runs.ends)
shown holder old new (Err fault) runs = tt
