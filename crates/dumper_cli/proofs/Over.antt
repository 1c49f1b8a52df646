-- A whole dump, from the session to the link.
use Rattle.std.proofs.Common.{◌≡◌, ◌≤◌, ℕ, Bool, true, false, List, [], Result, Ok, Err, OnOk, refl, sym, ap, subst, inl, inr, arith}
use Rattle.link_traits.specs.Cause.{Rose}
use Rattle.link_traits.specs.declared.link.Link.{Ghosts as LinkGhosts}
use Rattle.link_traits.specs.declared.folder.Shelf.{Ghosts as ShelfGhosts}
use Rattle.my_session.specs.Session.{SessionView, wire_of, fresh, LoggedIn, LoginStopped, Closes}
use Rattle.my_session.specs.declared.fault.SessionFault.{SessionFault}
use Rattle.my_session.specs.declared.fault.SessionFault.TheVariants.{Link, Refused, Garbled, NotProtocol10, PluginUnsupported, TooLong, StreamTooLong, OutOfMemory}
use Rattle.my_session.specs.declared.session.TheConstants.{QUIT}
use Rattle.dumper_cli.specs.Next.{IsReady, StandsStill, Broke}
use Rattle.dumper_cli.specs.OverLink.{Tabled, Conversed, LinkDumped, StoppedOver, FrontSaid, LinkStopped}
use Rattle.dumper_cli.specs.Run.{Start, Reached, SaidFront, StoppedBy}
use Rattle.dumper_cli.specs.Stage.{Stage, sends_names, awaits_rows}
use Rattle.dumper_cli.specs.Words.{Asked}
use Rattle.dumper_cli.specs.declared.column.Column.{Column}
use Rattle.dumper_cli.specs.declared.fault.DumpFault.{DumpFault}
use Rattle.dumper_cli.specs.declared.fault.DumpFault.TheVariants.{FolderNotEmpty, File, Session as InSession}
use Rattle.dumper_cli.proofs.Calls.{Cause, Ends, logged_in, login_ends}
use Rattle.dumper_cli.proofs.Reaching.{Rose-later}
use Rattle.dumper_cli.proofs.Sayings.{all_is_said}

-- two facts after Ok
pub on_ok_both : {T E P Q R : Type 0} (result : Result T E) → (P → Q → R) → OnOk result P → OnOk result Q → OnOk result R
on_ok_both (Ok value) both p q = both p q
on_ok_both (Err fault) both p q = tt

Rose-further : (a b c : ℕ) → Rose a b → b ≤ c → Rose a c
Rose-further a b c rose le = omega arith

module _ {L : Type 0} (of : LinkGhosts L) (asked : Asked) where
  -- a run that stands at a stage
  pub Reached-stands : (stage : Stage) (start : Start) (now : SessionView L) → Reached of asked stage start now → StandsStill of asked start now.link
  Reached-stands stage start now at = record { later = at.later; front = λ t. record { stage = stage; wire = wire_of of now; comes = at.comes t; sent_is = refl } }

  -- a link at a run's start
  abbrev pub start_of : L → Start
  start_of link = record { wire = fresh of link; faults = of.faults link }

  pub reached_by_login : (a : L) (session : SessionView L) → LoggedIn of asked.user asked.password a session → Reached of asked (sends_names session.peer.ends) (start_of a) session
  reached_by_login a session logged = record { later = logged.later; comes = λ t. logged_in asked (fresh of a) session.peer (wire_of of session) (logged.takes (logged.tells.1 t)) }

module _ {L S : Type 0} (link : LinkGhosts L) (shelf : ShelfGhosts S) (asked : Asked) where
  -- a run that broke off, where the shelves are these
  pub Broke-at : (start : Start) (first before after last : S) (new : L) (fault : DumpFault) → first ≡ before → last ≡ after → Broke link shelf asked start first new after fault → Broke link shelf asked start before new last fault
  Broke-at start first before after last new fault same same_too broke =
      subst (λ (s : S). Broke link shelf asked start s new last fault) same (subst (λ (s : S). Broke link shelf asked start first new s fault) (sym same_too) broke)

  -- the rows of a table, after the query for them
  pub Conversed-tabled : (columns : List Column) (session middle new : SessionView L) (before after : S) → ((start : Start) → Reached link asked (sends_names session.peer.ends) start session → Reached link asked (awaits_rows middle.pending.reading columns []) start middle) → Tabled link shelf asked.schema asked.table columns middle before new after → Conversed link shelf asked session before new after
  Conversed-tabled columns session middle new before after reached tabled = record {
    columns = columns;
    rows = tabled.rows;
    reached = λ start at. tabled.reached asked start (reached start at);
    made = tabled.made;
  }

  stopped_over : (a b : L) (before after : S) (fault : SessionFault) → (fault ≡ Link → Rose (link.faults a) (link.faults b)) → (link.tells b → Cause asked (fresh link a) fault) → StoppedOver link shelf asked a before b after (InSession fault)
  stopped_over a b before after Link rose why = rose refl
  stopped_over a b before after (Refused form refusal) rose why = why
  stopped_over a b before after (Garbled place) rose why = why
  stopped_over a b before after (NotProtocol10 version) rose why = why
  stopped_over a b before after (PluginUnsupported name) rose why = why
  stopped_over a b before after (TooLong size) rose why = why
  stopped_over a b before after StreamTooLong rose why = why
  stopped_over a b before after OutOfMemory rose why = tt

  -- a login that stopped
  pub LinkStopped-login : (a gone : L) (before : S) (fault : SessionFault) → LoginStopped link asked.user asked.password a gone fault → LinkStopped link shelf asked a before gone before (InSession fault)
  LinkStopped-login a gone before fault stopped =
      let ended : link.tells gone → Ends asked (fresh link a) fault stopped.wire.sent = λ t. login_ends asked (fresh link a) stopped.wire fault (stopped.stops (stopped.tells.1 t)) in
      record {
        front = λ t. record { sent = (link.told gone).sent; front = subst (SaidFront asked (fresh link a)) stopped.is_wire.sent (ended t).front; sent_is = inl refl };
        why = stopped_over a gone before before fault stopped.failed (λ t. (ended t).why);
      }

  module _ (a b : L) (session new : SessionView L) (before after : S) (logged : LoggedIn link asked.user asked.password a session) (closes : Closes link QUIT.now new b) where
    -- the whole run
    pub LinkDumped-conversed : IsReady new → Conversed link shelf asked session before new after → LinkDumped link shelf asked a before b after
    LinkDumped-conversed ready conversed =
        let over = conversed.reached (start_of link asked a) (reached_by_login link asked a session logged) in
        record {
          columns = conversed.columns;
          rows = conversed.rows;
          heard = λ t. record { wire = wire_of link new; comes = over.comes (closes.tells.1 t) };
          all_said = λ t.
              let u = closes.tells.1 t in
              record {
                are_all = λ none. all_is_said asked conversed.columns conversed.rows (fresh link a) (wire_of link new) none (over.comes u);
                quits = elim (closes.quits ready.alive u) [ inl e ↦ inl e | inr e ↦ inr (e.0, Rose-later _ _ _ over.later e.1) ];
              };
          made = conversed.made;
        }

    front_by : (fault : DumpFault) → Broke link shelf asked (start_of link asked a) before new.link after fault → link.tells new.link → SaidFront asked (fresh link a) (link.told new.link).sent
    front_by (FolderNotEmpty name) broke t = absurd broke
    front_by File broke t = broke.0.front t
    front_by (InSession fault) broke t = broke.front t

    why_by : (fault : SessionFault) → StoppedBy link asked (start_of link asked a) new.link fault → StoppedOver link shelf asked a before b after (InSession fault)
    why_by Link why = Rose-further _ _ _ why closes.later
    why_by (Refused form refusal) why = λ t. why (closes.tells.1 t)
    why_by (Garbled place) why = λ t. why (closes.tells.1 t)
    why_by (NotProtocol10 version) why = λ t. why (closes.tells.1 t)
    why_by (PluginUnsupported name) why = λ t. why (closes.tells.1 t)
    why_by (TooLong size) why = λ t. why (closes.tells.1 t)
    why_by StreamTooLong why = λ t. why (closes.tells.1 t)
    why_by OutOfMemory why = tt

    over_by : (fault : DumpFault) → Broke link shelf asked (start_of link asked a) before new.link after fault → StoppedOver link shelf asked a before b after fault
    over_by (FolderNotEmpty name) broke = absurd broke
    over_by File broke = broke.1
    over_by (InSession fault) broke = why_by fault broke.why

    said_by : (failed : Bool) → new.has_failed ≡ failed → link.tells b → SaidFront asked (fresh link a) (link.told new.link).sent → FrontSaid link shelf asked a b
    said_by true is t front = record { sent = (link.told new.link).sent; front = front; sent_is = inl (ap (λ (l : L). (link.told l).sent) (closes.failed is)) }
    said_by false is t front = record { sent = (link.told new.link).sent; front = front; sent_is = elim (closes.quits is (closes.tells.1 t)) [ inl e ↦ inr e | inr e ↦ inl e.0 ] }

    -- a run that broke off
    pub LinkStopped-broke : (fault : DumpFault) → ((start : Start) → Reached link asked (sends_names session.peer.ends) start session → Broke link shelf asked start before new.link after fault) → LinkStopped link shelf asked a before b after fault
    LinkStopped-broke fault broke =
        let off = broke (start_of link asked a) (reached_by_login link asked a session logged) in
        record {
          front = λ t. said_by new.has_failed refl t (front_by fault off (closes.tells.1 t));
          why = over_by fault off;
        }
