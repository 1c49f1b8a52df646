-- A willing server answers the commands of the lock session and of the workers by OK.
use Rattle.std.proofs.Common.{◌≡◌, ◌+◌, ◌≤◌, ◌<◌, ◌^◌, true, false, List, [], ◌∷◌, ◌++◌, length, refl, sym, ◌∙◌, ap, subst, arith, Option, Some, Result, Ok, Err, IfErr, OnErr, MatchResult, append-nil}
use Rattle.honest_server.specs.Catalogue.{KeepsCatalogue, no_more}
use Rattle.honest_server.specs.Effect.{Effect, EndsOpen}
use Rattle.honest_server.specs.Moves.{SeesHolder, plainly, beside}
use Rattle.honest_server.specs.Serve.{FitsNowhere, Serves, done}
use Rattle.honest_server.specs.State.{State, Terms, with_others}
use Rattle.honest_server.specs.WellFormed.{IsSound}
use Rattle.link_traits.specs.declared.link.Link.{Ghosts}
use Rattle.my_session.specs.Served.{lean_size}
use Rattle.my_session.specs.Session.{SessionView}
use Rattle.my_session.specs.declared.fault.SessionFault.{SessionFault}
use Rattle.my_session.specs.declared.fault.SessionFault.TheVariants.{Link, Refused, Garbled, NotProtocol10, PluginUnsupported, TooLong, StreamTooLong, OutOfMemory}
use Rattle.my_session.specs.declared.limits.TheConstants.{MESSAGE_LIMIT}
use Rattle.server_data.specs.declared.data.Change.{Change}
use Rattle.server_data.specs.declared.data.Transaction.{Transaction}
use Rattle.statement_forms.specs.Text.{command_text}
use Rattle.statement_forms.specs.declared.command.Command.{Command}
use Rattle.statement_forms.specs.declared.command.Command.TheVariants.{LockInstance, FlushTables, UnlockTables, UnlockInstance, RepeatableRead, StartSnapshot}
use Rattle.statement_forms.specs.declared.statement.Statement.TheVariants.{Command as SomeCommand}
use Rattle.snapshot_handover.specs.Handover.{MayShow, Ran, RanBy}
use Rattle.snapshot_handover.specs.Willing.{IsHindered, IsHinderedBeside, MayJoin}

-- ---- texts are short

pub lock_short : length (command_text LockInstance) ≤ 1000
unfolding command_text
lock_short = omega arith

pub freeze_short : length (command_text FlushTables) ≤ 1000
unfolding command_text
freeze_short = omega arith

pub thaw_short : length (command_text UnlockTables) ≤ 1000
unfolding command_text
thaw_short = omega arith

pub release_short : length (command_text UnlockInstance) ≤ 1000
unfolding command_text
release_short = omega arith

pub isolate_short : length (command_text RepeatableRead) ≤ 1000
unfolding command_text
isolate_short = omega arith

pub start_short : length (command_text StartSnapshot) ≤ 1000
unfolding command_text
start_short = omega arith

-- ---- what each does can always be done

-- there is a state to which the command leads
pub record IsDoable (command : Command) (state : State) : Type 0 where
  pub new : State
  pub effect : Effect state command new

pub lock_doable : (state : State) → IsDoable LockInstance state
lock_doable state = record { new = record state { guarded = true }; effect = refl }

pub freeze_doable : (state : State) → IsDoable FlushTables state
freeze_doable state = record { new = record state { frozen = true; grants = state.grants ++ state.seen ∷ [] }; effect = refl }

pub thaw_doable : (state : State) → IsDoable UnlockTables state
thaw_doable state = record { new = record state { frozen = false }; effect = refl }

pub release_doable : (state : State) → IsDoable UnlockInstance state
release_doable state = record { new = record state { guarded = false }; effect = refl }

pub isolate_doable : (state : State) → IsDoable RepeatableRead state
isolate_doable state = record { new = state; effect = refl }

nothing_after : {X : Type 0} (front more : List X) → front ++ more ≡ front → more ≡ []
nothing_after [] more same = same
nothing_after (x ∷ front) more same = nothing_after front more (cc)

-- a worker without a lock and without an open transaction can take a snapshot beside a holder that has seen what it has
start_fits : (holder state : State) (more gone : List Transaction) → MayJoin holder state → MayShow state → IsSound state.terms.server state.seen → state.seen ++ more ≡ holder.seen → FitsNowhere (beside holder) state (SomeCommand StartSnapshot) gone → ⊥
start_fits holder state more gone join may sound joined nowhere =
    let none : state.terms.server.quiet ≡ true → more ≡ [] = λ quiet. nothing_after state.seen more (joined ∙ sym (join.quiet quiet)) in
    let keeps : state.terms.server.quiet ≡ true → KeepsCatalogue state.seen more = λ quiet. subst (λ (l : List Transaction). KeepsCatalogue state.seen l) (sym (none quiet)) (record { old = sound.database; new = sound.database; stands = sound.stands; keeps = no_more }) in
    let sees : SeesHolder holder state more = record {
      follows = record {
        frozen = λ frozen. absurd (cc (frozen, join.frozen));
        guarded = λ guarded. absurd (cc (guarded, join.guarded));
        catalogue = λ quiet sole. keeps quiet;
      };
      joined = joined;
      alone = λ quiet sole. none quiet;
    } in
    let ended : EndsOpen (with_others state more) state.pending (with_others state more) = subst (λ (o : Option (List Change)). EndsOpen (with_others state more) o (with_others state more)) (sym may.pending) refl in
    nowhere done (record (with_others state more) { view = Some (state.seen ++ more) })
    (record {
      more = more;
      sees = sees;
      handles = record { middle = with_others state more; ended = ended; new_is = refl };
      ends = joined;
    })

module _ {L : Type 0} (of : Ghosts L) where
  -- a command that can be done, with a short text, fails only where something hinders it
  pub hindered : (command : Command) (old new : SessionView L) (fault : SessionFault) → length (command_text command) ≤ 1000 → ((state : State) → IsDoable command state) → Ran of command old (Err fault) new → IsHindered of old new.link
  hindered command old new Link short doable ran = λ free. free.no_fault (ran.keeps.reader.counted.failed refl)
  hindered command old new (Refused form refusal) short doable ran = λ free.
      let gives = (ran.served free.honest).runs in
      let can = doable (with_others (of.served old.link).state gives.serves.more) in
      gives.serves.must free.willing done can.new can.effect
  hindered command old new (Garbled place) short doable ran = λ free. (ran.served free.honest).runs
  hindered command old new (NotProtocol10 version) short doable ran = λ free. (ran.served free.honest).runs
  hindered command old new (PluginUnsupported name) short doable ran = λ free. (ran.served free.honest).runs
  hindered command old new (TooLong size) short doable ran = λ free.
      let long : MESSAGE_LIMIT ≤ length (command_text command) = (ran.served free.honest).limits free.willing in omega (arith, long, short)
  hindered command old new StreamTooLong short doable ran = λ free.
      let much : 2 ^ 62 < old.place + lean_size = (ran.served free.honest).limits free.willing in omega (arith, much, free.few)
  hindered command old new OutOfMemory short doable ran = λ free. ran.fault.memory short refl

  -- so does the opening of a snapshot
  pub start_hindered : (holder : L) (old new : SessionView L) (fault : SessionFault) → (of.honest old.link → MayShow (of.served old.link).state) → (of.honest old.link → IsSound (of.served old.link).state.terms.server (of.served old.link).state.seen) → RanBy of (Some holder) StartSnapshot old (Err fault) new → MayJoin (of.served holder).state (of.served old.link).state → IsHindered of old new.link
  start_hindered holder old new Link may sound ran join = λ free. free.no_fault (ran.keeps.reader.counted.failed refl)
  start_hindered holder old new (Refused form refusal) may sound ran join = λ free.
      let gives = (ran.served free.honest).runs in
      start_fits (of.served holder).state (of.served old.link).state gives.before.rest gives.serves.more join (may free.honest) (sound free.honest) gives.before.joined (gives.serves.must free.willing)
  start_hindered holder old new (Garbled place) may sound ran join = λ free. (ran.served free.honest).runs
  start_hindered holder old new (NotProtocol10 version) may sound ran join = λ free. (ran.served free.honest).runs
  start_hindered holder old new (PluginUnsupported name) may sound ran join = λ free. (ran.served free.honest).runs
  start_hindered holder old new (TooLong size) may sound ran join = λ free.
      let long : MESSAGE_LIMIT ≤ length (command_text StartSnapshot) = (ran.served free.honest).limits free.willing in omega (arith, long, start_short)
  start_hindered holder old new StreamTooLong may sound ran join = λ free.
      let much : 2 ^ 62 < old.place + lean_size = (ran.served free.honest).limits free.willing in omega (arith, much, free.few)
  start_hindered holder old new OutOfMemory may sound ran join = λ free. ran.fault.memory start_short refl

  -- the answer of a step
  pub hindered_step : (command : Command) (old : SessionView L) (result : Result (SessionView L) (SessionView L × SessionFault)) → length (command_text command) ≤ 1000 → ((state : State) → IsDoable command state) → MatchResult result (λ made. Ran of command old (Ok tt) made) (λ gone. Ran of command old (Err gone.1) gone.0) → IfErr result (λ gone. IsHindered of old gone.0.link)
  hindered_step command old (Ok made) short doable ran = tt
  hindered_step command old (Err gone) short doable ran = hindered command old gone.0 gone.1 short doable ran

  pub hindered_run : (command : Command) (old new : SessionView L) (result : Result (Unit {0}) SessionFault) → length (command_text command) ≤ 1000 → ((state : State) → IsDoable command state) → Ran of command old result new → OnErr result (IsHindered of old new.link)
  hindered_run command old new (Ok finished) short doable ran = tt
  hindered_run command old new (Err fault) short doable ran = hindered command old new fault short doable ran

  pub hindered_start : (holder : L) (old new : SessionView L) (result : Result (Unit {0}) SessionFault) → (of.honest old.link → MayShow (of.served old.link).state) → (of.honest old.link → IsSound (of.served old.link).state.terms.server (of.served old.link).state.seen) → RanBy of (Some holder) StartSnapshot old result new → OnErr result (IsHinderedBeside of holder old new.link)
  hindered_start holder old new (Ok finished) may sound ran = tt
  hindered_start holder old new (Err fault) may sound ran = start_hindered holder old new fault may sound ran

  -- a worker that may join the holder still may, once it is set to read repeatably
  join_stays : (holder old new : State) → Serves plainly old (SomeCommand RepeatableRead) done new → old.terms.server.willing ≡ true → MayJoin holder old → MayJoin holder new
  join_stays holder old new serves willing join = record {
    frozen = ap (λ (s : State). s.frozen) serves.handles ∙ join.frozen;
    guarded = ap (λ (s : State). s.guarded) serves.handles ∙ join.guarded;
    quiet = λ quiet.
        let was = sym (ap (λ (s : State). s.terms.server.quiet) serves.handles) ∙ quiet in
        ap (λ (s : State). s.seen) serves.handles ∙ ap (λ (l : List Transaction). old.seen ++ l) (serves.sees.willing was willing) ∙ append-nil old.seen ∙ join.quiet was;
  }

  pub hindered_later : (holder : L) (old middle new : SessionView L) → Ran of RepeatableRead old (Ok tt) middle → IsHinderedBeside of holder middle new.link → MayJoin (of.served holder).state (of.served old.link).state → IsHindered of middle new.link
  hindered_later holder old middle new ran opening join = λ free.
      let honest = ran.keeps.server.honest.1 free.honest in
      let willing = sym (ap (λ (t : Terms). t.server.willing) (ran.keeps.server.terms honest)) ∙ free.willing in
      opening (join_stays (of.served holder).state (of.served old.link).state (of.served middle.link).state (ran.served honest).runs willing join) free
