-- What a sole link sees where nobody else writes.
use Rattle.std.proofs.Common.{◌≡◌, ℕ, true, List, [], ◌∷◌, ◌++◌, Option, Some, None, refl, ap, sym, ◌∙◌, append_assoc, append-nil, subst, inl, inr}
use Rattle.server_data.specs.declared.data.Change.{Change}
use Rattle.server_data.specs.declared.data.Transaction.{Transaction}
use Rattle.statement_forms.specs.declared.command.Command.TheVariants.{SetUp, NamesUtf8mb4, NamesBinary, ForeignKeyChecksOff, TimeZoneUtc, BinaryLogOff, SqlMode, CharacterSetClient, CollationConnection, RepeatableRead, TimeZone, LockInstance, FlushTables, UnlockTables, UnlockInstance, StartSnapshot, Start, Commit, Rollback, Use, Create, CreateProgress, CreateProgressFiles, CreateProgressDump, Insert, InsertProgressFile, InsertProgressDump}
use Rattle.statement_forms.specs.declared.command.Command.{Command}
use Rattle.statement_forms.specs.declared.statement.Statement.TheVariants.{Command as SomeCommand, Query as SomeQuery}
use Rattle.honest_server.specs.Effect.{Commits, Creates, Effect, EndsOpen, GoesInto}
use Rattle.honest_server.specs.Laws.{ASoleLinkSeesItsOwn}
use Rattle.honest_server.specs.Moves.{SeesOthers}
use Rattle.honest_server.specs.Serve.{done, rows, refused}
use Rattle.honest_server.specs.State.{State, with_others}

-- what a link has seen more is its own
record Owns (state now : State) : Type 0 where
  own : List Transaction
  seen : now.seen ≡ state.seen ++ own
  mine : now.mine ≡ state.mine ++ own

nothing_more : (state : State) (more : List Transaction) → more ≡ [] → Owns state (with_others state more)
nothing_more state more none = record { own = []; seen = ap (λ (list : List Transaction). state.seen ++ list) none; mine = sym (append-nil state.mine) }

commits_on : (state now new : State) (changes : List Change) → Owns state now → Commits now changes new → Owns state new
commits_on state now new changes so commits = record {
  own = so.own ++ commits.one ∷ [];
  seen = ap (λ (s : State). s.seen) commits.new_is ∙ (ap (λ (list : List Transaction). list ++ commits.one ∷ []) so.seen ∙ append_assoc state.seen so.own (commits.one ∷ []));
  mine = ap (λ (s : State). s.mine) commits.new_is ∙ (ap (λ (list : List Transaction). list ++ commits.one ∷ []) so.mine ∙ append_assoc state.mine so.own (commits.one ∷ []));
}

-- a statement that commits nothing
same_own : {state now new : State} → Owns state now → new.seen ≡ now.seen → new.mine ≡ now.mine → Owns state new
same_own so seen mine = record { own = so.own; seen = seen ∙ so.seen; mine = mine ∙ so.mine }

same_state : {state now new next : State} → Owns state now → new ≡ next → next.seen ≡ now.seen → next.mine ≡ now.mine → Owns state new
same_state so same seen mine = same_own so (ap (λ (s : State). s.seen) same ∙ seen) (ap (λ (s : State). s.mine) same ∙ mine)

ends_on : (state now new : State) (pending : Option (List Change)) → Owns state now → EndsOpen now pending new → Owns state new
ends_on state now new None so ended = subst (λ (s : State). Owns state s) (sym ended) so
ends_on state now new (Some []) so (inl same) = same_state so same refl refl
ends_on state now new (Some []) so (inr ended) = commits_on state now new [] so ended
ends_on state now new (Some (change ∷ changes)) so ended = commits_on state now new (change ∷ changes) so ended

goes_on : (state now new : State) (pending : Option (List Change)) (changes : List Change) → Owns state now → GoesInto now pending changes new → Owns state new
goes_on state now new None changes so goes = commits_on state now new changes so goes
goes_on state now new (Some before) changes so goes = same_state so goes refl refl

creates_on : (state now new : State) (text : List ℕ) → Owns state now → Creates now text new → Owns state new
creates_on state now new text so creates = commits_on state creates.middle new _ (ends_on state now creates.middle now.pending so creates.ended) creates.commits

-- a command that is handled
handled : (state now new : State) (command : Command) → Owns state now → Effect now command new → Owns state new
handled state now new SetUp so effect = same_state so effect refl refl
handled state now new NamesUtf8mb4 so effect = same_state so effect refl refl
handled state now new NamesBinary so effect = same_state so effect refl refl
handled state now new ForeignKeyChecksOff so effect = same_state so effect refl refl
handled state now new TimeZoneUtc so effect = same_state so effect refl refl
handled state now new BinaryLogOff so effect = same_state so effect refl refl
handled state now new (SqlMode value) so effect = same_state so effect refl refl
handled state now new (CharacterSetClient value) so effect = same_state so effect refl refl
handled state now new (CollationConnection value) so effect = same_state so effect refl refl
handled state now new RepeatableRead so effect = same_state so effect refl refl
handled state now new (TimeZone value) so effect = same_state so effect refl refl
handled state now new LockInstance so effect = same_state so effect refl refl
handled state now new FlushTables so effect = same_state so effect refl refl
handled state now new UnlockTables so effect = same_state so effect refl refl
handled state now new UnlockInstance so effect = same_state so effect refl refl
handled state now new StartSnapshot so effect = same_state (ends_on state now effect.middle now.pending so effect.ended) effect.new_is refl refl
handled state now new Start so effect = same_state (ends_on state now effect.middle now.pending so effect.ended) effect.new_is refl refl
handled state now new Commit so effect = ends_on state now new now.pending so effect
handled state now new Rollback so effect = same_state so effect refl refl
handled state now new (Use schema) so effect = same_state so effect.new_is refl refl
handled state now new (Create text) so effect = creates_on state now new text so effect
handled state now new CreateProgress so effect = creates_on state now new _ so effect
handled state now new CreateProgressFiles so effect = creates_on state now new _ so effect
handled state now new CreateProgressDump so effect = creates_on state now new _ so effect
handled state now new (Insert text) so effect = goes_on state now new now.pending effect.inserts.changes so effect.inserts.goes
handled state now new (InsertProgressFile name) so effect = goes_on state now new now.pending effect.changes so effect.goes
handled state now new (InsertProgressDump digest) so effect = goes_on state now new now.pending effect.changes so effect.goes

pub its_own : ASoleLinkSeesItsOwn
its_own state new statement (refused found refusal) quiet sole serves =
    let so = same_state (nothing_more state serves.more (serves.gives.sees.sole quiet sole)) serves.gives.new_is refl refl in (so.own, so.seen, so.mine)
its_own state new (SomeCommand command) done quiet sole serves =
    let so = handled state (with_others state serves.more) new command (nothing_more state serves.more (serves.sees.sole quiet sole)) serves.handles in (so.own, so.seen, so.mine)
its_own state new (SomeCommand command) (rows found) quiet sole serves = absurd serves.handles
its_own state new (SomeQuery query) done quiet sole serves = absurd serves.handles
its_own state new (SomeQuery query) (rows found) quiet sole serves =
    let so = same_state (nothing_more state serves.more (serves.sees.sole quiet sole)) serves.handles.1 refl refl in (so.own, so.seen, so.mine)
