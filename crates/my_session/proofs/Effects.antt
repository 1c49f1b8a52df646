-- What an honest server's answers leave of a link's state: its phase is the same after a statement, and its terms always.
use Rattle.std.proofs.Common.{◌≡◌, ℕ, List, [], ◌∷◌, refl, ◌∙◌, ap, inl, inr, Option, Some, None}
use Rattle.honest_server.specs.Insert.{Insertion}
use Rattle.server_data.specs.declared.data.Need.{Need}
use Rattle.honest_server.specs.Effect.{Commits, EndsOpen, Creates, GoesInto, InsertsInto, Effect}
use Rattle.honest_server.specs.Exchange.{Replies, accepted, switched, turned_away, quits, served, unknown, ignored, Exchanges}
use Rattle.honest_server.specs.Link.{ServedLink, Breaks, CommitsAloneBy}
use Rattle.honest_server.specs.Moves.{Way, plainly, beside}
use Rattle.honest_server.specs.Serve.{Reply, done, rows, refused, Serves, GivesErr}
use Rattle.honest_server.specs.State.{State, with_others, with_own}
use Rattle.wire_forms.specs.declared.refusal.Refusal.{Refusal}
use Rattle.server_data.specs.declared.data.Change.{Change}
use Rattle.server_data.specs.declared.data.Change.TheVariants.{Make}
use Rattle.server_data.specs.declared.data.Transaction.{Transaction}
use Rattle.statement_forms.specs.declared.command.Command.{Command}
use Rattle.statement_forms.specs.declared.command.Command.TheVariants.{SetUp, NamesUtf8mb4, NamesBinary, ForeignKeyChecksOff, TimeZoneUtc, BinaryLogOff, SqlMode, CharacterSetClient, CollationConnection, RepeatableRead, TimeZone, LockInstance, FlushTables, UnlockTables, UnlockInstance, StartSnapshot, Start, Commit, Rollback, Use, Create, CreateProgress, CreateProgressFiles, CreateProgressDump, Insert, InsertProgressFile, InsertProgressDump}
use Rattle.statement_forms.specs.declared.form.Form.{Form}
use Rattle.statement_forms.specs.declared.statement.Statement.{Statement}
use Rattle.statement_forms.specs.declared.statement.Statement.TheVariants.{Command as SomeCommand, Query as SomeQuery}

pub record KeepsLink (old new : State) : Type 0 where
  pub phase : new.phase ≡ old.phase
  pub terms : new.terms ≡ old.terms

keeps_by : (old now new : State) → now.phase ≡ old.phase → now.terms ≡ old.terms → new ≡ now → KeepsLink old new
keeps_by old now new phase terms is = record { phase = ap (λ (s : State). s.phase) is ∙ phase; terms = ap (λ (s : State). s.terms) is ∙ terms }

keeps_on : (old middle new : State) → KeepsLink old middle → KeepsLink middle new → KeepsLink old new
keeps_on old middle new first later = record { phase = later.phase ∙ first.phase; terms = later.terms ∙ first.terms }

commits_keeps : (state : State) (changes : List Change) (new : State) → Commits state changes new → KeepsLink state new
commits_keeps state changes new commits = keeps_by state (with_own state commits.one) new refl refl commits.new_is

ends_keeps : (state : State) (pending : Option (List Change)) (new : State) → EndsOpen state pending new → KeepsLink state new
ends_keeps state None new is = keeps_by state state new refl refl is
ends_keeps state (Some []) new (inl is) = keeps_by state _ new refl refl is
ends_keeps state (Some []) new (inr commits) = commits_keeps state [] new commits
ends_keeps state (Some (change ∷ changes)) new commits = commits_keeps state (change ∷ changes) new commits

creates_keeps : (state : State) (text : List ℕ) (new : State) → Creates state text new → KeepsLink state new
creates_keeps state text new creates =
    keeps_on state creates.middle new (ends_keeps state state.pending creates.middle creates.ended) (commits_keeps creates.middle (Make creates.object ∷ []) new creates.commits)

goes_keeps : (state : State) (pending : Option (List Change)) (changes : List Change) (new : State) → GoesInto state pending changes new → KeepsLink state new
goes_keeps state None changes new commits = commits_keeps state changes new commits
goes_keeps state (Some before) changes new is = keeps_by state _ new refl refl is

inserts_keeps : (state : State) (table : Need) (says : Insertion) (new : State) → InsertsInto state table says new → KeepsLink state new
inserts_keeps state table says new inserts = goes_keeps state state.pending inserts.changes new inserts.goes

effect_keeps : (state : State) (command : Command) (new : State) → Effect state command new → KeepsLink state new
effect_keeps state SetUp new is = keeps_by state _ new refl refl is
effect_keeps state NamesUtf8mb4 new is = keeps_by state state new refl refl is
effect_keeps state NamesBinary new is = keeps_by state state new refl refl is
effect_keeps state ForeignKeyChecksOff new is = keeps_by state state new refl refl is
effect_keeps state TimeZoneUtc new is = keeps_by state _ new refl refl is
effect_keeps state BinaryLogOff new is = keeps_by state state new refl refl is
effect_keeps state (SqlMode value) new is = keeps_by state _ new refl refl is
effect_keeps state (CharacterSetClient value) new is = keeps_by state _ new refl refl is
effect_keeps state (CollationConnection value) new is = keeps_by state _ new refl refl is
effect_keeps state RepeatableRead new is = keeps_by state state new refl refl is
effect_keeps state (TimeZone value) new is = keeps_by state _ new refl refl is
effect_keeps state LockInstance new is = keeps_by state _ new refl refl is
effect_keeps state FlushTables new is = keeps_by state _ new refl refl is
effect_keeps state UnlockTables new is = keeps_by state _ new refl refl is
effect_keeps state UnlockInstance new is = keeps_by state _ new refl refl is
effect_keeps state StartSnapshot new takes = keeps_on state takes.middle new (ends_keeps state state.pending takes.middle takes.ended) (keeps_by takes.middle _ new refl refl takes.new_is)
effect_keeps state Start new starts = keeps_on state starts.middle new (ends_keeps state state.pending starts.middle starts.ended) (keeps_by starts.middle _ new refl refl starts.new_is)
effect_keeps state Commit new ended = ends_keeps state state.pending new ended
effect_keeps state Rollback new is = keeps_by state _ new refl refl is
effect_keeps state (Use schema) new uses = keeps_by state _ new refl refl uses.new_is
effect_keeps state (Create text) new creates = creates_keeps state _ new creates
effect_keeps state CreateProgress new creates = creates_keeps state _ new creates
effect_keeps state CreateProgressFiles new creates = creates_keeps state _ new creates
effect_keeps state CreateProgressDump new creates = creates_keeps state _ new creates
effect_keeps state (Insert text) new inserts = inserts_keeps state _ inserts.says new inserts.inserts
effect_keeps state (InsertProgressFile name) new inserts = inserts_keeps state _ _ new inserts
effect_keeps state (InsertProgressDump digest) new inserts = inserts_keeps state _ _ new inserts

pub unknown_keeps : (state : State) (more : List Transaction) (form : Option Form) (refusal : Refusal) (new : State) → GivesErr state more form refusal new → KeepsLink state new
unknown_keeps state more form refusal new gives = keeps_by state _ new refl refl gives.new_is

-- a statement that is served leaves the phase and the terms as they are
pub serves_keeps : (way : Way) (state : State) (statement : Statement) (reply : Reply) (new : State) → Serves way state statement reply new → KeepsLink state new
serves_keeps way state (SomeCommand command) done new handled = keeps_on state (with_others state handled.more) new (keeps_by state _ (with_others state handled.more) refl refl refl) (effect_keeps (with_others state handled.more) command new handled.handles)
serves_keeps way state (SomeCommand command) (rows found) new handled = absurd handled.handles
serves_keeps way state (SomeCommand command) (refused found refusal) new refuses = unknown_keeps state refuses.more _ refusal new refuses.gives
serves_keeps way state (SomeQuery query) done new handled = absurd handled.handles
serves_keeps way state (SomeQuery query) (rows found) new handled = keeps_by state (with_others state handled.more) new refl refl handled.handles.1
serves_keeps way state (SomeQuery query) (refused found refusal) new refuses = unknown_keeps state refuses.more _ refusal new refuses.gives

-- no answer changes the terms
replies_terms : (way : Way) (state : State) (payload : List ℕ) (messages : List (List ℕ)) (new : State) → Replies way state payload messages new → new.terms ≡ state.terms
replies_terms way state payload messages new (accepted logging says is) = ap (λ (s : State). s.terms) is
replies_terms way state payload messages new (switched message phase asks lean messages_are is) = ap (λ (s : State). s.terms) is
replies_terms way state payload messages new (turned_away refusal logging unwilling says is) = ap (λ (s : State). s.terms) is
replies_terms way state payload messages new (quits phase payload_is messages_are is) = ap (λ (s : State). s.terms) is
replies_terms way state payload messages new (served text statement reply phase payload_is read serves spells) = (serves_keeps way state statement reply new serves).terms
replies_terms way state payload messages new (unknown refusal more phase nothing gives says) = (unknown_keeps state more None refusal new gives).terms
replies_terms way state payload messages new (ignored phase messages_are is) = ap (λ (s : State). s.terms) is

pub exchanges_terms : (way : Way) (state : State) (message reply : List ℕ) (new : State) → Exchanges way state message reply new → new.terms ≡ state.terms
exchanges_terms way state message reply new exchanges = replies_terms way state exchanges.payload exchanges.messages new exchanges.replies

alone_terms : (way : Way) (state : State) (message : List ℕ) (new : State) → CommitsAloneBy way state message new → new.terms ≡ state.terms
alone_terms plainly state message new alone = (ends_keeps (with_others state alone.more) state.pending new alone.ended).terms
alone_terms (beside holder) state message new never = absurd never

pub breaks_terms : (way : Way) (old new : ServedLink) (message : List ℕ) → Breaks way old message new → new.state.terms ≡ old.state.terms
breaks_terms way old new message breaks = elim breaks.left [
  | inl whole ↦ exchanges_terms way old.state message whole.0 new.state whole.1
  | inr part ↦ elim part [
    | inl alone ↦ alone_terms way old.state message new.state alone
    | inr same ↦ ap (λ (s : State). s.terms) same
  ]
]
