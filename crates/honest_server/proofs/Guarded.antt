-- What a link sees while it holds the backup lock.
use Rattle.std.proofs.Common.{◌≡◌, ℕ, true, List, [], ◌∷◌, ◌++◌, Option, Some, None, refl, ap, sym, ◌∙◌, append_assoc, subst, inl, inr}
use Rattle.std.specs.Prelude.{option_and_then}
use Rattle.server_data.specs.Fold.{change_db, changes_db, db, more_db}
use Rattle.server_data.specs.declared.data.Change.{Change}
use Rattle.server_data.specs.declared.data.Database.{Database}
use Rattle.server_data.specs.declared.data.Transaction.{Transaction}
use Rattle.statement_forms.specs.declared.command.Command.TheVariants.{SetUp, NamesUtf8mb4, NamesBinary, ForeignKeyChecksOff, TimeZoneUtc, BinaryLogOff, SqlMode, CharacterSetClient, CollationConnection, RepeatableRead, TimeZone, LockInstance, FlushTables, UnlockTables, UnlockInstance, StartSnapshot, Start, Commit, Rollback, Use, Create, CreateProgress, CreateProgressFiles, CreateProgressDump, Insert, InsertProgressFile, InsertProgressDump}
use Rattle.statement_forms.specs.declared.command.Command.{Command}
use Rattle.statement_forms.specs.declared.statement.Statement.TheVariants.{Command as SomeCommand, Query as SomeQuery}
use Rattle.honest_server.specs.Catalogue.{AreOfRows, KeepCatalogue, KeepsCatalogue, no_more, a_row, a_rise, one_more}
use Rattle.honest_server.specs.Effect.{Commits, Creates, Effect, EndsOpen, GoesInto}
use Rattle.honest_server.specs.Laws.{AGuardedLinkSeesOneCatalogue}
use Rattle.honest_server.specs.Moves.{SeesOthers}
use Rattle.honest_server.specs.Serve.{done, rows, refused}
use Rattle.honest_server.specs.State.{State, with_others}
use Rattle.plain_data.proofs.Options.{same_some}

-- changes one after the other
changes_join : (database : Database) (front after : List Change) → changes_db database (front ++ after) ≡ option_and_then (λ (middle : Database). changes_db middle after) (changes_db database front)
changes_join database [] after = refl
changes_join database (change ∷ front) after = by_first (λ next. changes_join next front after) (change_db database change)
  where
    by_first : ((next : Database) → changes_db next (front ++ after) ≡ option_and_then (λ (middle : Database). changes_db middle after) (changes_db next front)) → (next : Option Database) → option_and_then (λ (middle : Database). changes_db middle (front ++ after)) next ≡ option_and_then (λ (middle : Database). changes_db middle after) (option_and_then (λ (middle : Database). changes_db middle front) next)
    by_first joins None = refl
    by_first joins (Some next) = joins next

-- transactions one after the other
more_join : (database : Database) (front after : List Transaction) → more_db database (front ++ after) ≡ option_and_then (λ (middle : Database). more_db middle after) (more_db database front)
more_join database [] after = refl
more_join database (one ∷ front) after = by_first (λ next. more_join next front after) (changes_db database one.changes)
  where
    by_first : ((next : Database) → more_db next (front ++ after) ≡ option_and_then (λ (middle : Database). more_db middle after) (more_db next front)) → (next : Option Database) → option_and_then (λ (middle : Database). more_db middle (front ++ after)) next ≡ option_and_then (λ (middle : Database). more_db middle after) (option_and_then (λ (middle : Database). more_db middle front) next)
    by_first joins None = refl
    by_first joins (Some next) = joins next

rows_lead : {old new : Database} {changes : List Change} → AreOfRows old changes new → changes_db old changes ≡ Some new
rows_lead no_more = refl
rows_lead (a_row {old} {middle} {new} {change} {changes} is_row first others) = ap (λ (found : Option Database). option_and_then (λ (middle : Database). changes_db middle changes) found) first ∙ rows_lead others
rows_lead (a_rise {old} {middle} {new} {rise} {changes} {whole} is_rise first is_whole others) =
    ap (λ (all : List Change). changes_db old all) is_whole ∙ (changes_join old rise changes ∙ (ap (λ (found : Option Database). option_and_then (λ (middle : Database). changes_db middle changes) found) first ∙ rows_lead others))

kept_leads : {old new : Database} {more : List Transaction} → KeepCatalogue old more new → more_db old more ≡ Some new
kept_leads no_more = refl
kept_leads (one_more {old} {middle} {new} {one} {others} first rest) = ap (λ (found : Option Database). option_and_then (λ (middle : Database). more_db middle others) found) (rows_lead first) ∙ kept_leads rest

kept_join : {old middle new : Database} {more after : List Transaction} → KeepCatalogue old more middle → KeepCatalogue middle after new → KeepCatalogue old (more ++ after) new
kept_join no_more after = after
kept_join (one_more first rest) after = one_more first (kept_join rest after)

-- what follows a history, and then what follows that
join : (history more after : List Transaction) → KeepsCatalogue history more → KeepsCatalogue (history ++ more) after → KeepsCatalogue history (more ++ after)
join history more after first second = record {
  old = first.old;
  new = second.new;
  stands = first.stands;
  keeps = kept_join first.keeps (subst (λ (database : Database). KeepCatalogue database after second.new) (sym same) second.keeps);
}
  where
    leads : db (history ++ more) ≡ Some first.new
    leads = more_join _ history more ∙ (ap (λ (found : Option Database). option_and_then (λ (middle : Database). more_db middle more) found) first.stands ∙ kept_leads first.keeps)

    same : first.new ≡ second.old
    same = same_some (sym leads ∙ second.stands)

-- a link has come to see more, and it still holds the lock
record Extends (state now : State) : Type 0 where
  more : List Transaction
  seen : now.seen ≡ state.seen ++ more
  keeps : KeepsCatalogue state.seen more
  guarded : now.guarded ≡ true

others_seen : (state : State) (more : List Transaction) → state.guarded ≡ true → SeesOthers state more → Extends state (with_others state more)
others_seen state more guarded sees = record { more = more; seen = refl; keeps = sees.follows.guarded guarded; guarded = guarded }

commits_on : (state now new : State) (changes : List Change) → Extends state now → Commits now changes new → Extends state new
commits_on state now new changes so commits = record {
  more = so.more ++ commits.one ∷ [];
  seen = ap (λ (s : State). s.seen) commits.new_is ∙ (ap (λ (list : List Transaction). list ++ commits.one ∷ []) so.seen ∙ append_assoc state.seen so.more (commits.one ∷ []));
  keeps = join state.seen so.more (commits.one ∷ []) so.keeps (subst (λ (list : List Transaction). KeepsCatalogue list (commits.one ∷ [])) so.seen (commits.follows.guarded so.guarded));
  guarded = ap (λ (s : State). s.guarded) commits.new_is ∙ so.guarded;
}

-- the open transaction alone has ended
same_more : {state now new : State} → Extends state now → new ≡ record now { pending = None } → Extends state new
same_more so same = record { more = so.more; seen = ap (λ (s : State). s.seen) same ∙ so.seen; keeps = so.keeps; guarded = ap (λ (s : State). s.guarded) same ∙ so.guarded }

ends_on : (state now new : State) (pending : Option (List Change)) → Extends state now → EndsOpen now pending new → Extends state new
ends_on state now new None so ended = subst (λ (s : State). Extends state s) (sym ended) so
ends_on state now new (Some []) so (inl same) = same_more so same
ends_on state now new (Some []) so (inr ended) = commits_on state now new [] so ended
ends_on state now new (Some (change ∷ changes)) so ended = commits_on state now new (change ∷ changes) so ended

-- a link has come to see more, whatever locks it holds
record Seen (state now : State) : Type 0 where
  more : List Transaction
  seen : now.seen ≡ state.seen ++ more
  keeps : KeepsCatalogue state.seen more

seen_of : {state now : State} → Extends state now → Seen state now
seen_of so = record { more = so.more; seen = so.seen; keeps = so.keeps }

-- a statement that shows the link nothing more
same_seen : {state now new : State} → Extends state now → new.seen ≡ now.seen → Seen state new
same_seen so same = record { more = so.more; seen = same ∙ so.seen; keeps = so.keeps }

goes_on : (state now new : State) (pending : Option (List Change)) (changes : List Change) → Extends state now → GoesInto now pending changes new → Seen state new
goes_on state now new None changes so goes = seen_of (commits_on state now new changes so goes)
goes_on state now new (Some before) changes so goes = same_seen so (ap (λ (s : State). s.seen) goes)

creates_on : (state now new : State) (text : List ℕ) → Extends state now → Creates now text new → Seen state new
creates_on state now new text so creates = seen_of (commits_on state creates.middle new _ (ends_on state now creates.middle now.pending so creates.ended) creates.commits)

-- a command that is handled
handled : (state now new : State) (command : Command) → Extends state now → Effect now command new → Seen state new
handled state now new SetUp so effect = same_seen so (ap (λ (s : State). s.seen) effect)
handled state now new NamesUtf8mb4 so effect = same_seen so (ap (λ (s : State). s.seen) effect)
handled state now new NamesBinary so effect = same_seen so (ap (λ (s : State). s.seen) effect)
handled state now new ForeignKeyChecksOff so effect = same_seen so (ap (λ (s : State). s.seen) effect)
handled state now new TimeZoneUtc so effect = same_seen so (ap (λ (s : State). s.seen) effect)
handled state now new BinaryLogOff so effect = same_seen so (ap (λ (s : State). s.seen) effect)
handled state now new (SqlMode value) so effect = same_seen so (ap (λ (s : State). s.seen) effect)
handled state now new (CharacterSetClient value) so effect = same_seen so (ap (λ (s : State). s.seen) effect)
handled state now new (CollationConnection value) so effect = same_seen so (ap (λ (s : State). s.seen) effect)
handled state now new RepeatableRead so effect = same_seen so (ap (λ (s : State). s.seen) effect)
handled state now new (TimeZone value) so effect = same_seen so (ap (λ (s : State). s.seen) effect)
handled state now new LockInstance so effect = same_seen so (ap (λ (s : State). s.seen) effect)
handled state now new FlushTables so effect = same_seen so (ap (λ (s : State). s.seen) effect)
handled state now new UnlockTables so effect = same_seen so (ap (λ (s : State). s.seen) effect)
handled state now new UnlockInstance so effect = same_seen so (ap (λ (s : State). s.seen) effect)
handled state now new StartSnapshot so effect = same_seen (ends_on state now effect.middle now.pending so effect.ended) (ap (λ (s : State). s.seen) effect.new_is)
handled state now new Start so effect = same_seen (ends_on state now effect.middle now.pending so effect.ended) (ap (λ (s : State). s.seen) effect.new_is)
handled state now new Commit so effect = seen_of (ends_on state now new now.pending so effect)
handled state now new Rollback so effect = same_seen so (ap (λ (s : State). s.seen) effect)
handled state now new (Use schema) so effect = same_seen so (ap (λ (s : State). s.seen) effect.new_is)
handled state now new (Create text) so effect = creates_on state now new text so effect
handled state now new CreateProgress so effect = creates_on state now new _ so effect
handled state now new CreateProgressFiles so effect = creates_on state now new _ so effect
handled state now new CreateProgressDump so effect = creates_on state now new _ so effect
handled state now new (Insert text) so effect = goes_on state now new now.pending effect.inserts.changes so effect.inserts.goes
handled state now new (InsertProgressFile name) so effect = goes_on state now new now.pending effect.changes so effect.goes
handled state now new (InsertProgressDump digest) so effect = goes_on state now new now.pending effect.changes so effect.goes

pub one_catalogue : AGuardedLinkSeesOneCatalogue
one_catalogue state new statement (refused found refusal) guarded serves =
    let so = same_seen {new = new} (others_seen state serves.more guarded serves.gives.sees) (ap (λ (s : State). s.seen) serves.gives.new_is) in (so.more, so.seen, so.keeps)
one_catalogue state new (SomeCommand command) done guarded serves =
    let so = handled state (with_others state serves.more) new command (others_seen state serves.more guarded serves.sees) serves.handles in (so.more, so.seen, so.keeps)
one_catalogue state new (SomeCommand command) (rows found) guarded serves = absurd serves.handles
one_catalogue state new (SomeQuery query) done guarded serves = absurd serves.handles
one_catalogue state new (SomeQuery query) (rows found) guarded serves =
    let so = same_seen {new = new} (others_seen state serves.more guarded serves.sees) (ap (λ (s : State). s.seen) serves.handles.1) in (so.more, so.seen, so.keeps)
