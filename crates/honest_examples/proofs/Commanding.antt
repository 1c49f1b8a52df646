-- Statements on a link, and which of them are served.
use Rattle.std.proofs.Common.{◌≡◌, Bool, true, false, List, [], ◌∷◌, ◌++◌, Option, Some, None, ℕ, refl, ap, sym, ◌∙◌, subst, codes, not, ◌&&◌, cond, arith, length, length-append, inl, inr, ◌⊎◌}
use Rattle.std.proofs.lemmas.Bool.{false≢true, true≢false}
use Rattle.std.specs.Prelude.{option_and_then}
use Rattle.object_forms.specs.Head.{Making, making}
use Rattle.object_forms.specs.Shape.{name_value}
use Rattle.object_forms.specs.Token.{tokens}
use Rattle.object_forms.specs.declared.kind.Kind.{Kind}
use Rattle.object_forms.specs.declared.kind.Kind.TheVariants.{Schema, Table}
use Rattle.server_data.specs.Fold.{change_db, changes_db, db, has_object, may_make, has_place, more_db, rows_of, with_object}
use Rattle.server_data.specs.declared.data.Change.{Change}
use Rattle.server_data.specs.declared.data.Change.TheVariants.{Make}
use Rattle.server_data.specs.declared.data.Database.{Database}
use Rattle.server_data.specs.declared.data.Object.{Object}
use Rattle.server_data.specs.declared.data.Transaction.{Transaction}
use Rattle.sql_cells.specs.declared.cell.Cell.{Cell}
use Rattle.sql_cells.specs.declared.cell.Cell.TheVariants.{Value}
use Rattle.statement_forms.specs.declared.command.Command.TheVariants.{Commit, Create, Rollback, Start, StartSnapshot, Use}
use Rattle.statement_forms.specs.declared.query.Query.TheVariants.{Rows}
use Rattle.statement_forms.specs.declared.statement.Statement.TheVariants.{Command as SomeCommand, Query as SomeQuery}
use Rattle.honest_server.specs.Answer.{Answers}
use Rattle.honest_server.specs.Effect.{EndsOpen, IsMade, MadeIn}
use Rattle.honest_server.specs.Moves.{MayFollow, plainly}
use Rattle.honest_server.specs.Serve.{CameBefore, FitsNowhere, done, rows, refused, Serves}
use Rattle.honest_server.specs.State.{State, with_own, with_others}
use Rattle.honest_examples.specs.Answered.{columns, no_table_err}
use Rattle.honest_examples.specs.Effects.{ACommitWaitsForTheReadLock, AnEmptyTransactionEndsUnderTheReadLock, open_state, ARollbackDropsTheTransaction, ASnapshotShowsWhatWasSeen, AnErrBreaksOffAnAnswer, unwilling, ASchemaIsUsedWhereItIsThere, ASelectShowsTheSnapshot, ATableIsMadeInTheCurrentSchema, AnInsertIsCommittedAtOnce, TheBackupLockStopsACreate, frozen, guarded, insert, link, opened, viewing, with_three, worked}
use Rattle.honest_examples.specs.Worked.{database, history, no_rows, one, put, schema, schema_alone, table, table_text, the_schema, the_table, three, two, unmarked, with_rows}
use Rattle.honest_examples.proofs.Bags.{first_of_two, other_order, same_rows, some_row}
use Rattle.honest_examples.proofs.Changes.{keeps_nothing, keeps_three, makes_nothing}
use Rattle.honest_examples.proofs.Inserting.{put_three, taken_key}
use Rattle.honest_examples.proofs.Serving.{IsAlone, refuses, serves_done, serves_rows}
use Rattle.honest_examples.proofs.Soundness.{sound_empty, sound_with_none, sound_with_three}
use Rattle.honest_examples.proofs.Worked.{stands, stands_alone, stands_empty, table_shape}
use Rattle.plain_data.proofs.Options.{same_some}

-- a link without the backup lock sees nothing of others
pub free : (seen : List Transaction) (current : Option (List ℕ)) (frozen : Bool) (view : Option (List Transaction)) (pending : Option (List Change)) → seen ++ [] ≡ seen → IsAlone (record (link seen current) { frozen = frozen; view = view; pending = pending })
free seen current frozen view pending same = record {
  quiet = refl;
  sole = refl;
  willing = refl;
  nothing = record {
    follows = record { frozen = λ p. refl; guarded = λ p. absurd (false≢true p); catalogue = λ p q. absurd (true≢false q) };
    sole = λ p q. refl;
    willing = λ p q. refl;
  };
  same = ap (λ (now : List Transaction). record (link seen current) { seen = now; frozen = frozen; view = view; pending = pending }) same;
}

-- without locks anything may follow
pub may_follow : (seen : List Transaction) (current : Option (List ℕ)) (pending : Option (List Change)) (more : List Transaction) → MayFollow (record (link seen current) { pending = pending }) more
may_follow seen current pending more = record { frozen = λ p. absurd (false≢true p); guarded = λ p. absurd (false≢true p); catalogue = λ p q. absurd (true≢false q) }

pub inserts : AnInsertIsCommittedAtOnce
inserts = record {
  allowed = serves_done worked (insert (codes "(3,'c')")) (with_three worked) (free history (Some schema) false None None refl) (put_three false (may_follow history (Some schema) None (unmarked (put three ∷ []) ∷ [])));
  refused = refuses worked (insert (codes "(1,'b')")) (free history (Some schema) false None None refl) taken_key;
}

-- COMMIT

pub commits : ACommitWaitsForTheReadLock
commits = record {
  allowed = serves_done opened (SomeCommand Commit) (with_three opened) (free history (Some schema) false None (Some (put three ∷ [])) refl) (record { one = unmarked (put three ∷ []); changes_are = refl; follows = may_follow history (Some schema) (Some (put three ∷ [])) (unmarked (put three ∷ []) ∷ []); sound = sound_with_three; new_is = refl });
  none_open = serves_done (frozen worked) (SomeCommand Commit) (frozen worked) (free history (Some schema) true None None refl) refl;
  refused = refuses (frozen opened) (SomeCommand Commit) (free history (Some schema) true None (Some (put three ∷ [])) refl) never;
}
  where
    never : FitsNowhere plainly (frozen opened) (SomeCommand Commit) []
    never done new commits = absurd (cc (commits.follows.frozen refl))
    never (rows found) new effect = effect
    never (refused found refusal) new effect = effect

-- under the read lock nothing is committed
ends_alone : (new : State) → EndsOpen (frozen open_state) (Some []) new → new ≡ frozen worked
ends_alone new (inl ended) = ended
ends_alone new (inr commits) = absurd (cc (commits.follows.frozen refl))

empty_alone : (new : State) → Serves plainly (frozen open_state) (SomeCommand Commit) done new → new ≡ frozen worked
empty_alone new served = ends_alone new (subst (λ (more : List Transaction). EndsOpen (with_others (frozen open_state) more) (Some []) new) (served.sees.sole refl refl) served.handles)

pub empty_ends : AnEmptyTransactionEndsUnderTheReadLock
empty_ends = record {
  allowed = serves_done (frozen open_state) (SomeCommand Commit) (frozen worked) (free history (Some schema) true None (Some []) refl) (inl refl);
  nothing_else = empty_alone;
  started = serves_done (frozen open_state) (SomeCommand Start) (frozen open_state) (free history (Some schema) true None (Some []) refl) (record { middle = frozen worked; ended = inl refl; new_is = refl });
  marked = record { more = []; sees = (free history (Some schema) false None (Some []) refl).nothing; handles = inr (record { one = unmarked []; changes_are = refl; follows = may_follow history (Some schema) (Some []) (unmarked [] ∷ []); sound = sound_with_none; new_is = refl }); ends = tt };
  refused = λ served. absurd (cc (ap (λ (state : State). state.mine) (empty_alone _ served)));
}

-- CREATE TABLE

made_table : IsMade (link schema_alone (Some schema)) (record { objects = the_schema ∷ []; rows = [] }) table_text the_table
unfolding tokens
made_table = record { text_is = refl; found = _; is_making = refl; kind = refl; name = refl; schema = refl; settings = refl; shape = table_shape; place = record { rank = refl; needs = refl } }

-- what the text makes
abbrev made : Making
made = record { kind = Table; path = record { schema = None; name = table } }

is_made : (found : Making) → making table_text ≡ Some found → found ≡ made
unfolding tokens
is_made found is = cc

-- without a current schema it is made nowhere, and else in that
nowhere : (current : Option (List ℕ)) (object : Object) (spelled : Option (List ℕ)) (kind : Kind) → current ≡ None → spelled ≡ None → kind ≡ Table → MadeIn current object spelled kind → ⊥
nowhere current object spelled kind no_current no_spelled is_table made_in = absurd (cc (subst (λ (current : Option (List ℕ)). MadeIn current object None Table) no_current (subst (λ (spelled : Option (List ℕ)). MadeIn current object spelled Table) no_spelled (subst (λ (kind : Kind). MadeIn current object spelled kind) is_table made_in))))

made_in : (current : Option (List ℕ)) (object : Object) (spelled : Option (List ℕ)) (kind : Kind) → current ≡ Some schema → spelled ≡ None → kind ≡ Table → MadeIn current object spelled kind → object.schema ≡ schema
made_in current object spelled kind is_current no_spelled is_table made = same_some (sym (subst (λ (current : Option (List ℕ)). MadeIn current object None Table) is_current (subst (λ (spelled : Option (List ℕ)). MadeIn current object spelled Table) no_spelled (subst (λ (kind : Kind). MadeIn current object spelled kind) is_table made))))

-- where the table is, it isn't made again
not_again : (one : Transaction) (object : Object) (end : Database) → object.kind ≡ Table → object.schema ≡ schema → object.name ≡ table → one.changes ≡ Make object ∷ [] → db (no_rows ++ one ∷ []) ≡ Some end → ⊥
unfolding change_db has_object may_make
not_again one object end kind in_schema name makes stands = absurd (cc (sym ends ∙ stands))
  where
    there : has_object (with_rows []) object.kind object.schema object.name ≡ true
    there = ap (λ (kind : Kind). has_object (with_rows []) kind object.schema object.name) kind ∙ (ap (λ (in_schema : List ℕ). has_object (with_rows []) Table in_schema object.name) in_schema ∙ ap (λ (name : List ℕ). has_object (with_rows []) Table schema name) name)

    refused : change_db (with_rows []) (Make object) ≡ None
    refused = ap (λ (is_there : Bool). cond (not is_there && has_place (with_rows []) object object.kind) (Some (with_object (with_rows []) object)) None) there

    ends : db (no_rows ++ one ∷ []) ≡ None
    ends = ap (λ (changes : List Change). option_and_then (λ (next : Database). more_db next []) (changes_db (with_rows []) changes)) makes
        ∙ ap (λ (next : Option Database). option_and_then (λ (next : Database). more_db next []) (option_and_then (λ (next : Database). changes_db next []) next)) refused

pub creates : ATableIsMadeInTheCurrentSchema
creates = record {
  allowed = serves_done (link schema_alone (Some schema)) (SomeCommand (Create table_text)) (with_own (link schema_alone (Some schema)) (unmarked (Make the_table ∷ []))) (free schema_alone (Some schema) false None None refl)
      (record { middle = link schema_alone (Some schema); ended = refl; database = record { objects = the_schema ∷ []; rows = [] }; stands = stands_alone; object = the_table; made = made_table; commits = record { one = unmarked (Make the_table ∷ []); changes_are = refl; follows = may_follow schema_alone (Some schema) None (unmarked (Make the_table ∷ []) ∷ []); sound = sound_empty; new_is = refl } });
  refused = refuses (link schema_alone None) (SomeCommand (Create table_text)) (free schema_alone None false None None refl) no_current;
  there = refuses (link no_rows (Some schema)) (SomeCommand (Create table_text)) (free no_rows (Some schema) false None None refl) is_there;
}
  where
    no_current : FitsNowhere plainly (link schema_alone None) (SomeCommand (Create table_text)) []
    no_current done new creates = nowhere creates.middle.schema creates.object creates.made.found.path.schema creates.object.kind (ap (λ (state : State). state.schema) creates.ended) (ap (λ (found : Making). found.path.schema) (is_made creates.made.found creates.made.is_making)) (creates.made.kind ∙ ap (λ (found : Making). found.kind) (is_made creates.made.found creates.made.is_making)) creates.made.schema
    no_current (rows found) new effect = effect
    no_current (refused found refusal) new effect = effect

    is_there : FitsNowhere plainly (link no_rows (Some schema)) (SomeCommand (Create table_text)) []
    is_there done new creates = not_again creates.commits.one creates.object creates.commits.sound.database kind in_schema name creates.commits.changes_are (ap (λ (state : State). db (state.seen ++ creates.commits.one ∷ [])) (sym creates.ended) ∙ creates.commits.sound.stands)
      where
        found : creates.made.found ≡ made
        found = is_made creates.made.found creates.made.is_making

        kind : creates.object.kind ≡ Table
        kind = creates.made.kind ∙ ap (λ (found : Making). found.kind) found

        name : creates.object.name ≡ table
        name = creates.made.name ∙ ap (λ (found : Making). name_value found.path.name) found

        in_schema : creates.object.schema ≡ schema
        in_schema = made_in creates.middle.schema creates.object creates.made.found.path.schema creates.object.kind (ap (λ (state : State). state.schema) creates.ended) (ap (λ (found : Making). found.path.schema) found) kind creates.made.schema
    is_there (rows found) new effect = effect
    is_there (refused found refusal) new effect = effect

-- the backup lock

guarded_alone : (seen : List Transaction) (current : Option (List ℕ)) (end : Database) → seen ++ [] ≡ seen → db seen ≡ Some end → IsAlone (guarded (link seen current))
guarded_alone seen current end same ends = record {
  quiet = refl;
  sole = refl;
  willing = refl;
  nothing = record {
    follows = record { frozen = λ p. refl; guarded = λ p. keeps_nothing seen end ends; catalogue = λ p q. absurd (true≢false q) };
    sole = λ p q. refl;
    willing = λ p q. refl;
  };
  same = ap (λ (now : List Transaction). record (guarded (link seen current)) { seen = now }) same;
}

pub backup_lock : TheBackupLockStopsACreate
backup_lock = record {
  allowed = serves_done (guarded worked) (insert (codes "(3,'c')")) (with_three (guarded worked)) (guarded_alone history (Some schema) database refl stands) (put_three true (record { frozen = λ p. absurd (false≢true p); guarded = λ p. keeps_three; catalogue = λ p q. absurd (true≢false q) }));
  refused = refuses (guarded (link schema_alone (Some schema))) (SomeCommand (Create table_text)) (guarded_alone schema_alone (Some schema) _ refl stands_alone) never;
}
  where
    never : FitsNowhere plainly (guarded (link schema_alone (Some schema))) (SomeCommand (Create table_text)) []
    never done new made = makes_nothing made.middle.seen made.commits.one made.object made.commits.changes_are (made.commits.follows.guarded (ap (λ (state : State). state.guarded) made.ended))
    never (rows found) new effect = effect
    never (refused found refusal) new effect = effect

-- USE

pub uses : ASchemaIsUsedWhereItIsThere
unfolding has_object
uses = record {
  allowed = serves_done (link history None) (SomeCommand (Use schema)) worked (free history None false None None refl) (record { database = database; stands = stands; is_there = refl; new_is = refl });
  refused = refuses (link history None) (SomeCommand (Use no_table_err)) (free history None false None None refl) never;
}
  where
    never : FitsNowhere plainly (link history None) (SomeCommand (Use no_table_err)) []
    never done new found = false≢true (subst (λ (end : Database). has_object end Schema no_table_err no_table_err ≡ true) (same_some (sym found.stands ∙ stands)) found.is_there)
    never (rows found) new effect = effect
    never (refused found refusal) new effect = effect

-- a SELECT

pub selects : ASelectShowsTheSnapshot
unfolding rows_of
selects = record {
  allowed = serves_rows viewing (SomeQuery (Rows columns schema table)) [] viewing (free history (Some schema) false (Some no_rows) None refl) (record { database = with_rows []; stands = stands_empty; answers = record { all_columns = refl; same = same_rows _ }; texts = λ p. refl }, refl);
  refused = λ new served. never served.handles.0.database (same_some (sym served.handles.0.stands ∙ stands_empty)) served.handles.0.answers;
}
  where
    never : (end : Database) → end ≡ with_rows [] → Answers end (Rows columns schema table) (one ∷ two ∷ []) → ⊥
    never end is answers = some_row one (two ∷ []) (shows.same)
      where
        shows : Answers (with_rows []) (Rows columns schema table) (one ∷ two ∷ [])
        shows = subst (λ (end : Database). Answers end (Rows columns schema table) (one ∷ two ∷ [])) is answers

-- a snapshot

pub snapshots : ASnapshotShowsWhatWasSeen
snapshots = record {
  allowed = serves_done worked (SomeCommand StartSnapshot) (record worked { view = Some history }) (free history (Some schema) false None None refl) (record { middle = worked; ended = refl; new_is = refl });
  commits = serves_done opened (SomeCommand StartSnapshot) (record (with_three opened) { view = Some (history ++ unmarked (put three ∷ []) ∷ []) }) (free history (Some schema) false None (Some (put three ∷ [])) refl)
      (record { middle = with_three opened; ended = record { one = unmarked (put three ∷ []); changes_are = refl; follows = may_follow history (Some schema) (Some (put three ∷ [])) (unmarked (put three ∷ []) ∷ []); sound = sound_with_three; new_is = refl }; new_is = refl });
  older = older;
  refused = refuses (frozen opened) (SomeCommand StartSnapshot) (free history (Some schema) true None (Some (put three ∷ [])) refl) never;
}
  where
    older : Serves plainly worked (SomeCommand StartSnapshot) done viewing → ⊥
    older served = omega (arith, ap (λ (list : List Transaction). length list) (shown ∙ ap (λ (state : State). state.seen) served.handles.ended), length-append history served.more)
      where
        shown : no_rows ≡ served.handles.middle.seen
        shown = same_some (ap (λ (state : State). state.view) served.handles.new_is)

    never : FitsNowhere plainly (frozen opened) (SomeCommand StartSnapshot) []
    never done new takes = absurd (cc (takes.ended.follows.frozen refl))
    never (rows found) new effect = effect
    never (refused found refusal) new effect = effect

pub rollback : ARollbackDropsTheTransaction
rollback = record {
  allowed = serves_done opened (SomeCommand Rollback) worked (free history (Some schema) false None (Some (put three ∷ [])) refl) refl;
  refused = λ served. absurd (cc (ap (λ (state : State). state.mine) served.handles));
}

-- an ERR after rows

first_digit : List Cell → ℕ
first_digit (Value (byte ∷ bytes) ∷ cells) = byte
first_digit cells = 0

pub breaks_off : AnErrBreaksOffAnAnswer
unfolding rows_of first_digit
breaks_off = record {
  allowed = λ refusal. record {
    more = [];
    gives = record {
      sees = record { follows = record { frozen = λ p. refl; guarded = λ p. absurd (false≢true p); catalogue = λ p q. absurd (true≢false q) }; sole = λ p q. refl; willing = λ p q. refl };
      pending = None;
      lost = inl refl;
      new_is = refl;
    };
    before = inr (two ∷ one ∷ [], record { database = database; stands = stands; answers = record { all_columns = refl; same = other_order two one }; texts = λ p. refl }, record { rest = one ∷ []; joined = refl });
    must = λ p. absurd (false≢true p);
  };
  refused = λ refusal new gives. never (subst (λ (more : List Transaction). CameBefore (with_others unwilling more) (SomeQuery (Rows columns schema table)) (three ∷ [])) (gives.gives.sees.sole refl refl) gives.before);
}
  where
    in_bag : (end : Database) (whole rest : List (List Cell)) → end ≡ database → three ∷ rest ≡ whole → Answers end (Rows columns schema table) whole → ⊥
    in_bag end whole rest is joined answers = by_first (first_of_two three one two rest shows.same)
      where
        shows : Answers database (Rows columns schema table) (three ∷ rest)
        shows = subst (λ (whole : List (List Cell)). Answers database (Rows columns schema table) whole) (sym joined) (subst (λ (end : Database). Answers end (Rows columns schema table) whole) is answers)

        by_first : (three ≡ one) ⊎ (three ≡ two) → ⊥
        by_first (inl same) = omega (arith, ap first_digit same)
        by_first (inr same) = omega (arith, ap first_digit same)

    never : CameBefore (with_others unwilling []) (SomeQuery (Rows columns schema table)) (three ∷ []) → ⊥
    never (inl none) = absurd (cc (none))
    never (inr (whole, answered, front)) = in_bag answered.database whole front.rest (same_some (sym answered.stands ∙ stands)) front.joined answered.answers
