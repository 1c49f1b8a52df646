-- A procedure and a view, and the settings that they are made under.
use lib.Utf8.{encode}
use Rattle.std.proofs.Common.{◌≡◌, ℕ, true, false, List, [], ◌∷◌, ◌++◌, Option, Some, None, refl, ap, sym, ◌∙◌, subst, arith, All, codes, inl, inr}
use Rattle.std.proofs.lemmas.Bool.{false≢true, true≢false}
use Rattle.std.proofs.lemmas.List.Elements.{All-cons, All-nil}
use Rattle.std.specs.Str.{chars, is_utf8}
use Rattle.object_forms.specs.Token.{tokens}
use Rattle.object_forms.specs.declared.kind.Kind.{Kind}
use Rattle.object_forms.specs.declared.kind.Kind.TheVariants.{View}
use Rattle.server_data.specs.Fold.{change_db, db, has_object, may_make}
use Rattle.server_data.specs.declared.data.Change.{Change}
use Rattle.server_data.specs.declared.data.Change.TheVariants.{Make}
use Rattle.server_data.specs.declared.data.Database.{Database}
use Rattle.server_data.specs.declared.data.Object.{Object}
use Rattle.server_data.specs.declared.data.Settings.{Settings}
use Rattle.server_data.specs.declared.data.Transaction.{Transaction}
use Rattle.sql_cells.specs.declared.cell.Cell.{Cell}
use Rattle.sql_cells.specs.declared.cell.Cell.TheVariants.{Null, Value}
use Rattle.statement_forms.specs.declared.command.Command.TheVariants.{CharacterSetClient, CollationConnection, Create, SqlMode, Use}
use Rattle.statement_forms.specs.declared.query.Query.TheVariants.{CreateProcedure}
use Rattle.statement_forms.specs.declared.statement.Statement.TheVariants.{Command as SomeCommand, Query as SomeQuery}
use Rattle.honest_server.specs.Answer.{Answers}
use Rattle.honest_server.specs.Effect.{IsMade, made_settings}
use Rattle.honest_server.specs.Moves.{MayFollow, plainly}
use Rattle.honest_server.specs.Serve.{Serves, done}
use Rattle.honest_server.specs.State.{State, no_settings}
use Rattle.honest_server.specs.WellFormed.{HasGoodMark, HasItsHead, IsSound, IsWellFormed, IsWellFormedObject, is_name}
use Rattle.honest_examples.specs.Routines.{ARoutineIsShownWithItsSettings, SettingsAreOfTheNextObject, making_state, procedure_text, reading, settings, shown, the_procedure, the_view, view_text, with_procedure, with_settings}
use Rattle.honest_examples.specs.Worked.{schema, schema_alone, server, the_schema, unmarked}
use Rattle.honest_examples.proofs.Commanding.{free}
use Rattle.honest_examples.proofs.Serving.{IsAlone, serves_done, serves_rows}
use Rattle.honest_examples.proofs.Soundness.{all_of_one, good_schema, printed_in}
use Rattle.honest_examples.proofs.Worked.{schema_named, stands_alone}
use Rattle.plain_data.proofs.Options.{same_some}

-- the two objects are well-formed

pub procedure_head : HasItsHead the_procedure
unfolding tokens
procedure_head = record { found = _; is_making = refl; kind = refl; name = refl; schema = tt; own = λ e. cc }

view_head : HasItsHead the_view
unfolding tokens
view_head = record { found = _; is_making = refl; kind = refl; name = refl; schema = tt; own = λ e. cc }

pub procedure_named : is_name (codes "p") ≡ true
unfolding is_utf8 chars encode
procedure_named = refl

view_named : is_name (codes "v") ≡ true
unfolding is_utf8 chars encode
view_named = refl

-- the schema and one of them
abbrev pub beside_schema : Object → Database
beside_schema object = record { objects = the_schema ∷ object ∷ []; rows = [] }

good_procedure : (end : Database) → IsWellFormedObject end the_procedure
good_procedure end = record { named = procedure_named; in_schema = schema_named; head = procedure_head; settings = record { made = settings; settings_are = refl; no_zone = refl }; shape = record { columns = refl; key = refl }; table = tt; rows = tt; needs = All-nil _; rank = omega arith }

good_view : (end : Database) → IsWellFormedObject end the_view
good_view end = record { named = view_named; in_schema = schema_named; head = view_head; settings = (record { made = record settings { sql_mode = [] }; settings_are = refl; no_zone = refl }, refl); shape = record { columns = refl; key = refl }; table = tt; rows = tt; needs = All-nil _; rank = omega arith }

pub good_marks : (object : Object) → All HasGoodMark (schema_alone ++ unmarked (Make object ∷ []) ∷ [])
good_marks object = All-cons HasGoodMark (unmarked (Make the_schema ∷ [])) (unmarked (Make object ∷ []) ∷ []) tt (all_of_one HasGoodMark (unmarked (Make object ∷ [])) tt)

pub well_formed : (object : Object) → IsWellFormedObject (beside_schema object) object → IsWellFormed (beside_schema object)
well_formed object good = record { objects = All-cons (IsWellFormedObject (beside_schema object)) the_schema (object ∷ []) (good_schema (beside_schema object)) (all_of_one (IsWellFormedObject (beside_schema object)) object good) }

pub sound_procedure : IsSound server with_procedure
unfolding change_db has_object may_make
sound_procedure = record { database = beside_schema the_procedure; stands = refl; well_formed = well_formed the_procedure (good_procedure _); printed = printed_in _ (the_schema ∷ the_procedure ∷ []) refl; marks = good_marks the_procedure }

sound_view : IsSound server (schema_alone ++ unmarked (Make the_view ∷ []) ∷ [])
unfolding change_db has_object may_make
sound_view = record { database = beside_schema the_view; stands = refl; well_formed = well_formed the_view (good_view _); printed = printed_in _ (the_schema ∷ the_view ∷ []) refl; marks = good_marks the_view }

-- and they are made

abbrev pub alone : Database
alone = record { objects = the_schema ∷ []; rows = [] }

made_procedure : IsMade (with_settings settings) alone procedure_text the_procedure
unfolding tokens
made_procedure = record { text_is = refl; found = _; is_making = refl; kind = refl; name = refl; schema = refl; settings = refl; shape = record { columns = refl; key = refl }; place = record { rank = refl; needs = refl } }

made_view : IsMade (with_settings settings) alone view_text the_view
unfolding tokens
made_view = record { text_is = refl; found = _; is_making = refl; kind = refl; name = refl; schema = refl; settings = refl; shape = record { columns = refl; key = refl }; place = refl }

pub lone : (made : Settings) → IsAlone (with_settings made)
lone made = record {
  quiet = refl;
  sole = refl;
  willing = refl;
  nothing = record { follows = record { frozen = λ p. refl; guarded = λ p. absurd (false≢true p); catalogue = λ p q. absurd (true≢false q) }; sole = λ p q. refl; willing = λ p q. refl };
  same = refl;
}

pub follows : (made : Settings) (more : List Transaction) → MayFollow (with_settings made) more
follows made more = record { frozen = λ p. absurd (false≢true p); guarded = λ p. absurd (false≢true p); catalogue = λ p q. absurd (true≢false q) }

-- what a transaction's last changes are, and the object that they make
abbrev pub last : List Transaction → List Change
last (one ∷ others) = one.changes
last [] = []

abbrev pub settings_of : List Change → Option Settings
settings_of (Make object ∷ changes) = object.settings
settings_of changes = None

abbrev pub kind_of : List Change → Kind
kind_of (Make object ∷ changes) = object.kind
kind_of changes = View

abbrev mode_of : Option Settings → List ℕ
mode_of None = []
mode_of (Some made) = made.sql_mode

pub next_object : SettingsAreOfTheNextObject
unfolding has_object
next_object = record {
  mode = serves_done (with_settings no_settings) (SomeCommand (SqlMode (codes "ANSI"))) (with_settings (record no_settings { sql_mode = codes "ANSI" })) (lone no_settings) refl;
  client = serves_done (with_settings (record settings { client = [] })) (SomeCommand (CharacterSetClient (codes "utf8mb4"))) (with_settings settings) (lone (record settings { client = [] })) refl;
  collation = serves_done (with_settings (record settings { collation = [] })) (SomeCommand (CollationConnection (codes "utf8mb4_bin"))) (with_settings settings) (lone (record settings { collation = [] })) refl;
  of_procedure = serves_done (with_settings settings) (SomeCommand (Create procedure_text)) (making_state the_procedure) (lone settings)
      (record { middle = with_settings settings; ended = refl; database = alone; stands = stands_alone; object = the_procedure; made = made_procedure; commits = record { one = unmarked (Make the_procedure ∷ []); changes_are = refl; follows = follows settings (unmarked (Make the_procedure ∷ []) ∷ []); sound = sound_procedure; new_is = refl } });
  of_view = serves_done (with_settings settings) (SomeCommand (Create view_text)) (making_state the_view) (lone settings)
      (record { middle = with_settings settings; ended = refl; database = alone; stands = stands_alone; object = the_view; made = made_view; commits = record { one = unmarked (Make the_view ∷ []); changes_are = refl; follows = follows settings (unmarked (Make the_view ∷ []) ∷ []); sound = sound_view; new_is = refl } });
  cleared = serves_done (with_settings settings) (SomeCommand (Use schema)) (with_settings no_settings) (lone settings) (record { database = alone; stands = stands_alone; is_there = refl; new_is = refl });
  refused = never;
}
  where
    other : Object
    other = record the_procedure { settings = Some no_settings }

    never : Serves plainly (with_settings settings) (SomeCommand (Create procedure_text)) done (making_state (record the_procedure { settings = Some no_settings })) → ⊥
    never served = absurd (cc (ap mode_of (ap settings_of object ∙ made)))
      where
        object : Make other ∷ [] ≡ Make served.handles.object ∷ []
        object = ap (λ (state : State). last state.mine) served.handles.commits.new_is ∙ (ap (λ (state : State). last (state.mine ++ served.handles.commits.one ∷ [])) served.handles.ended ∙ served.handles.commits.changes_are)

        made : served.handles.object.settings ≡ Some settings
        made = served.handles.made.settings ∙ (ap (λ (state : State). made_settings state.settings served.handles.object.kind) served.handles.ended ∙ ap (λ (kind : Kind). made_settings settings kind) (sym (ap kind_of object)))

-- SHOW CREATE PROCEDURE

stands : db with_procedure ≡ Some (beside_schema the_procedure)
unfolding change_db has_object may_make
stands = refl

pub routine : ARoutineIsShownWithItsSettings
routine = record {
  allowed = serves_rows reading (SomeQuery (CreateProcedure schema (codes "p"))) (shown (codes "ANSI") (Value procedure_text)) reading (free with_procedure (Some schema) false None None refl)
      (record { database = beside_schema the_procedure; stands = stands; answers = record { settings = settings; settings_are = refl; first = Value (codes "p"); text = Value procedure_text; more = []; text_is = inl refl; rows_are = refl }; texts = λ p. refl }, refl);
  withheld = record {
    more = [];
    sees = record { follows = record { frozen = λ p. refl; guarded = λ p. absurd (false≢true p); catalogue = λ p q. absurd (true≢false q) }; sole = λ p q. refl; willing = λ p q. refl };
    handles = (record { database = beside_schema the_procedure; stands = stands; answers = record { settings = settings; settings_are = refl; first = Value (codes "p"); text = Null; more = []; text_is = inr refl; rows_are = refl }; texts = λ p. absurd (false≢true p) }, refl);
    ends = tt;
  };
  kept = λ new served. false≢true (served.handles.0.texts refl);
  refused = λ new served. never served.handles.0.database (same_some (sym served.handles.0.stands ∙ (ap (λ (more : List Transaction). db (with_procedure ++ more)) (served.sees.sole refl refl) ∙ stands))) served.handles.0.answers;
}
  where
    second : List (List Cell) → List ℕ
    second ((first ∷ Value mode ∷ more) ∷ others) = mode
    second found = []

    never : (end : Database) → end ≡ beside_schema the_procedure → Answers end (CreateProcedure schema (codes "p")) (shown [] (Value procedure_text)) → ⊥
    never end is answers = absurd (cc (ap second shows.rows_are ∙ sym (ap mode_of shows.settings_are)))
      where
        shows : Answers (beside_schema the_procedure) (CreateProcedure schema (codes "p")) (shown [] (Value procedure_text))
        shows = subst (λ (end : Database). Answers end (CreateProcedure schema (codes "p")) (shown [] (Value procedure_text))) is answers
