-- An event, and the settings and the time zone that it is made under.
use lib.Utf8.{encode}
use Rattle.std.proofs.Common.{◌≡◌, ◌<◌, ℕ, true, false, List, [], ◌∷◌, ◌++◌, Option, Some, None, refl, ap, sym, ◌∙◌, subst, arith, codes, ◌⊎◌, inl, inr}
use Rattle.std.specs.List.{flat_map}
use Rattle.std.proofs.lemmas.Bool.{false≢true, true≢false}
use Rattle.std.proofs.lemmas.List.{append_cancel_left}
use Rattle.std.proofs.lemmas.List.Elements.{All-nil}
use Rattle.std.specs.Str.{chars, is_utf8}
use Rattle.object_forms.specs.Head.{HasHead}
use Rattle.object_forms.specs.Token.{tokens}
use Rattle.object_forms.specs.declared.kind.Kind.{Kind}
use Rattle.server_data.specs.Bag.{count_of}
use Rattle.server_data.specs.Fold.{change_db, db, has_object, may_drop, may_make}
use Rattle.server_data.specs.declared.data.Change.TheVariants.{Make}
use Rattle.server_data.specs.declared.data.Database.{Database}
use Rattle.server_data.specs.declared.data.Settings.{Settings}
use Rattle.server_data.specs.declared.data.Transaction.{Transaction}
use Rattle.sql_cells.specs.Literal.{escaped_byte, text_literal}
use Rattle.sql_cells.specs.Spelling.{inside, text_value}
use Rattle.sql_cells.specs.declared.cell.Cell.{Cell}
use Rattle.sql_cells.specs.declared.cell.Cell.TheVariants.{Null, Value}
use Rattle.sql_literals.proofs.ReadBacks.{inside_of}
use Rattle.sql_literals.proofs.Units.{escaped_back}
use Rattle.statement_forms.specs.Statement.{CommandHasText, IsTextOf, command_row, list_row}
use Rattle.statement_forms.specs.Text.{command_text}
use Rattle.statement_forms.specs.declared.command.Command.{Command}
use Rattle.statement_forms.specs.declared.command.Command.TheVariants.{Commit, Create, CreateProgress, CreateProgressDump, CreateProgressFiles, FlushTables, Insert, InsertProgressDump, InsertProgressFile, LockInstance, Rollback, Start, StartSnapshot, TimeZone, TimeZoneUtc, UnlockInstance, UnlockTables, Use}
use Rattle.statement_forms.specs.declared.query.Query.TheVariants.{CreateEvent}
use Rattle.statement_forms.specs.declared.statement.Statement.{Statement}
use Rattle.statement_forms.specs.declared.statement.Statement.TheVariants.{Command as SomeCommand, Query as SomeQuery}
use Rattle.honest_server.specs.Answer.{Answers}
use Rattle.honest_server.specs.Effect.{IsMade, made_settings}
use Rattle.honest_server.specs.Moves.{plainly}
use Rattle.honest_server.specs.Serve.{Serves, done}
use Rattle.honest_server.specs.State.{State, no_settings}
use Rattle.honest_server.specs.WellFormed.{HasItsHead, IsSound, IsWellFormedObject, is_name}
use Rattle.honest_examples.specs.Events.{AnEventIsDropped, AnEventIsMadeInATimeZone, AnEventIsShownWithItsTimeZone, EventsAreListed, OnlyAnEventHasATimeZone, TheTextOfUtcIsOfTwoStatements, after_event, event, event_text, in_zone, made_under, making_state, reading, settings, shown, system, the_event, utc}
use Rattle.honest_examples.specs.Routines.{procedure_text, the_procedure, with_settings}
use Rattle.honest_examples.specs.Worked.{schema, server, the_schema, unmarked}
use Rattle.honest_examples.proofs.Bags.{same_rows}
use Rattle.honest_examples.proofs.Commanding.{free}
use Rattle.honest_examples.proofs.Serving.{serves_done, serves_rows}
use Rattle.honest_examples.proofs.Setting.{alone, beside_schema, follows, good_marks, kind_of, last, lone, settings_of, sound_procedure, well_formed}
use Rattle.honest_examples.proofs.Soundness.{printed_in}
use Rattle.honest_examples.proofs.Texts.{first, insert_first, no_query, third}
use Rattle.honest_examples.proofs.Worked.{schema_named, stands_alone}
use Rattle.plain_data.proofs.Options.{same_some}

-- the event is well-formed, and is made

head : HasItsHead the_event
unfolding tokens
head = record { found = _; is_making = refl; kind = refl; name = refl; schema = tt; own = λ e. cc }

named : is_name event ≡ true
unfolding is_utf8 chars encode
named = refl

good_event : (end : Database) → IsWellFormedObject end the_event
good_event end = record { named = named; in_schema = schema_named; head = head; settings = (in_zone system, refl); shape = record { columns = refl; key = refl }; table = tt; rows = tt; needs = All-nil _; rank = omega arith }

sound_event : IsSound server after_event
unfolding change_db has_object may_make
sound_event = record { database = beside_schema the_event; stands = refl; well_formed = well_formed the_event (good_event _); printed = printed_in _ (the_schema ∷ the_event ∷ []) refl; marks = good_marks the_event }

stands : db after_event ≡ Some (beside_schema the_event)
unfolding change_db has_object may_make
stands = refl

is_made : IsMade (with_settings (in_zone system)) alone event_text the_event
unfolding tokens
is_made = record { text_is = refl; found = _; is_making = refl; kind = refl; name = refl; schema = refl; settings = refl; shape = record { columns = refl; key = refl }; place = record { rank = refl; needs = refl } }

made_procedure : IsMade (with_settings (in_zone system)) alone procedure_text the_procedure
unfolding tokens
made_procedure = record { text_is = refl; found = _; is_making = refl; kind = refl; name = refl; schema = refl; settings = refl; shape = record { columns = refl; key = refl }; place = record { rank = refl; needs = refl } }

-- the time zone of the object that a transaction makes

abbrev zone_of : Option Settings → List ℕ
zone_of None = []
zone_of (Some made) = made.zone

pub in_a_zone : AnEventIsMadeInATimeZone
unfolding has_object
in_a_zone = record {
  set = serves_done (with_settings settings) (SomeCommand (TimeZone system)) (with_settings (in_zone system)) (lone settings) refl;
  allowed = serves_done (with_settings (in_zone system)) (SomeCommand (Create event_text)) (making_state the_event) (lone (in_zone system))
      (record { middle = with_settings (in_zone system); ended = refl; database = alone; stands = stands_alone; object = the_event; made = is_made; commits = record { one = unmarked (Make the_event ∷ []); changes_are = refl; follows = follows (in_zone system) (unmarked (Make the_event ∷ []) ∷ []); sound = sound_event; new_is = refl } });
  of_procedure = serves_done (with_settings (in_zone system)) (SomeCommand (Create procedure_text)) (making_state the_procedure) (lone (in_zone system))
      (record { middle = with_settings (in_zone system); ended = refl; database = alone; stands = stands_alone; object = the_procedure; made = made_procedure; commits = record { one = unmarked (Make the_procedure ∷ []); changes_are = refl; follows = follows (in_zone system) (unmarked (Make the_procedure ∷ []) ∷ []); sound = sound_procedure; new_is = refl } });
  cleared = serves_done (with_settings (in_zone system)) (SomeCommand (Use schema)) (with_settings no_settings) (lone (in_zone system)) (record { database = alone; stands = stands_alone; is_there = refl; new_is = refl });
  refused = never;
}
  where
    never : Serves plainly (with_settings (in_zone system)) (SomeCommand (Create event_text)) done (making_state (made_under settings)) → ⊥
    never served = absurd (cc (ap zone_of (ap settings_of object ∙ made)))
      where
        object : Make (made_under settings) ∷ [] ≡ Make served.handles.object ∷ []
        object = ap (λ (state : State). last state.mine) served.handles.commits.new_is ∙ (ap (λ (state : State). last (state.mine ++ served.handles.commits.one ∷ [])) served.handles.ended ∙ served.handles.commits.changes_are)

        made : served.handles.object.settings ≡ Some (in_zone system)
        made = served.handles.made.settings ∙ (ap (λ (state : State). made_settings state.settings served.handles.object.kind) served.handles.ended ∙ ap (λ (kind : Kind). made_settings (in_zone system) kind) (sym (ap kind_of object)))

-- SET TIME_ZONE='+00:00' is read as the later of two statements

makes_nothing : HasHead utc → ⊥
unfolding HasHead tokens
makes_nothing head = cc (head.1)

-- what stands between the quotes of a text's literal
literal_back : (value : List ℕ) → text_value (inside 1 1 (text_literal value)) ≡ value
literal_back value = ap text_value (inside_of (39 ∷ []) (flat_map escaped_byte value) (39 ∷ [])) ∙ escaped_back value

zone_is : (value : List ℕ) → utc ≡ codes "SET TIME_ZONE=" ++ text_literal value → value ≡ codes "+00:00"
zone_is value is = sym (literal_back value) ∙ (ap (λ (bytes : List ℕ). text_value (inside 1 1 bytes)) (append_cancel_left (codes "SET TIME_ZONE=") (text_literal value) (codes "'+00:00'") (sym is)) ∙ refl)

abbrev second_statement : Statement
second_statement = SomeCommand (TimeZone (codes "+00:00"))

of_command : (command : Command) → CommandHasText command → utc ≡ command_text command → (command_row command < 10) ⊎ (SomeCommand command ≡ second_statement)
unfolding command_text first third
of_command (TimeZone value) has is = inr (ap (λ (value : List ℕ). SomeCommand (TimeZone value)) (zone_is value is))
of_command LockInstance has is = absurd (omega (arith, ap first is))
of_command FlushTables has is = absurd (omega (arith, ap first is))
of_command UnlockTables has is = absurd (omega (arith, ap first is))
of_command UnlockInstance has is = absurd (omega (arith, ap first is))
of_command StartSnapshot has is = absurd (omega (arith, ap third is))
of_command Start has is = absurd (omega (arith, ap third is))
of_command Commit has is = absurd (omega (arith, ap first is))
of_command Rollback has is = absurd (omega (arith, ap first is))
of_command (Use in_schema) has is = absurd (omega (arith, ap first is))
of_command (Create other) has is = absurd (makes_nothing (subst HasHead (sym is) has))
of_command CreateProgress has is = absurd (omega (arith, ap first is))
of_command CreateProgressFiles has is = absurd (omega (arith, ap first is))
of_command CreateProgressDump has is = absurd (omega (arith, ap first is))
of_command (Insert other) has is = absurd (omega (arith, ap first is, insert_first other has))
of_command (InsertProgressFile name) has is = absurd (omega (arith, ap first is))
of_command (InsertProgressDump digest) has is = absurd (omega (arith, ap first is))
of_command command has is = inl (omega arith)

latest : (other : Statement) → IsTextOf other utc → (list_row other < 10) ⊎ (other ≡ second_statement)
unfolding third
latest (SomeCommand command) is = of_command command is.0 is.1
latest (SomeQuery query) is = absurd (no_query utc query is.2 refl)

pub utc_text : TheTextOfUtcIsOfTwoStatements
unfolding command_text
utc_text = record {
  first = (tt, refl);
  second = (tt, refl);
  allowed = record { text_of = (tt, refl); latest = latest };
  refused = λ reads. not_first (reads.latest second_statement (tt, refl));
  one_effect = λ state new. (λ effect. effect, λ effect. effect);
}
  where
    not_first : (10 < 4) ⊎ (second_statement ≡ SomeCommand TimeZoneUtc) → ⊥
    not_first (inl below) = omega arith
    not_first (inr same) = cc (same)

-- what is told of events

pub listed : EventsAreListed
unfolding count_of
listed = record {
  allowed = same_rows _;
  elsewhere = same_rows _;
  refused = λ answer. absurd (cc (answer.counts (Value event ∷ [])));
}

pub event_shown : AnEventIsShownWithItsTimeZone
event_shown = record {
  allowed = serves_rows reading (SomeQuery (CreateEvent schema event)) (shown system (Value event_text)) reading (free after_event (Some schema) false None None refl)
      (record { database = beside_schema the_event; stands = stands; answers = record { settings = in_zone system; settings_are = refl; first = Value event; text = Value event_text; more = []; text_is = inl refl; rows_are = refl }; texts = λ p. refl }, refl);
  withheld = record {
    more = [];
    sees = record { follows = record { frozen = λ p. refl; guarded = λ p. absurd (false≢true p); catalogue = λ p q. absurd (true≢false q) }; sole = λ p q. refl; willing = λ p q. refl };
    handles = (record { database = beside_schema the_event; stands = stands; answers = record { settings = in_zone system; settings_are = refl; first = Value event; text = Null; more = []; text_is = inr refl; rows_are = refl }; texts = λ p. absurd (false≢true p) }, refl);
    ends = tt;
  };
  kept = λ new served. false≢true (served.handles.0.texts refl);
  refused = λ new served. never served.handles.0.database (same_some (sym served.handles.0.stands ∙ (ap (λ (more : List Transaction). db (after_event ++ more)) (served.sees.sole refl refl) ∙ stands))) served.handles.0.answers;
}
  where
    zone_told : List (List Cell) → List ℕ
    zone_told ((one ∷ mode ∷ Value zone ∷ more) ∷ others) = zone
    zone_told found = []

    never : (end : Database) → end ≡ beside_schema the_event → Answers end (CreateEvent schema event) (shown [] (Value event_text)) → ⊥
    never end is answers = absurd (cc (ap zone_told shows.rows_are ∙ sym (ap zone_of shows.settings_are)))
      where
        shows : Answers (beside_schema the_event) (CreateEvent schema event) (shown [] (Value event_text))
        shows = subst (λ (end : Database). Answers end (CreateEvent schema event) (shown [] (Value event_text))) is answers

pub dropped : AnEventIsDropped
unfolding change_db has_object may_make may_drop
dropped = record { allowed = refl; again = refl; refused = refl }

pub only_event : OnlyAnEventHasATimeZone
only_event = record {
  allowed = well_formed the_event (good_event _);
  refused = λ wrong. never (wrong.objects 1 (record the_procedure { settings = Some (in_zone system) }) (omega arith)).settings.made (wrong.objects 1 (record the_procedure { settings = Some (in_zone system) }) (omega arith)).settings.settings_are (wrong.objects 1 (record the_procedure { settings = Some (in_zone system) }) (omega arith)).settings.no_zone;
}
  where
    never : (made : Settings) → Some (in_zone system) ≡ Some made → made.zone ≡ [] → ⊥
    never made is no_zone = cc (ap zone_of is ∙ no_zone)
