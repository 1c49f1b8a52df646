-- What asking a query leaves as it was, and from which history it is answered.
use Rattle.std.proofs.Common.{◌≡◌, ℕ, true, List, [], ◌++◌, ◌∷◌, refl, sym, ◌∙◌, ap, subst, append-nil, append_assoc, inl, inr, Option, Some, None, Result, Ok, Err}
use Rattle.honest_server.specs.Answer.{ShowsMark}
use Rattle.honest_server.specs.Moves.{plainly, SeesOthers}
use Rattle.honest_server.specs.Serve.{Reply, done, rows, refused, GivesErr, IsAnswered, MayLose, QueryServed, Serves, CameBefore, shown_history}
use Rattle.honest_server.specs.State.{State, Terms, with_others}
use Rattle.server_data.specs.Fold.{db, mark}
use Rattle.server_data.specs.History.{IsPrefix}
use Rattle.server_data.specs.declared.data.Change.{Change}
use Rattle.server_data.specs.declared.data.Transaction.{Transaction}
use Rattle.sql_cells.specs.declared.cell.Cell.{Cell}
use Rattle.statement_forms.specs.Form.{query_form}
use Rattle.statement_forms.specs.declared.command.Command.TheVariants.{Use}
use Rattle.statement_forms.specs.declared.form.Form.{Form}
use Rattle.statement_forms.specs.declared.form.Form.TheVariants.{Select, ShowMasterStatus, ShowBinaryLogStatus}
use Rattle.statement_forms.specs.declared.query.Query.{Query}
use Rattle.statement_forms.specs.declared.query.Query.TheVariants.{MasterStatus, BinaryLogStatus, Schemas, Tables, Columns, PrimaryKey, Triggers, Routines, ViewNeeds, Events, CreateDatabase, CreateTable, CreateView, CreateProcedure, CreateFunction, CreateTrigger, CreateEvent, Key, KeyAbove, Rows, RowsByKey, RowsAbove, RowsUpTo, RowsBetween, WideKey, WideKeyAbove, RowsByWideKey, RowsAboveWide, RowsUpToWide, RowsBetweenWide, ProgressDump, ProgressFiles}
use Rattle.statement_forms.specs.declared.statement.Statement.TheVariants.{Command as SomeCommand, Query as SomeQuery}
use Rattle.wire_forms.specs.declared.refusal.Refusal.{Refusal}
use Rattle.my_session.specs.Asked.{AsksServed, FailsLeadBy, FailsQuery, at_lead, at_query, LeadsBy}
use Rattle.my_session.specs.Coming.{Reached, Rest, reply_of_rest, reply_with}
use Rattle.my_session.specs.Lead.{lead_of}
use Rattle.my_session.specs.Served.{FailsStatement, IsLeft, untouched, handled, committed}
use Rattle.my_session.specs.Shown.{AnswersAt, AnswersOver, AskingKeepsOwn, AskingKeepsWhatIsShown, ComesFrom, all_rows, first_rows, no_rows, IsShownAt, by_view, by_lock, alone, KeepsOwn, RowsComeFromWhatIsShown}
use Rattle.my_session.specs.declared.fault.SessionFault.{SessionFault}
use Rattle.my_session.specs.declared.fault.SessionFault.TheVariants.{Link, Refused, Garbled, NotProtocol10, PluginUnsupported, TooLong, StreamTooLong, OutOfMemory}

-- ---- what a query and the USE before it leave

record Passes (old new : State) : Type 0 where
  own : KeepsOwn old new
  terms : new.terms ≡ old.terms
  still : old.frozen ≡ true → new.seen ≡ old.seen
  sole : old.terms.server.quiet ≡ true → old.terms.sole ≡ true → new.seen ≡ old.seen

prefix_on : {X : Type 0} (front more all : List X) → IsPrefix front more → IsPrefix more all → IsPrefix front all
prefix_on front more all first later = record {
  rest = first.rest ++ later.rest;
  joined = sym (append_assoc front first.rest later.rest) ∙ ap (λ l. l ++ later.rest) first.joined ∙ later.joined;
}

passes_none : (state : State) → Passes state state
passes_none state = record {
  own = record { mine = refl; guarded = refl; frozen = refl; grants = refl; view = refl; pending = λ none. none; seen = record { rest = []; joined = append-nil state.seen }; errors = record { rest = []; joined = append-nil state.errors } };
  terms = refl;
  still = λ frozen. refl;
  sole = λ quiet only. refl;
}

passes_on : (old middle new : State) → Passes old middle → Passes middle new → Passes old new
passes_on old middle new first later = record {
  own = record {
    mine = later.own.mine ∙ first.own.mine;
    guarded = later.own.guarded ∙ first.own.guarded;
    frozen = later.own.frozen ∙ first.own.frozen;
    grants = later.own.grants ∙ first.own.grants;
    view = later.own.view ∙ first.own.view;
    pending = λ none. later.own.pending (first.own.pending none);
    seen = prefix_on old.seen middle.seen new.seen first.own.seen later.own.seen;
    errors = prefix_on old.errors middle.errors new.errors first.own.errors later.own.errors;
  };
  terms = later.terms ∙ first.terms;
  still = λ frozen. later.still (first.own.frozen ∙ frozen) ∙ first.still frozen;
  sole = λ quiet only. later.sole (ap (λ (t : Terms). t.server.quiet) first.terms ∙ quiet) (ap (λ (t : Terms). t.sole) first.terms ∙ only) ∙ first.sole quiet only;
}

passes_others : (state : State) (more : List Transaction) → SeesOthers state more → Passes state (with_others state more)
passes_others state more sees = record {
  own = record { mine = refl; guarded = refl; frozen = refl; grants = refl; view = refl; pending = λ none. none; seen = record { rest = more; joined = refl }; errors = record { rest = []; joined = append-nil state.errors } };
  terms = refl;
  still = λ frozen. ap (λ (l : List Transaction). state.seen ++ l) (sees.follows.frozen frozen) ∙ append-nil state.seen;
  sole = λ quiet only. ap (λ (l : List Transaction). state.seen ++ l) (sees.sole quiet only) ∙ append-nil state.seen;
}

lost : (old pending : Option (List Change)) → MayLose old pending → old ≡ None → pending ≡ None
lost old pending (inl same) none = same ∙ none
lost old pending (inr gone) none = gone

passes_err : (state : State) (more : List Transaction) (form : Option Form) (refusal : Refusal) (new : State) → GivesErr state more form refusal new → Passes state new
passes_err state more form refusal new gives =
    let others = passes_others state more gives.sees in
    subst (λ (s : State). Passes state s) (sym gives.new_is) (
    record {
      own = record {
        mine = refl;
        guarded = refl;
        frozen = refl;
        grants = refl;
        view = refl;
        pending = lost state.pending gives.pending gives.lost;
        seen = others.own.seen;
        errors = record { rest = record { form = form; refusal = refusal } ∷ []; joined = refl };
      };
      terms = refl;
      still = others.still;
      sole = others.sole;
    })

passes_query : (state : State) (query : Query) (reply : Reply) (new : State) → Serves plainly state (SomeQuery query) reply new → Passes state new
passes_query state query done new serves = absurd serves.handles
passes_query state query (rows found) new serves = subst (λ (s : State). Passes state s) (sym serves.handles.1) (passes_others state serves.more serves.sees)
passes_query state query (refused found refusal) new serves = passes_err state serves.more _ refusal new serves.gives

passes_use : (state : State) (schema : List ℕ) (reply : Reply) (new : State) → Serves plainly state (SomeCommand (Use schema)) reply new → Passes state new
passes_use state schema done new serves =
    let others = passes_others state serves.more serves.sees in
    subst (λ (s : State). Passes state s) (sym serves.handles.new_is) (
    record {
      own = record { mine = refl; guarded = refl; frozen = refl; grants = refl; view = refl; pending = λ none. none; seen = others.own.seen; errors = others.own.errors };
      terms = refl;
      still = others.still;
      sole = others.sole;
    })
passes_use state schema (rows found) new serves = absurd serves.handles
passes_use state schema (refused found refusal) new serves = passes_err state serves.more _ refusal new serves.gives

query_left : (state : State) (query : Query) (new : State) → IsLeft plainly state (SomeQuery query) new → Passes state new
query_left state query new (untouched same) = subst (λ (s : State). Passes state s) (sym same) (passes_none state)
query_left state query new (handled reply serves) = passes_query state query reply new serves
query_left state query new (committed none) = absurd none

use_left : (state : State) (schema : List ℕ) (new : State) → IsLeft plainly state (SomeCommand (Use schema)) new → Passes state new
use_left state schema new (untouched same) = subst (λ (s : State). Passes state s) (sym same) (passes_none state)
use_left state schema new (handled reply serves) = passes_use state schema reply new serves
use_left state schema new (committed only) = absurd only.ends

query_fails : (state : State) (query : Query) (fault : SessionFault) (new : State) → FailsStatement plainly state (SomeQuery query) fault new → Passes state new
query_fails state query Link new left = query_left state query new left
query_fails state query (Refused form refusal) new gives = passes_query state query (refused [] refusal) new gives.serves
query_fails state query (Garbled place) new never = absurd never
query_fails state query (NotProtocol10 version) new never = absurd never
query_fails state query (PluginUnsupported name) new never = absurd never
query_fails state query (TooLong size) new left = query_left state query new left
query_fails state query StreamTooLong new left = query_left state query new left
query_fails state query OutOfMemory new left = query_left state query new left

use_fails : (state : State) (schema : List ℕ) (fault : SessionFault) (new : State) → FailsStatement plainly state (SomeCommand (Use schema)) fault new → Passes state new
use_fails state schema Link new left = use_left state schema new left
use_fails state schema (Refused form refusal) new gives = passes_use state schema (refused [] refusal) new gives.serves
use_fails state schema (Garbled place) new never = absurd never
use_fails state schema (NotProtocol10 version) new never = absurd never
use_fails state schema (PluginUnsupported name) new never = absurd never
use_fails state schema (TooLong size) new left = use_left state schema new left
use_fails state schema StreamTooLong new left = use_left state schema new left
use_fails state schema OutOfMemory new left = use_left state schema new left

passes_lead : (schema : Option (List ℕ)) (old new : State) → LeadsBy schema old new → Passes old new
passes_lead None old new same = subst (λ (s : State). Passes old s) (sym same) (passes_none old)
passes_lead (Some schema) old new serves = passes_use old schema done new serves

fails_lead : (schema : Option (List ℕ)) (old : State) (fault : SessionFault) (new : State) → FailsLeadBy schema old fault new → Passes old new
fails_lead None old fault new never = absurd never
fails_lead (Some schema) old fault new fails = use_fails old schema fault new fails

fails_query : (query : Query) (old : State) (fault : SessionFault) (new : State) → FailsQuery query old fault new → Passes old new
fails_query query old fault new (at_lead fails) = fails_lead (lead_of query) old fault new fails
fails_query query old fault new (at_query middle leads fails) = passes_on old middle new (passes_lead (lead_of query) old middle leads) (query_fails middle query fault new fails)

passes_asked : (query : Query) (old : State) (result : Result ℕ SessionFault) (new : Reached) → AsksServed query old result new → Passes old new.served.state
passes_asked query old (Ok columns) new opens = passes_on old opens.middle new.served.state (passes_lead (lead_of query) old opens.middle opens.leads) (passes_query opens.middle query (reply_of_rest opens.rest) new.served.state opens.serves)
passes_asked query old (Err fault) new fails = fails_query query old fault new.served.state fails

pub asking_keeps : AskingKeepsOwn
asking_keeps query old result new asks = (passes_asked query old result new asks).own

-- ---- from which history

still_shown : (old new : State) (form : Form) (history : List Transaction) → Passes old new → IsShownAt form history old → IsShownAt form history new
still_shown old new form history passes (by_view is view) = by_view is (passes.own.view ∙ view)
still_shown old new form history passes (by_lock none frozen seen) = by_lock (passes.own.view ∙ none) (passes.own.frozen ∙ frozen) (passes.still frozen ∙ seen)
still_shown old new form history passes (alone none quiet only seen) =
    alone (passes.own.view ∙ none) (ap (λ (t : Terms). t.server.quiet) passes.terms ∙ quiet) (ap (λ (t : Terms). t.sole) passes.terms ∙ only) (passes.sole quiet only ∙ seen)

pub asking_keeps_shown : AskingKeepsWhatIsShown
asking_keeps_shown query old result new form history asks shown = still_shown old new.served.state form history (passes_asked query old result new asks) shown

shown_by_view : (state : State) (form : Form) (view : Option (List Transaction)) (history : List Transaction) → form ≡ Select → view ≡ Some history → shown_history state form view ≡ history
shown_by_view state form view history is view_is =
    subst (λ (f : Form). shown_history state f view ≡ history) (sym is) (
    subst (λ (v : Option (List Transaction)). shown_history state Select v ≡ history) (sym view_is) refl)

shown_unviewed : (state : State) (form : Form) (view : Option (List Transaction)) → view ≡ None → shown_history state form view ≡ state.seen
shown_unviewed state form view none = subst (λ (v : Option (List Transaction)). shown_history state form v ≡ state.seen) (sym none) refl

shown_here : (form : Form) (history : List Transaction) (state : State) (more : List Transaction) → SeesOthers state more → IsShownAt form history state → shown_history (with_others state more) form state.view ≡ history
shown_here form history state more sees (by_view is view) = shown_by_view (with_others state more) form state.view history is view
shown_here form history state more sees (by_lock none frozen seen) = shown_unviewed (with_others state more) form state.view none ∙ (passes_others state more sees).still frozen ∙ seen
shown_here form history state more sees (alone none quiet only seen) = shown_unviewed (with_others state more) form state.view none ∙ (passes_others state more sees).sole quiet only ∙ seen

master_seen : (state : State) (view : Option (List Transaction)) → shown_history state ShowMasterStatus view ≡ state.seen
master_seen state None = refl
master_seen state (Some view) = refl

binary_seen : (state : State) (view : Option (List Transaction)) → shown_history state ShowBinaryLogStatus view ≡ state.seen
binary_seen state None = refl
binary_seen state (Some view) = refl

over_history : (state : State) (query : Query) (found : List (List Cell)) (history : List Transaction) → shown_history state (query_form query) state.view ≡ history → IsAnswered state query found → AnswersOver history query found
over_history state query found history same is = record {
  database = is.database;
  stands = ap (λ (h : List Transaction). db h) (sym same) ∙ is.stands;
  answers = is.answers;
}

answers_at : (state : State) (query : Query) (found : List (List Cell)) (history : List Transaction) → shown_history state (query_form query) state.view ≡ history → QueryServed state query found → AnswersAt history query found
answers_at state MasterStatus found history same is = subst (λ (h : List Transaction). ShowsMark (mark h) found) (sym (master_seen state state.view) ∙ same) is.shows
answers_at state BinaryLogStatus found history same is = subst (λ (h : List Transaction). ShowsMark (mark h) found) (sym (binary_seen state state.view) ∙ same) is.shows
answers_at state Schemas found history same is = over_history state Schemas found history same is
answers_at state (Tables schema) found history same is = over_history state (Tables schema) found history same is
answers_at state (Columns schema table) found history same is = over_history state (Columns schema table) found history same is
answers_at state (PrimaryKey schema table) found history same is = over_history state (PrimaryKey schema table) found history same is
answers_at state (Triggers schema) found history same is = over_history state (Triggers schema) found history same is
answers_at state (Routines schema) found history same is = over_history state (Routines schema) found history same is
answers_at state (ViewNeeds schema) found history same is = over_history state (ViewNeeds schema) found history same is
answers_at state (Events schema) found history same is = over_history state (Events schema) found history same is
answers_at state (CreateDatabase schema) found history same is = over_history state (CreateDatabase schema) found history same is
answers_at state (CreateTable schema name) found history same is = over_history state (CreateTable schema name) found history same is
answers_at state (CreateView schema name) found history same is = over_history state (CreateView schema name) found history same is
answers_at state (CreateProcedure schema name) found history same is = over_history state (CreateProcedure schema name) found history same is
answers_at state (CreateFunction schema name) found history same is = over_history state (CreateFunction schema name) found history same is
answers_at state (CreateTrigger schema name) found history same is = over_history state (CreateTrigger schema name) found history same is
answers_at state (CreateEvent schema name) found history same is = over_history state (CreateEvent schema name) found history same is
answers_at state (Key key schema table skipped) found history same is = over_history state (Key key schema table skipped) found history same is
answers_at state (KeyAbove key schema table above skipped) found history same is = over_history state (KeyAbove key schema table above skipped) found history same is
answers_at state (Rows columns schema table) found history same is = over_history state (Rows columns schema table) found history same is
answers_at state (RowsByKey columns schema table key) found history same is = over_history state (RowsByKey columns schema table key) found history same is
answers_at state (RowsAbove columns schema table key above) found history same is = over_history state (RowsAbove columns schema table key above) found history same is
answers_at state (RowsUpTo columns schema table key up_to) found history same is = over_history state (RowsUpTo columns schema table key up_to) found history same is
answers_at state (RowsBetween columns schema table key above up_to) found history same is = over_history state (RowsBetween columns schema table key above up_to) found history same is
answers_at state (WideKey keys schema table skipped) found history same is = over_history state (WideKey keys schema table skipped) found history same is
answers_at state (WideKeyAbove keys schema table above skipped) found history same is = over_history state (WideKeyAbove keys schema table above skipped) found history same is
answers_at state (RowsByWideKey columns schema table keys) found history same is = over_history state (RowsByWideKey columns schema table keys) found history same is
answers_at state (RowsAboveWide columns schema table keys above) found history same is = over_history state (RowsAboveWide columns schema table keys above) found history same is
answers_at state (RowsUpToWide columns schema table keys up_to) found history same is = over_history state (RowsUpToWide columns schema table keys up_to) found history same is
answers_at state (RowsBetweenWide columns schema table keys above up_to) found history same is = over_history state (RowsBetweenWide columns schema table keys above up_to) found history same is
answers_at state ProgressDump found history same is = over_history state ProgressDump found history same is
answers_at state ProgressFiles found history same is = over_history state ProgressFiles found history same is

came_from : (history : List Transaction) (query : Query) (state : State) (more : List Transaction) (rest : Rest) (refusal : Refusal) → rest.broken ≡ Some refusal → shown_history (with_others state more) (query_form query) state.view ≡ history → CameBefore (with_others state more) (SomeQuery query) rest.rows → ComesFrom history query rest
came_from history query state more rest refusal is same (inl none) = no_rows refusal is none
came_from history query state more rest refusal is same (inr before) = first_rows refusal before.0 is before.2 (answers_at (with_others state more) query before.0 history same before.1)

comes_by : (history : List Transaction) (query : Query) (state : State) (rest : Rest) (broken : Option Refusal) (new : State) → rest.broken ≡ broken → IsShownAt (query_form query) history state → Serves plainly state (SomeQuery query) (reply_with rest.rows broken) new → ComesFrom history query rest
comes_by history query state rest None new is shown serves =
    all_rows is (answers_at (with_others state serves.more) query rest.rows history (shown_here (query_form query) history state serves.more serves.sees shown) serves.handles.0)
comes_by history query state rest (Some refusal) new is shown serves =
    came_from history query state serves.more rest refusal is (shown_here (query_form query) history state serves.more serves.gives.sees shown) serves.before

pub rows_come : RowsComeFromWhatIsShown
rows_come query old new history opens shown =
    comes_by history query opens.middle opens.rest opens.rest.broken new.served.state refl (still_shown old opens.middle (query_form query) history (passes_lead (lead_of query) old opens.middle opens.leads) shown) opens.serves
