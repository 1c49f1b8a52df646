-- What an honest server may reply to what is read in place of a statement.
use Rattle.std.proofs.Common.{◌≡◌, ◌↔◌, inl, inr, List, Some, sym, subst}
use Rattle.server_data.specs.declared.data.Transaction.{Transaction}
use Rattle.sql_cells.specs.declared.cell.Cell.{Cell}
use Rattle.honest_server.specs.Moves.{Way, plainly, beside}
use Rattle.honest_server.specs.Serve.{CameBefore, ErrAfter, FitsNowhere, GivesErr, Handles, IsHandled, Refuses, Reply, done, rows, refused}
use Rattle.honest_server.specs.State.{State, with_others}
use Rattle.statement_forms.specs.Form.{form_of}
use Rattle.statement_forms.specs.declared.form.Form.{Form}
use Rattle.statement_forms.specs.declared.statement.Statement.{Statement}
use Rattle.statement_forms.specs.declared.statement.Statement.TheVariants.{Command as SomeCommand, Query as SomeQuery}
use Rattle.statement_laws.specs.Laws.{TheReplyIsKept}
use Rattle.statement_laws.specs.Readings.{read_statement}
use Rattle.statement_laws.proofs.Kept.{command_effect, form_of_command, form_of_query, query_served}

handled_alike : (state : State) (statement : Statement) (reply : Reply) (new : State) → Handles state (read_statement statement) reply new ↔ Handles state statement reply new
handled_alike state (SomeCommand command) done new = command_effect state command new
handled_alike state (SomeCommand command) (rows found) new = (λ h. h, λ h. h)
handled_alike state (SomeCommand command) (refused found refusal) new = (λ h. h, λ h. h)
handled_alike state (SomeQuery query) done new = (λ h. h, λ h. h)
handled_alike state (SomeQuery query) (rows found) new =
    (λ h. ((query_served state query found).0 h.0, h.1), λ h. ((query_served state query found).1 h.0, h.1))
handled_alike state (SomeQuery query) (refused found refusal) new = (λ h. h, λ h. h)

form_alike : (statement : Statement) → form_of (read_statement statement) ≡ form_of statement
form_alike (SomeCommand command) = form_of_command command
form_alike (SomeQuery query) = form_of_query query

is_handled_alike : (way : Way) (state : State) (statement : Statement) (reply : Reply) (new : State) → IsHandled way state (read_statement statement) reply new ↔ IsHandled way state statement reply new
is_handled_alike way state statement reply new = (
  λ h. record { more = h.more; sees = h.sees; handles = (handled_alike (with_others state h.more) statement reply new).0 h.handles; ends = h.ends },
  λ h. record { more = h.more; sees = h.sees; handles = (handled_alike (with_others state h.more) statement reply new).1 h.handles; ends = h.ends },
)

nowhere_alike : (way : Way) (state : State) (statement : Statement) (more : List Transaction) → FitsNowhere way state (read_statement statement) more ↔ FitsNowhere way state statement more
nowhere_alike plainly state statement more = (
  λ h reply new handled. h reply new ((handled_alike (with_others state more) statement reply new).1 handled),
  λ h reply new handled. h reply new ((handled_alike (with_others state more) statement reply new).0 handled),
)
nowhere_alike (beside holder) state statement more = (
  λ h reply new handled. h reply new ((is_handled_alike (beside holder) state statement reply new).1 handled),
  λ h reply new handled. h reply new ((is_handled_alike (beside holder) state statement reply new).0 handled),
)

before_alike : (state : State) (statement : Statement) (found : List (List Cell)) → CameBefore state (read_statement statement) found ↔ CameBefore state statement found
before_alike state (SomeCommand command) found = (λ h. h, λ h. h)
before_alike state (SomeQuery query) found = (
  λ h. elim h [ inl none ↦ inl none | inr (whole, served, front) ↦ inr (whole, (query_served state query whole).0 served, front) ],
  λ h. elim h [ inl none ↦ inl none | inr (whole, served, front) ↦ inr (whole, (query_served state query whole).1 served, front) ],
)

refused_alike : (way : Way) (state : State) (statement : Statement) (err : ErrAfter) (new : State) → Refuses way state (read_statement statement) err new ↔ Refuses way state statement err new
refused_alike way state statement err new = (
  λ h. record {
    more = h.more;
    gives = subst (λ (form : Form). GivesErr state h.more (Some form) err.refusal new) (form_alike statement) h.gives;
    before = (before_alike (with_others state h.more) statement err.found).0 h.before;
    must = λ willing. (nowhere_alike way state statement h.more).0 (h.must willing);
  },
  λ h. record {
    more = h.more;
    gives = subst (λ (form : Form). GivesErr state h.more (Some form) err.refusal new) (sym (form_alike statement)) h.gives;
    before = (before_alike (with_others state h.more) statement err.found).1 h.before;
    must = λ willing. (nowhere_alike way state statement h.more).1 (h.must willing);
  },
)

pub replies_kept : TheReplyIsKept
replies_kept way state statement done new = is_handled_alike way state statement done new
replies_kept way state statement (rows found) new = is_handled_alike way state statement (rows found) new
replies_kept way state statement (refused found refusal) new =
    refused_alike way state statement (record { found = found; refusal = refusal }) new
