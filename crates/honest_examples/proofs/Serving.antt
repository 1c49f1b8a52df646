-- When a willing server serves a statement on the only link to a quiet site, and when it refuses it.
use Rattle.std.proofs.Common.{◌≡◌, true, List, [], Some, refl, ap, sym, subst, inl}
use Rattle.wire_forms.specs.declared.refusal.Refusal.{Refusal}
use Rattle.server_data.specs.declared.data.Transaction.{Transaction}
use Rattle.sql_cells.specs.declared.cell.Cell.{Cell}
use Rattle.statement_forms.specs.Form.{form_of}
use Rattle.statement_forms.specs.declared.statement.Statement.{Statement}
use Rattle.statement_forms.specs.declared.statement.Statement.TheVariants.{Command as SomeCommand, Query as SomeQuery}
use Rattle.honest_server.specs.Laws.{IsNoErr}
use Rattle.honest_server.specs.Moves.{SeesOthers, plainly}
use Rattle.honest_server.specs.Serve.{CameBefore, FitsNowhere, Handles, IsHandled, Reply, done, rows, refused, Serves}
use Rattle.honest_server.specs.State.{State, with_error, with_others}
use Rattle.honest_examples.specs.Effects.{IsRefused, IsServed}

-- the link is the only one to a quiet site of a willing server
pub record IsAlone (state : State) : Type 0 where
  pub quiet : state.terms.server.quiet ≡ true
  pub sole : state.terms.sole ≡ true
  pub willing : state.terms.server.willing ≡ true
  pub nothing : SeesOthers state []
  pub same : with_others state [] ≡ state

none_before : (state : State) (statement : Statement) → CameBefore state statement []
none_before state (SomeCommand command) = refl
none_before state (SomeQuery query) = inl refl

pub refuses : (state : State) (statement : Statement) → IsAlone state → FitsNowhere plainly state statement [] → IsRefused state statement
refuses state statement alone nowhere = record {
  err = λ refusal. record {
    more = [];
    gives = record { sees = alone.nothing; pending = state.pending; lost = inl refl; new_is = ap (λ (seen : State). record (with_error seen (Some (form_of statement)) refusal) { pending = state.pending }) (sym alone.same) };
    before = none_before (with_others state []) statement;
    must = λ willing. nowhere;
  };
  nothing_else = nothing_else;
}
  where
    never : (reply : Reply) (new : State) → IsHandled plainly state statement reply new → ⊥
    never reply new handled = nowhere reply new (subst (λ (more : List Transaction). Handles (with_others state more) statement reply new) (handled.sees.sole alone.quiet alone.sole) handled.handles)

    nothing_else : (reply : Reply) (new : State) → IsNoErr reply → Serves plainly state statement reply new → ⊥
    nothing_else done new no_err handled = never done new handled
    nothing_else (rows found) new no_err handled = never (rows found) new handled
    nothing_else (refused found refusal) new no_err handled = absurd no_err

-- what is handled can't be refused
must_serve : (state : State) (statement : Statement) (reply : Reply) (new : State) → IsAlone state → Handles (with_others state []) statement reply new → (refusal : Refusal) (other : State) → Serves plainly state statement (refused [] refusal) other → ⊥
must_serve state statement reply new alone handles refusal other refuses = refuses.must alone.willing reply new (subst (λ (more : List Transaction). Handles (with_others state more) statement reply new) (sym (refuses.gives.sees.sole alone.quiet alone.sole)) handles)

is_handled : (state : State) (statement : Statement) (reply : Reply) (new : State) → IsAlone state → Handles (with_others state []) statement reply new → IsHandled plainly state statement reply new
is_handled state statement reply new alone handles = record { more = []; sees = alone.nothing; handles = handles; ends = tt }

pub serves_done : (state : State) (statement : Statement) (new : State) → IsAlone state → Handles (with_others state []) statement done new → IsServed state statement done new
serves_done state statement new alone handles = record { served = is_handled state statement done new alone handles; no_err = must_serve state statement done new alone handles }

pub serves_rows : (state : State) (statement : Statement) (found : List (List Cell)) (new : State) → IsAlone state → Handles (with_others state []) statement (rows found) new → IsServed state statement (rows found) new
serves_rows state statement found new alone handles = record { served = is_handled state statement (rows found) new alone handles; no_err = must_serve state statement (rows found) new alone handles }
