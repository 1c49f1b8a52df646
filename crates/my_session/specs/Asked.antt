-- What asking a query does over an honest server.
use Rattle.std.specs.Prelude.{ℕ, ◌≡◌, List, Option, Some, None, Result, Ok, Err}
use Rattle.honest_server.specs.Moves.{plainly}
use Rattle.honest_server.specs.Serve.{done, Serves}
use Rattle.honest_server.specs.State.{State}
use Rattle.statement_forms.specs.declared.command.Command.TheVariants.{Use}
use Rattle.statement_forms.specs.declared.query.Query.{Query}
use Rattle.statement_forms.specs.declared.statement.Statement.TheVariants.{Command as SomeCommand, Query as SomeQuery}
use Rattle.my_session.specs.Coming.{Reached, Rest, StillComes, reply_of_rest}
use Rattle.my_session.specs.Lead.{lead_of}
use Rattle.my_session.specs.Served.{FailsStatement}
use Rattle.my_session.specs.declared.fault.SessionFault.{SessionFault}

-- the USE of this schema was served, where there is one
abbrev pub LeadsBy : Option (List ℕ) → State → State → Type 0
LeadsBy None old new = new ≡ old
LeadsBy (Some schema) old new = Serves plainly old (SomeCommand (Use schema)) done new

-- the USE that leads a query was served, and nothing else
abbrev pub Leads : Query → State → State → Type 0
Leads query old new = LeadsBy (lead_of query) old new

-- that USE failed
abbrev pub FailsLeadBy : Option (List ℕ) → State → SessionFault → State → Type 0
FailsLeadBy None old fault new = ⊥
FailsLeadBy (Some schema) old fault new =
    FailsStatement plainly old (SomeCommand (Use schema)) fault new

-- what leading a query does
abbrev pub LeadsServed : Query → State → Result (Unit {0}) SessionFault → State → Type 0
LeadsServed query old (Ok finished) new = Leads query old new
LeadsServed query old (Err fault) new = FailsLeadBy (lead_of query) old fault new

-- the query is served by rows, perhaps broken off by an ERR, and all of them are still to come
pub record OpensRows (query : Query) (old : State) (new : Reached) : Type 0 where
  pub middle : State
  pub leads : Leads query old middle
  pub rest : Rest
  pub serves : Serves plainly middle (SomeQuery query) (reply_of_rest rest)
      new.served.state
  pub comes : StillComes rest new

-- a query failed: the USE before it, or the query itself
pub data FailsQuery (query : Query) (old : State) (fault : SessionFault)
    (new : State) : Type 0 where
  at_lead : FailsLeadBy (lead_of query) old fault new → FailsQuery query old fault new
  at_query : (middle : State) → Leads query old middle →
      FailsStatement plainly middle (SomeQuery query) fault new →
      FailsQuery query old fault new

-- what asking a query does
abbrev pub AsksServed : Query → State → Result ℕ SessionFault → Reached → Type 0
AsksServed query old (Ok columns) new = OpensRows query old new
AsksServed query old (Err fault) new = FailsQuery query old fault new.served.state
