-- Statements and their replies (MySQL source documentation, COM_QUERY, COM_QUERY Response, ProtocolText::Resultset).
use Rattle.std.specs.Prelude.{ℕ, ◌≡◌, ◌-◌, List, [], ◌∷◌, ◌++◌, length, map, replicate, Option, Some, None}
use Rattle.honest_server.specs.Exchange.{query_payload}
use Rattle.wire_forms.specs.Reading.{Reading, definition, awaited_count, columns_counted}
use Rattle.wire_forms.specs.Reply.{reply_of}
use Rattle.wire_forms.specs.ResultSet.{turns_of}
use Rattle.wire_forms.specs.declared.ends.Ends.{Ends}
use Rattle.wire_forms.specs.declared.reply.Reply.TheVariants.{Done, Columns}
use Rattle.statement_forms.specs.Form.{command_form, query_form}
use Rattle.statement_forms.specs.Text.{command_text, query_text}
use Rattle.statement_forms.specs.declared.command.Command.{Command}
use Rattle.statement_forms.specs.declared.command.Command.TheVariants.{Use}
use Rattle.statement_forms.specs.declared.query.Query.{Query}
use Rattle.my_session.specs.Awaited.{Awaited, done, count, further}
use Rattle.my_session.specs.Lead.{lead_of}
use Rattle.my_session.specs.Wire.{Step, commands, hears}

-- the payload of a command
abbrev pub command_payload : Command → List ℕ
command_payload command = query_payload (command_text command)

-- the command was sent, and an OK heard
pub record IsRun (command : Command) (steps : List Step) : Type 0 where
  pub message : List ℕ
  pub said_ok : reply_of message ≡ Some Done
  pub steps_are : steps ≡ commands (command_payload command) ∷ hears message ∷ []

-- what running a command awaits after these steps
pub data RunAwaits (command : Command) (steps : List Step) : Awaited → Type 0 where
  an_ok : steps ≡ commands (command_payload command) ∷ [] →
      RunAwaits command steps (done (command_form command))

-- what it sends after these steps
pub record RunSends (command : Command) (steps : List Step) (payload : List ℕ) : Type 0 where
  pub steps_are : steps ≡ []
  pub payload_is : payload ≡ command_payload command

-- the USE of this schema was run, where there is one
abbrev pub IsLedBy : Option (List ℕ) → List Step → Type 0
IsLedBy (Some schema) steps = IsRun (Use schema) steps
IsLedBy None steps = steps ≡ []

-- what running that USE awaits after these steps
abbrev pub LeadAwaitsBy : Option (List ℕ) → List Step → Awaited → Type 0
LeadAwaitsBy (Some schema) steps awaited = RunAwaits (Use schema) steps awaited
LeadAwaitsBy None steps awaited = ⊥

-- what it sends after these steps
abbrev pub LeadSendsBy : Option (List ℕ) → List Step → List ℕ → Type 0
LeadSendsBy (Some schema) steps payload = RunSends (Use schema) steps payload
LeadSendsBy None steps payload = ⊥

-- the USE that leads a query was run, and nothing else
abbrev pub IsLed : Query → List Step → Type 0
IsLed query steps = IsLedBy (lead_of query) steps

-- what leading a query awaits after these steps
abbrev pub LeadAwaits : Query → List Step → Awaited → Type 0
LeadAwaits query steps awaited = LeadAwaitsBy (lead_of query) steps awaited

-- what it sends after these steps
abbrev pub LeadSends : Query → List Step → List ℕ → Type 0
LeadSends query steps payload = LeadSendsBy (lead_of query) steps payload

-- the query was sent
pub record IsAsked (query : Query) (steps : List Step) : Type 0 where
  pub before : List Step
  pub led : IsLed query before
  pub steps_are : steps ≡ before ++ commands (query_payload (query_text query)) ∷ []

-- the number of columns was heard, and so many of the messages before the rows that the reader is here
pub record IsDescribed (query : Query) (steps : List Step) (reading : Reading) : Type 0 where
  pub before : List Step
  pub asked : IsAsked query before
  pub first : List ℕ
  pub others : List (List ℕ)
  pub columns : ℕ
  pub reply : reply_of first ≡ Some (Columns columns)
  pub turns : turns_of (columns_counted reading.ends columns) others
      ≡ replicate (length others) definition
  pub reading_is : reading
      ≡ record {
        columns = columns;
        awaited = awaited_count reading.ends columns - length others;
        ends = reading.ends;
      }
  pub steps_are : steps ≡ before ++ hears first ∷ map (λ message. hears message) others

-- what asking a query awaits after these steps, where result sets end so
pub data QueryAwaits (ends : Ends) (query : Query) (steps : List Step) : Awaited → Type 0 where
  a_lead : {awaited : Awaited} → LeadAwaits query steps awaited →
      QueryAwaits ends query steps awaited
  a_count : IsAsked query steps → QueryAwaits ends query steps (count (query_form query))
  a_definition : {reading : Reading} → reading.ends ≡ ends → IsDescribed query steps reading →
      QueryAwaits ends query steps (further (query_form query) reading)

-- what it sends after these steps
pub data QuerySends (query : Query) (steps : List Step) (payload : List ℕ) : Type 0 where
  the_lead : LeadSends query steps payload → QuerySends query steps payload
  the_query : IsLed query steps → payload ≡ query_payload (query_text query) →
      QuerySends query steps payload
