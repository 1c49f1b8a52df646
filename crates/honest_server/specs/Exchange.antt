-- What is said on a link: the login, statements and their replies, and the end (MySQL source documentation, "Connection Phase", COM_QUERY, COM_QUIT).
use Rattle.std.specs.Prelude.{ℕ, ◌≡◌, ◌⊎◌, true, false, Bool, List, [], ◌∷◌, ◌++◌, length, Some, None, Ok, Err}
use Rattle.wire_forms.specs.Greeting.{greeting_of}
use Rattle.wire_forms.specs.Switch.{switch_of}
use Rattle.wire_forms.specs.Texts.{native_password}
use Rattle.wire_forms.specs.declared.login_fault.LoginFault.TheVariants.{PluginUnsupported}
use Rattle.wire_forms.specs.declared.greeting.Greeting.{Greeting}
use Rattle.wire_forms.specs.declared.switch.Switch.{Switch}
use Rattle.wire_forms.specs.Packet.{packets, packet_count, id_after}
use Rattle.wire_forms.specs.KeptText.{kept_text}
use Rattle.wire_forms.specs.declared.refusal.Refusal.{Refusal}
use Rattle.server_data.specs.declared.data.Transaction.{Transaction}
use Rattle.statement_forms.specs.Statement.{IsReadAs, IsTextOf}
use Rattle.statement_forms.specs.declared.command.Command.{Command}
use Rattle.statement_forms.specs.declared.form.Form.TheVariants.{Connect}
use Rattle.statement_forms.specs.declared.statement.Statement.{Statement}
use Rattle.statement_forms.specs.declared.statement.Statement.TheVariants.{Command as SomeCommand}
use Rattle.honest_server.specs.Effect.{EndsOpen, EndsTransaction}
use Rattle.honest_server.specs.Moves.{Way, SeesOthers}
use Rattle.honest_server.specs.Serve.{Reply, Serves, GivesErr}
use Rattle.honest_server.specs.Spelled.{SpellsReply, SpellsDone, SpellsErr, IsLean}
use Rattle.honest_server.specs.State.{Server, State, Phase, greeted, switching, in_session, over, with_others, with_error, closed_state}

-- COM_QUERY: the byte 03 and the text of a statement
abbrev pub query_payload : List ℕ → List ℕ
query_payload text = 3 ∷ text

-- COM_QUIT: the byte 01
abbrev pub quit_payload : List ℕ
quit_payload = 1 ∷ []

-- the message is a greeting, which says how result sets end and whether the server is newer
pub record IsGreeting (server : Server) (message : List ℕ) : Type 0 where
  pub found : Greeting
  pub says : greeting_of message ≡ Ok found
  pub ends : found.ends ≡ server.ends
  pub newer : found.newer ≡ server.newer
  pub lean : server.willing ≡ true → IsLean message

-- the message asks for the login by this plugin
abbrev pub AsksFor : List ℕ → List ℕ → Type 0
AsksFor plugin message =
    ((plugin ≡ native_password) × (found : Switch) × (switch_of message ≡ Ok found))
    ⊎ ((plugin ≡ native_password → ⊥)
    × (switch_of message ≡ Err (PluginUnsupported (kept_text plugin))))

-- the client's answer is awaited
abbrev pub IsLoggingIn : Phase → Type 0
IsLoggingIn greeted = Unit {0}
IsLoggingIn switching = Unit {0}
IsLoggingIn in_session = ⊥
IsLoggingIn over = ⊥

-- the payload is no text of a statement, and doesn't end the session
pub record SpellsNothing (payload : List ℕ) : Type 0 where
  pub no_quit : payload ≡ quit_payload → ⊥
  pub no_statement : (text : List ℕ) (statement : Statement) → payload ≡ query_payload text →
      IsTextOf statement text → ⊥

-- The server answers a payload, which is sent in this way, by these messages, and the link's state is then the second.
pub data Replies (way : Way) (state : State) (payload : List ℕ) (messages : List (List ℕ))
    (new : State) : Type 0 where
  -- the login is taken
  accepted : IsLoggingIn state.phase → SpellsDone state.terms.server messages →
      new ≡ record state { phase = in_session } → Replies way state payload messages new
  -- an answer over another scramble is asked for, once
  switched : (message : List ℕ) → state.phase ≡ greeted →
      AsksFor state.terms.server.plugin message →
      (state.terms.server.willing ≡ true → IsLean message) → messages ≡ message ∷ [] →
      new ≡ record state { phase = switching } → Replies way state payload messages new
  -- the login is refused, and the link is over
  turned_away : (refusal : Refusal) → IsLoggingIn state.phase → state.terms.server.willing ≡ false →
      SpellsErr state.terms.server refusal messages →
      new ≡ record (with_error state (Some Connect) refusal) { phase = over } →
      Replies way state payload messages new
  -- the session ends
  quits : state.phase ≡ in_session → payload ≡ quit_payload → messages ≡ [] →
      new ≡ closed_state state → Replies way state payload messages new
  -- a statement is served
  served : (text : List ℕ) (statement : Statement) (reply : Reply) → state.phase ≡ in_session →
      payload ≡ query_payload text → IsReadAs text statement →
      Serves way state statement reply new →
      SpellsReply state.terms.server statement reply messages →
      Replies way state payload messages new
  -- anything else is answered by ERR
  unknown : (refusal : Refusal) (more : List Transaction) → state.phase ≡ in_session →
      SpellsNothing payload → GivesErr state more None refusal new →
      SpellsErr state.terms.server refusal messages → Replies way state payload messages new
  -- once the link is over nothing is answered
  ignored : state.phase ≡ over → messages ≡ [] → new ≡ state →
      Replies way state payload messages new

-- the packets of messages one after the other, ids going on
abbrev pub packets_from : ℕ → List (List ℕ) → List ℕ
packets_from id [] = []
packets_from id (message ∷ messages) =
    packets id message ++ packets_from (id_after (packet_count (length message)) id) messages

-- the sequence id that a client's message begins with: 0 of each command, and any in the login, where ids go on from the server's
abbrev pub BeginsAt : Phase → ℕ → Type 0
BeginsAt greeted id = Unit {0}
BeginsAt switching id = Unit {0}
BeginsAt in_session id = id ≡ 0
BeginsAt over id = Unit {0}

-- the message is the packets of a payload, with the right ids for a link here
pub record IsMessage (phase : Phase) (message payload : List ℕ) : Type 0 where
  pub id : ℕ
  pub begins : BeginsAt phase id
  pub message_is : message ≡ packets id payload

-- the message is one whole message of the client
abbrev pub IsWholeMessage : Phase → List ℕ → Type 0
IsWholeMessage phase message = (payload : List ℕ) × IsMessage phase message payload

-- one whole message of the client is answered by these bytes
pub record Exchanges (way : Way) (state : State) (message reply : List ℕ)
    (new : State) : Type 0 where
  pub payload : List ℕ
  pub is_message : IsMessage state.phase message payload
  pub messages : List (List ℕ)
  pub replies : Replies way state payload messages new
  pub reply_is : reply ≡ packets_from
      (id_after (packet_count (length payload)) is_message.id) messages

-- of a command that ends an open transaction, only that was done
pub record CommitsAlone (state : State) (message : List ℕ) (new : State) : Type 0 where
  pub text : List ℕ
  pub command : Command
  pub is_open : state.phase ≡ in_session
  pub is_message : IsMessage state.phase message (query_payload text)
  pub read : IsReadAs text (SomeCommand command)
  pub ends : EndsTransaction command
  pub more : List Transaction
  pub sees : SeesOthers state more
  pub ended : EndsOpen (with_others state more) state.pending new
