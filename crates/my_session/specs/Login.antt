-- Logging in (MySQL source documentation, "Connection Phase", Protocol::AuthSwitchRequest, Protocol::AuthSwitchResponse).
use Rattle.std.specs.Prelude.{ℕ, ◌≡◌, ◌⊎◌, List, [], ◌∷◌, ◌++◌, Option, Some, None, Ok}
use Rattle.wire_forms.specs.Greeting.{greeting_of}
use Rattle.wire_forms.specs.Answer.{native_answer}
use Rattle.wire_forms.specs.Response.{response}
use Rattle.wire_forms.specs.Switch.{switch_of}
use Rattle.wire_forms.specs.declared.greeting.Greeting.{Greeting}
use Rattle.wire_forms.specs.declared.switch.Switch.{Switch}
use Rattle.wire_forms.specs.Reply.{reply_of}
use Rattle.wire_forms.specs.declared.reply.Reply.TheVariants.{Done}
use Rattle.statement_forms.specs.Text.{command_text}
use Rattle.statement_forms.specs.declared.command.Command.TheVariants.{SetUp}
use Rattle.statement_forms.specs.declared.form.Form.TheVariants.{Connect, Set}
use Rattle.my_session.specs.Awaited.{Awaited, greeting, decision, done, fault_at}
use Rattle.my_session.specs.Peer.{peer_of}
use Rattle.honest_server.specs.Exchange.{query_payload}
use Rattle.my_session.specs.Wire.{Step, commands, answers, hears}
use Rattle.my_session.specs.declared.peer.Peer.{Peer}

-- what proves the password over a scramble: nothing where it is empty
abbrev pub password_answer : List ℕ → List ℕ → Option (List ℕ)
password_answer [] scramble = None
password_answer (byte ∷ bytes) scramble = Some (native_answer (byte ∷ bytes) scramble)

-- the answer to a switch request
abbrev pub switch_answer : Option (List ℕ) → List ℕ
switch_answer None = []
switch_answer (Some answer) = answer

-- the greeting was heard, which says this of its server, and answered
pub record IsGreeted (user password : List ℕ) (peer : Peer) (steps : List Step) : Type 0 where
  pub message : List ℕ
  pub found : Greeting
  pub read : greeting_of message ≡ Ok found
  pub peer_is : peer ≡ peer_of found
  pub steps_are : steps ≡ hears message
      ∷ answers (response user (password_answer password found.scramble) found.ends) ∷ []

-- the server asked for an answer over another scramble, and was given it
pub record IsSwitched (user password : List ℕ) (peer : Peer) (steps : List Step) : Type 0 where
  pub before : List Step
  pub greeted : IsGreeted user password peer before
  pub message : List ℕ
  pub found : Switch
  pub goes_on : fault_at decision 0 message ≡ None
  pub read : switch_of message ≡ Ok found
  pub steps_are : steps ≡ before ++ hears message
      ∷ answers (switch_answer (password_answer password found.scramble)) ∷ []

-- the server said OK to the answer over the last scramble
pub record IsAccepted (user password : List ℕ) (peer : Peer) (steps : List Step) : Type 0 where
  pub before : List Step
  pub answered : IsGreeted user password peer before ⊎ IsSwitched user password peer before
  pub message : List ℕ
  pub said_ok : reply_of message ≡ Some Done
  pub steps_are : steps ≡ before ++ hears message ∷ []

-- and to the statement that sets a session up
pub record IsLoggedIn (user password : List ℕ) (peer : Peer) (steps : List Step) : Type 0 where
  pub before : List Step
  pub accepted : IsAccepted user password peer before
  pub message : List ℕ
  pub said_ok : reply_of message ≡ Some Done
  pub steps_are : steps ≡ before ++ commands (query_payload (command_text SetUp)) ∷ hears message
      ∷ []

-- the set-up statement was sent
pub record IsSettingUp (user password : List ℕ) (peer : Peer) (steps : List Step) : Type 0 where
  pub before : List Step
  pub accepted : IsAccepted user password peer before
  pub steps_are : steps ≡ before ++ commands (query_payload (command_text SetUp)) ∷ []

-- what a login awaits after these steps
pub data LoginAwaits (user password : List ℕ) (steps : List Step) : Awaited → Type 0 where
  a_greeting : steps ≡ [] → LoginAwaits user password steps greeting
  a_decision : {peer : Peer} → IsGreeted user password peer steps →
      LoginAwaits user password steps decision
  an_acceptance : {peer : Peer} → IsSwitched user password peer steps →
      LoginAwaits user password steps (done Connect)
  a_set_up : {peer : Peer} → IsSettingUp user password peer steps →
      LoginAwaits user password steps (done Set)

-- a greeting was heard, to which this is the answer
pub record AnswersGreeting (user password : List ℕ) (steps : List Step)
    (payload : List ℕ) : Type 0 where
  pub message : List ℕ
  pub found : Greeting
  pub read : greeting_of message ≡ Ok found
  pub steps_are : steps ≡ hears message ∷ []
  pub payload_is : payload ≡ response user (password_answer password found.scramble) found.ends

-- a switch request was heard, to which this is the answer
pub record AnswersSwitch (user password : List ℕ) (steps : List Step)
    (payload : List ℕ) : Type 0 where
  pub peer : Peer
  pub before : List Step
  pub greeted : IsGreeted user password peer before
  pub message : List ℕ
  pub found : Switch
  pub goes_on : fault_at decision 0 message ≡ None
  pub read : switch_of message ≡ Ok found
  pub steps_are : steps ≡ before ++ hears message ∷ []
  pub payload_is : payload ≡ switch_answer (password_answer password found.scramble)

-- what a login sends after these steps
pub data LoginSends (user password : List ℕ) (steps : List Step) (payload : List ℕ) : Type 0 where
  the_response : AnswersGreeting user password steps payload →
      LoginSends user password steps payload
  the_switch_answer : AnswersSwitch user password steps payload →
      LoginSends user password steps payload
  the_set_up : {peer : Peer} → IsAccepted user password peer steps →
      payload ≡ query_payload (command_text SetUp) → LoginSends user password steps payload
