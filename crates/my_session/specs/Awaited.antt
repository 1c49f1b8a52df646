-- What a session awaits, and what it answers to a message that it can't go on at.
use Rattle.std.specs.Prelude.{ℕ, List, Option, Some, None, Result, Ok, Err}
use Rattle.wire_forms.specs.Greeting.{greeting_of}
use Rattle.wire_forms.specs.Switch.{switch_of}
use Rattle.wire_forms.specs.declared.login_fault.LoginFault.{LoginFault}
use Rattle.wire_forms.specs.declared.login_fault.LoginFault.TheVariants.{NotProtocol10 as NotTen, PluginUnsupported as Unsupported, Refused as LoginRefused, Garbled as LoginGarbled}
use Rattle.wire_forms.specs.declared.greeting.Greeting.{Greeting}
use Rattle.wire_forms.specs.declared.switch.Switch.{Switch}
use Rattle.wire_forms.specs.Reading.{Reading, Further, definition, row, end, refused, garbled, further_of}
use Rattle.wire_forms.specs.Reply.{reply_of}
use Rattle.wire_forms.specs.declared.reply.Reply.{Reply}
use Rattle.wire_forms.specs.declared.reply.Reply.TheVariants.{Done, Refused as IsRefused, Columns}
use Rattle.statement_forms.specs.declared.form.Form.{Form}
use Rattle.statement_forms.specs.declared.form.Form.TheVariants.{Connect}
use Rattle.my_session.specs.declared.fault.SessionFault.{SessionFault}
use Rattle.my_session.specs.declared.fault.SessionFault.TheVariants.{Refused, Garbled, NotProtocol10, PluginUnsupported}

-- a message that a session awaits: the server's greeting; its answer to the login, an OK, an ERR or a switch request; an OK
-- or an ERR; the first message of a result set; and a further one. The form is that of the statement that is answered.
pub data Awaited : Type 0 where
  greeting : Awaited
  decision : Awaited
  done : Form → Awaited
  count : Form → Awaited
  further : Form → Reading → Awaited

-- a greeting, or an ERR in its place
abbrev pub greeting_fault : ℕ → Result Greeting LoginFault → Option SessionFault
greeting_fault place (Ok found) = None
greeting_fault place (Err (NotTen version)) = Some (NotProtocol10 version)
greeting_fault place (Err (Unsupported name)) = Some (Garbled place)
greeting_fault place (Err (LoginRefused refusal)) = Some (Refused Connect refusal)
greeting_fault place (Err LoginGarbled) = Some (Garbled place)

-- a request to answer another scramble
abbrev pub switch_fault : ℕ → Result Switch LoginFault → Option SessionFault
switch_fault place (Ok found) = None
switch_fault place (Err (NotTen version)) = Some (Garbled place)
switch_fault place (Err (Unsupported name)) = Some (PluginUnsupported name)
switch_fault place (Err (LoginRefused refusal)) = Some (Garbled place)
switch_fault place (Err LoginGarbled) = Some (Garbled place)

-- an OK, an ERR, or a switch request
abbrev pub decision_fault : ℕ → List ℕ → Option Reply → Option SessionFault
decision_fault place message (Some Done) = None
decision_fault place message (Some (IsRefused refusal)) = Some (Refused Connect refusal)
decision_fault place message (Some (Columns columns)) = switch_fault place (switch_of message)
decision_fault place message None = switch_fault place (switch_of message)

-- an OK, or an ERR
abbrev pub done_fault : Form → ℕ → Option Reply → Option SessionFault
done_fault form place (Some Done) = None
done_fault form place (Some (IsRefused refusal)) = Some (Refused form refusal)
done_fault form place (Some (Columns columns)) = Some (Garbled place)
done_fault form place None = Some (Garbled place)

-- the number of columns of a result set, or an ERR
abbrev pub count_fault : Form → ℕ → Option Reply → Option SessionFault
count_fault form place (Some Done) = Some (Garbled place)
count_fault form place (Some (IsRefused refusal)) = Some (Refused form refusal)
count_fault form place (Some (Columns columns)) = None
count_fault form place None = Some (Garbled place)

-- a column definition, the EOF after the definitions, a row, the end, or an ERR in a row's place
abbrev pub further_fault : Form → ℕ → Further → Option SessionFault
further_fault form place definition = None
further_fault form place (row cells) = None
further_fault form place end = None
further_fault form place (refused refusal) = Some (Refused form refusal)
further_fault form place garbled = Some (Garbled place)

-- what a session answers to a message that began at this place, if it doesn't go on
abbrev pub fault_at : Awaited → ℕ → List ℕ → Option SessionFault
fault_at greeting place message = greeting_fault place (greeting_of message)
fault_at decision place message = decision_fault place message (reply_of message)
fault_at (done form) place message = done_fault form place (reply_of message)
fault_at (count form) place message = count_fault form place (reply_of message)
fault_at (further form reading) place message =
    further_fault form place (further_of reading message)
