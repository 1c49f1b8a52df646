-- Why no row and no end came, as a session answers it.
use Rattle.std.specs.Prelude.{ℕ, List, Bool, Option, Some, None, Result, Ok, Err}
use Rattle.statement_forms.specs.declared.form.Form.{Form}
use Rattle.wire_forms.specs.Reply.{refusal_of}
use Rattle.wire_forms.specs.declared.refusal.Refusal.{Refusal}
use Rattle.my_session.specs.Fault.{session_fault}
use Rattle.my_session.specs.declared.fault.SessionFault.{SessionFault}
use Rattle.my_session.specs.declared.fault.SessionFault.TheVariants.{Refused, Garbled}
use Rattle.my_session.specs.declared.rows.Stop.{Stop}
use Rattle.my_session.specs.declared.rows.Stop.TheVariants.{Refused as StopRefused, Failed}

-- the answer to a message in an ERR's place, which began at this place: what it says, where it is an ERR
abbrev pub refusal_fault : Form → ℕ → Option Refusal → SessionFault
refusal_fault form place (Some refusal) = Refused form refusal
refusal_fault form place None = Garbled place

-- the answer at a stop, where this message was heard last, which began at this place
abbrev pub stop_fault : ℕ → List ℕ → Stop → SessionFault
stop_fault place message (StopRefused form) = refusal_fault form place (refusal_of message)
stop_fault place message (Failed fault) = session_fault fault

-- the answer, whether it is a stop or not
abbrev pub stop_result : ℕ → List ℕ → Result Bool Stop → Result Bool SessionFault
stop_result place message (Ok is_row) = Ok is_row
stop_result place message (Err stop) = Err (stop_fault place message stop)
