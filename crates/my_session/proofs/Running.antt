-- How a conversation goes on, and how a command is run.
use Rattle.std.proofs.Common.{◌≡◌, ℕ, List, [], ◌∷◌, ◌++◌, refl, sym, subst, Some, Result, Ok, Err, OnOk}
use Rattle.std.specs.Prelude.{IfErr}
use Rattle.wire_forms.specs.declared.reply.Reply.TheVariants.{Done}
use Rattle.statement_forms.specs.Form.{command_form}
use Rattle.statement_forms.specs.declared.command.Command.{Command}
use Rattle.statement_forms.specs.declared.form.Form.{Form}
use Rattle.my_session.specs.Awaited.{done}
use Rattle.my_session.specs.Halt.{Halts, Unsaid, Stops, at_message, at_payload}
use Rattle.my_session.specs.Heard.{HearsReply}
use Rattle.my_session.specs.Session.{Runs}
use Rattle.my_session.specs.Statements.{IsRun, RunAwaits, an_ok, RunSends, command_payload}
use Rattle.my_session.specs.Wire.{Wire, Hears, Step, commands, answers, hears, Leads, ends, after_command, after_answer, after_message, Takes, Sent, after_sent}
use Rattle.my_session.specs.declared.fault.SessionFault.{SessionFault}
use Rattle.my_session.specs.declared.fault.SessionFault.TheVariants.{OutOfMemory}

-- one conversation after another
pub leads_on : (before after : List Step) (old middle new : Wire) → Leads before old middle → Leads after middle new → Leads (before ++ after) old new
leads_on [] after old middle new ends later = later
leads_on (commands payload ∷ before) after old middle new (after_command short first) later = after_command short (leads_on before after (after_sent 0 payload old) middle new first later)
leads_on (answers payload ∷ before) after old middle new (after_answer short first) later = after_answer short (leads_on before after (after_sent old.id payload old) middle new first later)
leads_on (hears message ∷ before) after old middle new (after_message {middle = next} heard first) later = after_message heard (leads_on before after next middle new first later)

pub leads_said : (payload : List ℕ) (old new : Wire) → Sent 0 payload old new → Leads (commands payload ∷ []) old new
leads_said payload old new sent = subst (λ (w : Wire). Leads (commands payload ∷ []) old w) (sym sent.new_is) (after_command sent.short ends)

pub leads_answered : (payload : List ℕ) (old new : Wire) → Sent old.id payload old new → Leads (answers payload ∷ []) old new
leads_answered payload old new sent = subst (λ (w : Wire). Leads (answers payload ∷ []) old w) (sym sent.new_is) (after_answer sent.short ends)

pub leads_heard : (message : List ℕ) (old new : Wire) → Hears message old new → Leads (hears message ∷ []) old new
leads_heard message old new heard = after_message heard ends

-- what holds under a premise at an answer, holds at the answer under the premise
pub ok_where : {P : Type 0} (Q : Type 0) (result : Result (Unit {0}) SessionFault) → (P → OnOk result Q) → OnOk result (P → Q)
ok_where Q (Ok finished) so = so
ok_where Q (Err fault) so = tt

pub err_where : {P : Type 0} (Q : SessionFault → Type 0) (result : Result (Unit {0}) SessionFault) → (P → IfErr result Q) → IfErr result (λ fault. P → Q fault)
err_where Q (Ok finished) so = tt
err_where Q (Err fault) so = so

module _ (command : Command) (old new : Wire) where
  pub run_unwritten : (fault : SessionFault) → fault ≡ OutOfMemory → Stops (RunAwaits command) (RunSends command) old fault old
  run_unwritten fault is = subst (λ (f : SessionFault). Stops (RunAwaits command) (RunSends command) old f old) (sym is) (at_payload (record { steps_are = refl; payload_is = refl }) ends refl)

  pub run_unsaid : (payload : List ℕ) (fault : SessionFault) → payload ≡ command_payload command → Unsaid payload old fault new → Stops (RunAwaits command) (RunSends command) old fault new
  run_unsaid payload fault is unsaid = at_payload (record { steps_are = refl; payload_is = is }) ends unsaid

  module _ (payload : List ℕ) (middle : Wire) (is : payload ≡ command_payload command) (said : Sent 0 payload old middle) where
    run_said : Leads (commands (command_payload command) ∷ []) old middle
    run_said = subst (λ (l : List ℕ). Leads (commands l ∷ []) old middle) is (leads_said payload old middle said)

    run_halts : (form : Form) (fault : SessionFault) → form ≡ command_form command → Halts (done form) middle fault new → Stops (RunAwaits command) (RunSends command) old fault new
    run_halts form fault form_is halts =
        at_message (an_ok refl) run_said (subst (λ (f : Form). Halts (done f) middle fault new) form_is halts)

    run_done : HearsReply (Some Done) middle new → Takes (IsRun command) old new
    run_done heard = record {
      steps = commands (command_payload command) ∷ hears heard.message ∷ [];
      so = record { message = heard.message; said_ok = heard.reply_is; steps_are = refl };
      leads = leads_on (commands (command_payload command) ∷ []) (hears heard.message ∷ []) old middle new run_said (leads_heard heard.message middle new heard.heard);
    }

    pub runs_by : (form : Form) (result : Result (Unit {0}) SessionFault) → form ≡ command_form command → OnOk result (HearsReply (Some Done) middle new) → IfErr result (λ fault. Halts (done form) middle fault new) → Runs command old result new
    runs_by form (Ok finished) form_is heard halts = run_done heard
    runs_by form (Err fault) form_is heard halts = run_halts form fault form_is halts
