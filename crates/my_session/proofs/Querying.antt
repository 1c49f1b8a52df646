-- How a query is led, sent and described.
use Rattle.std.proofs.Common.{◌≡◌, ◌<◌, ◌+◌, ◌-◌, ◌==◌, ℕ, suc, Bool, true, false, if◌then◌else◌, List, [], ◌∷◌, ◌++◌, length, map, replicate, refl, sym, ◌∙◌, ap, subst, inl, inr, ◌⊎◌, ◌≢◌, append_assoc, arith, Option, Some, None, Result, Ok, Err, OnOk, length-append}
use Rattle.std.specs.Prelude.{IfErr}
use Rattle.std.proofs.lemmas.Bool.{ne_eqb}
use Rattle.std.proofs.lemmas.List.{map-append}
use Rattle.wire_forms.specs.Reading.{Reading, Further, definition, end, garbled, idle, awaited_count, columns_counted, further_of, reading_after, definition_if, end_if, refused_if, row_if, row_of, is_before_rows, is_in_ends_place, is_end_packet}
use Rattle.wire_forms.specs.Reply.{refusal_of}
use Rattle.wire_forms.specs.declared.ends.Ends.{Ends}
use Rattle.plain_data.specs.Cell.{Cell}
use Rattle.wire_forms.specs.Row.{cells_of}
use Rattle.wire_forms.specs.ResultSet.{turns_of}
use Rattle.wire_forms.specs.declared.refusal.Refusal.{Refusal}
use Rattle.result_rows.specs.Turns.{turn_kind}
use Rattle.result_rows.specs.declared.reader.TurnKind.TheVariants.{Definition as DefinitionKind, Row as RowKind, End as EndKind, Refused as RefusedKind, Garbled as GarbledKind}
use Rattle.result_rows.proofs.Turns.{step_tells, row_told, refusal_told}
use Rattle.wire_forms.specs.declared.reply.Reply.TheVariants.{Columns}
use Rattle.statement_forms.specs.Form.{query_form}
use Rattle.statement_forms.specs.Text.{query_text}
use Rattle.statement_forms.specs.declared.command.Command.TheVariants.{Use}
use Rattle.statement_forms.specs.declared.form.Form.{Form}
use Rattle.statement_forms.specs.declared.query.Query.{Query}
use Rattle.my_session.proofs.Running.{leads_on, leads_said, leads_heard}
use Rattle.my_session.specs.Awaited.{Awaited, count, further, further_fault}
use Rattle.my_session.specs.Halt.{Halts, Unsaid, Stops, at_message, at_payload}
use Rattle.my_session.specs.Heard.{HearsReply, HearsDefinition, IsRowOf}
use Rattle.my_session.specs.Lead.{lead_of}
use Rattle.my_session.specs.Stop.{refusal_fault}
use Rattle.my_session.specs.Session.{Runs, rows_awaited}
use Rattle.honest_server.specs.Exchange.{query_payload}
use Rattle.my_session.specs.Statements.{IsRun, RunAwaits, RunSends, IsLedBy, LeadAwaitsBy, LeadSendsBy, IsLed, LeadAwaits, LeadSends, IsAsked, IsDescribed, QueryAwaits, a_lead, a_count, a_definition, QuerySends, the_lead, the_query}
use Rattle.my_session.specs.Wire.{Wire, Step, commands, hears, ends, Takes, Sent}
use Rattle.my_session.specs.declared.fault.SessionFault.{SessionFault}
use Rattle.my_session.specs.declared.fault.SessionFault.TheVariants.{Garbled}

-- ---- the lead

led_by : (query : Query) (lead : Option (List ℕ)) (steps : List Step) → lead_of query ≡ lead → IsLedBy lead steps → IsLed query steps
led_by query lead steps is run = subst (λ (l : Option (List ℕ)). IsLedBy l steps) (sym is) run

awaits_by : (query : Query) (lead : Option (List ℕ)) (steps : List Step) (awaited : Awaited) → lead_of query ≡ lead → LeadAwaitsBy lead steps awaited → LeadAwaits query steps awaited
awaits_by query lead steps awaited is run = subst (λ (l : Option (List ℕ)). LeadAwaitsBy l steps awaited) (sym is) run

sends_by : (query : Query) (lead : Option (List ℕ)) (steps : List Step) (payload : List ℕ) → lead_of query ≡ lead → LeadSendsBy lead steps payload → LeadSends query steps payload
sends_by query lead steps payload is run = subst (λ (l : Option (List ℕ)). LeadSendsBy l steps payload) (sym is) run

pub takes_no_lead : (query : Query) (wire : Wire) → lead_of query ≡ None → Takes (IsLed query) wire wire
takes_no_lead query wire is = record { steps = []; so = led_by query None [] is refl; leads = ends }

takes_lead : (query : Query) (schema : List ℕ) (old new : Wire) → lead_of query ≡ Some schema → Takes (IsRun (Use schema)) old new → Takes (IsLed query) old new
takes_lead query schema old new is run = record { steps = run.steps; so = led_by query (Some schema) run.steps is run.so; leads = run.leads }

pub led : (query : Query) (schema part : List ℕ) (old new : Wire) (result : Result (Unit {0}) SessionFault) → lead_of query ≡ Some schema → part ≡ schema → Runs (Use part) old result new → OnOk result (Takes (IsLed query) old new)
led query schema part old new (Ok finished) is same runs = takes_lead query part old new (is ∙ ap (λ (s : List ℕ). Some s) (sym same)) runs
led query schema part old new (Err fault) is same runs = tt

stops_lead : (query : Query) (schema : List ℕ) (old new : Wire) (fault : SessionFault) → lead_of query ≡ Some schema → Stops (RunAwaits (Use schema)) (RunSends (Use schema)) old fault new → Stops (LeadAwaits query) (LeadSends query) old fault new
stops_lead query schema old new fault is (at_message {steps = steps} {awaited = awaited} awaits leads halts) = at_message (awaits_by query (Some schema) steps awaited is awaits) leads halts
stops_lead query schema old new fault is (at_payload {steps = steps} {payload = payload} sends leads unsaid) = at_payload (sends_by query (Some schema) steps payload is sends) leads unsaid

pub not_led : (query : Query) (schema part : List ℕ) (old new : Wire) (result : Result (Unit {0}) SessionFault) → lead_of query ≡ Some schema → part ≡ schema → Runs (Use part) old result new → IfErr result (λ fault. Stops (LeadAwaits query) (LeadSends query) old fault new)
not_led query schema part old new (Ok finished) is same runs = tt
not_led query schema part old new (Err fault) is same runs = stops_lead query part old new fault (is ∙ ap (λ (s : List ℕ). Some s) (sym same)) runs

-- ---- the definitions

-- before the rows there are no other messages
by_tests : (found : Bool) → (definition_if found ≡ definition) ⊎ (definition_if found ≡ garbled)
by_tests true = inl refl
by_tests false = inr refl

awaited_by : (none is : Bool) (other : Further) → none ≡ false → ((if none then other else definition_if is) ≡ definition) ⊎ ((if none then other else definition_if is) ≡ garbled)
awaited_by true is other not = absurd (cc)
awaited_by false is other not = by_tests is

pub awaits_definition : (reading : Reading) (payload : List ℕ) → 0 < reading.awaited → (further_of reading payload ≡ definition) ⊎ (further_of reading payload ≡ garbled)
awaits_definition reading payload some = awaited_by (reading.awaited == 0) (is_before_rows reading.ends reading.awaited payload) (row_of reading.ends reading.columns payload) (let other : reading.awaited ≢ 0 = omega arith in ne_eqb reading.awaited 0 other)

more_turns : (reading : Reading) (others : List (List ℕ)) (message : List ℕ) → turns_of reading others ≡ replicate (length others) definition → further_of (record reading { awaited = reading.awaited - length others }) message ≡ definition → turns_of reading (others ++ message ∷ []) ≡ replicate (length others + 1) definition
more_turns reading [] message turns is =
    let same : reading.awaited - 0 ≡ reading.awaited = omega arith in
    ap (λ (f : Further). f ∷ []) (ap (λ (n : ℕ). further_of (record reading { awaited = n }) message) (sym same) ∙ is)
more_turns reading (other ∷ others) message turns is =
    let first : further_of reading other ≡ definition = cc in
    let others_are : turns_of (reading_after reading (further_of reading other)) others ≡ replicate (length others) definition = cc in
    let later : turns_of (record reading { awaited = reading.awaited - 1 }) others ≡ replicate (length others) definition = ap (λ (f : Further). turns_of (reading_after reading f) others) (sym first) ∙ others_are in
    let at : reading.awaited - 1 - length others ≡ reading.awaited - suc (length others) = omega arith in
    let whole : turns_of (record reading { awaited = reading.awaited - 1 }) (others ++ message ∷ []) ≡ replicate (length others + 1) definition = more_turns (record reading { awaited = reading.awaited - 1 }) others message later (ap (λ (n : ℕ). further_of (record reading { awaited = n }) message) at ∙ is) in
    let size : suc (length others + 1) ≡ suc (length others) + 1 = omega arith in
    ap (λ (f : Further). f ∷ turns_of (reading_after reading f) (others ++ message ∷ [])) first ∙ ap (λ (l : List Further). definition ∷ l) whole ∙ ap (λ (n : ℕ). replicate n definition) size

module _ (ending : Ends) (query : Query) (start old new : Wire) where
  pub described_first : (columns : ℕ) → Takes (IsAsked query) start old → HearsReply (Some (Columns columns)) old new → Takes (λ steps. IsDescribed query steps (columns_counted ending columns)) start new
  described_first columns takes heard = record {
    steps = takes.steps ++ hears heard.message ∷ [];
    so = record {
      before = takes.steps;
      asked = takes.so;
      first = heard.message;
      others = [];
      columns = columns;
      reply = heard.reply_is;
      turns = refl;
      reading_is = let same : awaited_count ending columns ≡ awaited_count ending columns - 0 = omega arith in ap (λ (n : ℕ). let r : Reading = record { columns = columns; awaited = n; ends = ending } in r) same;
      steps_are = refl;
    };
    leads = leads_on takes.steps (hears heard.message ∷ []) start old new takes.leads (leads_heard heard.message old new heard.heard);
  }

  module _ (reading : Reading) (takes : Takes (λ steps. IsDescribed query steps reading) start old) where
    pub described_next : HearsDefinition reading old new → Takes (λ steps. IsDescribed query steps (record reading { awaited = reading.awaited - 1 })) start new
    described_next heard =
        let so : IsDescribed query takes.steps reading = takes.so in
        let size : length (so.others ++ heard.message ∷ []) ≡ length so.others + 1 = length-append so.others (heard.message ∷ []) in
        let here : (let r : Reading = record { columns = so.columns; awaited = awaited_count reading.ends so.columns - length so.others; ends = reading.ends } in r) ≡ reading = sym so.reading_is in
        let left : awaited_count reading.ends so.columns - length so.others - 1 ≡ awaited_count reading.ends so.columns - length (so.others ++ heard.message ∷ []) = omega arith in
        record {
          steps = takes.steps ++ hears heard.message ∷ [];
          so = record {
            before = so.before;
            asked = so.asked;
            first = so.first;
            others = so.others ++ heard.message ∷ [];
            columns = so.columns;
            reply = so.reply;
            turns = more_turns (columns_counted reading.ends so.columns) so.others heard.message so.turns (ap (λ (r : Reading). further_of r heard.message) here ∙ heard.is) ∙ ap (λ (n : ℕ). replicate n definition) (sym size);
            reading_is = ap (λ (r : Reading). record r { awaited = r.awaited - 1 }) so.reading_is ∙ ap (λ (n : ℕ). let r : Reading = record { columns = so.columns; awaited = n; ends = reading.ends } in r) left;
            steps_are =
                ap (λ (l : List Step). l ++ hears heard.message ∷ []) so.steps_are
                ∙ append_assoc so.before (hears so.first ∷ map (λ (message : List ℕ). hears message) so.others) (hears heard.message ∷ [])
                ∙ ap (λ (l : List Step). so.before ++ hears so.first ∷ l) (sym (map-append (λ (message : List ℕ). hears message) so.others (heard.message ∷ [])));
          };
          leads = leads_on takes.steps (hears heard.message ∷ []) start old new takes.leads (leads_heard heard.message old new heard.heard);
        }

    pub definition_halts : (form : Form) (fault : SessionFault) → reading.ends ≡ ending → form ≡ query_form query → Halts (further form reading) old fault new → Stops (QueryAwaits ending query) (QuerySends query) start fault new
    definition_halts form fault so form_is halts = at_message (a_definition so takes.so) takes.leads (subst (λ (f : Form). Halts (further f reading) old fault new) form_is halts)

  pub count_halts : (form : Form) (fault : SessionFault) → form ≡ query_form query → Takes (IsAsked query) start old → Halts (count form) old fault new → Stops (QueryAwaits ending query) (QuerySends query) start fault new
  count_halts form fault form_is takes halts = at_message (a_count takes.so) takes.leads (subst (λ (f : Form). Halts (count f) old fault new) form_is halts)

  pub query_unsaid : (fault : SessionFault) → Takes (IsLed query) start old → Unsaid (query_payload (query_text query)) old fault new → Stops (QueryAwaits ending query) (QuerySends query) start fault new
  query_unsaid fault takes unsaid = at_payload (the_query takes.so refl) takes.leads unsaid

  pub query_said : Takes (IsLed query) start old → Sent 0 (query_payload (query_text query)) old new → Takes (IsAsked query) start new
  query_said takes said = record {
    steps = takes.steps ++ commands (query_payload (query_text query)) ∷ [];
    so = record { before = takes.steps; led = takes.so; steps_are = refl };
    leads = leads_on takes.steps (commands (query_payload (query_text query)) ∷ []) start old new takes.leads (leads_said (query_payload (query_text query)) old new said);
  }

pub lead_stops : (ending : Ends) (query : Query) (old new : Wire) (fault : SessionFault) → Stops (LeadAwaits query) (LeadSends query) old fault new → Stops (QueryAwaits ending query) (QuerySends query) old fault new
lead_stops ending query old new fault (at_message awaits leads halts) = at_message (a_lead awaits) leads halts
lead_stops ending query old new fault (at_payload sends leads unsaid) = at_payload (the_lead sends) leads unsaid

-- ---- the rows

-- what the tests of a message in the place of a row tell
definition_by : (ends refuses eof : Bool) (refusal : Option Refusal) (found : Option (List Cell)) → (if ends then end_if eof else (if refuses then refused_if refusal else row_if found)) ≡ definition → ⊥
definition_by true refuses true refusal found is = cc
definition_by true refuses false refusal found is = cc
definition_by false true eof None found is = cc
definition_by false true eof (Some refusal) found is = cc
definition_by false false eof refusal None is = cc
definition_by false false eof refusal (Some found) is = cc

row_no_definition : (ending : Ends) (columns : ℕ) (message : List ℕ) → row_of ending columns message ≡ definition → ⊥
row_no_definition ending columns [] is = cc
row_no_definition ending columns (byte ∷ bytes) is = definition_by (is_in_ends_place ending (byte ∷ bytes)) (byte == 255) (is_end_packet ending (byte ∷ bytes)) (refusal_of (byte ∷ bytes)) (cells_of columns (byte ∷ bytes)) is

-- a message in the place of a row
in_place : (reading : Reading) (message : List ℕ) → reading.awaited ≡ 0 → further_of reading message ≡ row_of reading.ends reading.columns message
in_place reading message none = ap (λ (n : ℕ). further_of (record { columns = reading.columns; awaited = n; ends = reading.ends }) message) none

-- a row that a step has found
pub judged_row : (reading now : Reading) (message : List ℕ) → RowKind ≡ turn_kind (further_of reading message) → now ≡ reading_after reading (further_of reading message) → IsRowOf reading message × (now ≡ reading)
judged_row reading now message is after =
    let told = row_told reading message is in
    (record { cells = told.cells; cells_are = told.cells_are; is = told.is }, after ∙ ap (λ (f : Further). reading_after reading f) told.is)

-- the end
pub judged_end : (reading now : Reading) (message : List ℕ) → EndKind ≡ turn_kind (further_of reading message) → now ≡ reading_after reading (further_of reading message) → (further_of reading message ≡ end) × (now ≡ idle reading.ends)
judged_end reading now message is after =
    let told : further_of reading message ≡ end = step_tells reading message EndKind is in
    (told, after ∙ ap (λ (f : Further). reading_after reading f) told)

-- an ERR
pub judged_refusal : (form : Form) (reading now : Reading) (message : List ℕ) (place : ℕ) → RefusedKind ≡ turn_kind (further_of reading message) → now ≡ reading_after reading (further_of reading message) → (further_fault form place (further_of reading message) ≡ Some (refusal_fault form place (refusal_of message))) × (now ≡ idle reading.ends)
judged_refusal form reading now message place is after =
    let told = refusal_told reading message is in
    (ap (λ (f : Further). further_fault form place f) told.is ∙ ap (λ (r : Option Refusal). Some (refusal_fault form place r)) (sym told.refusal_is), after ∙ ap (λ (f : Further). reading_after reading f) told.is)

pub rows_no_definition : (reading : Reading) (message : List ℕ) → reading.awaited ≡ 0 → further_of reading message ≡ definition → ⊥
rows_no_definition reading message none is = row_no_definition reading.ends reading.columns message (sym (in_place reading message none) ∙ is)

-- none of them
pub judged_garbled : (form : Form) (reading : Reading) (message : List ℕ) (place : ℕ) → GarbledKind ≡ turn_kind (further_of reading message) → further_fault form place (further_of reading message) ≡ Some (Garbled place)
judged_garbled form reading message place is =
    let told : further_of reading message ≡ garbled = step_tells reading message GarbledKind is in
    ap (λ (f : Further). further_fault form place f) told

pub judged_definition : (reading : Reading) (message : List ℕ) → reading.awaited ≡ 0 → DefinitionKind ≡ turn_kind (further_of reading message) → ⊥
judged_definition reading message none is = rows_no_definition reading message none (step_tells reading message DefinitionKind is)

-- all messages before the rows were read
pub at_rows : (reading : Reading) (ending : Ends) (columns : ℕ) → reading.ends ≡ ending → reading.columns ≡ columns → reading.awaited ≡ 0 → reading ≡ rows_awaited ending columns
at_rows reading ending columns so is none =
    ap (λ (n : ℕ). record reading { columns = n }) is
    ∙ ap (λ (n : ℕ). record reading { columns = columns; awaited = n }) none
    ∙ ap (λ (e : Ends). rows_awaited e columns) so
