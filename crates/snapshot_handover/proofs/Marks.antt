-- Over an honest server a frozen session is told the mark of what it has seen.
use Rattle.std.proofs.Common.{◌≡◌, ℕ, suc, append-nil, ◌^◌, Bool, true, false, List, [], ◌∷◌, ◌++◌, map, refl, sym, ◌∙◌, ap, subst, arith, decimal, Option, Some, None, Result, Ok, Err}
use Rattle.std.proofs.lemmas.Bool.{eqb-true}
use Rattle.std.proofs.lemmas.Fmt.{decimal_injective}
use Rattle.std.specs.List.{list_all}
use Rattle.std.specs.Prelude.{◌==◌, ◌&&◌, ◌||◌, not, cond, nat_lt, All, IfSome}
use Rattle.honest_server.specs.Answer.{ShowsMark, without_line_feeds}
use Rattle.honest_server.specs.Moves.{plainly}
use Rattle.honest_server.specs.Serve.{FitsNowhere, QueryServed, Serves, rows, refused}
use Rattle.honest_server.specs.State.{State, with_others}
use Rattle.honest_server.specs.WellFormed.{HasGoodMark, IsSound, can_be_written, is_visible}
use Rattle.my_session.specs.Asked.{FailsLeadBy, FailsQuery, LeadsBy, at_lead, at_query}
use Rattle.my_session.specs.Coming.{IsOver, Reached, Rest, TakesFirst, TakesNext, reply_of_rest, reply_with}
use Rattle.my_session.specs.Lead.{lead_of}
use Rattle.my_session.specs.Served.{FailsStatement, given}
use Rattle.my_session.specs.Shown.{AnswersAt, ComesFrom, all_rows, first_rows, no_rows}
use Rattle.my_session.specs.declared.fault.SessionFault.{SessionFault}
use Rattle.my_session.specs.declared.fault.SessionFault.TheVariants.{Link, Refused, Garbled, NotProtocol10, PluginUnsupported, TooLong, StreamTooLong, OutOfMemory}
use Rattle.plain_data.specs.Cell.{Cell as SentCell}
use Rattle.result_rows.specs.RowCells.{row_cells}
use Rattle.result_rows.specs.declared.row.Row.{Row}
use Rattle.server_data.specs.Fold.{mark}
use Rattle.server_data.specs.Select.{is_empty}
use Rattle.server_data.specs.declared.data.Position.{Position}
use Rattle.server_data.specs.declared.data.Transaction.{Transaction}
use Rattle.sql_cells.specs.Cell.{bytes_of}
use Rattle.sql_cells.specs.declared.cell.Cell.{Cell}
use Rattle.sql_cells.specs.declared.cell.Cell.TheVariants.{Null, Value}
use Rattle.statement_forms.specs.Form.{query_form}
use Rattle.statement_forms.specs.declared.form.Form.{Form}
use Rattle.statement_forms.specs.declared.statement.Statement.TheVariants.{Query as SomeQuery}
use Rattle.wire_forms.specs.declared.refusal.Refusal.{Refusal}
use Rattle.snapshot_handover.proofs.Statuses.{can_be_written_low}
use Rattle.snapshot_handover.specs.Handover.{IsFrozen}
use Rattle.snapshot_handover.specs.Status.{SaysPosition, status_query}
use Rattle.snapshot_handover.specs.StatusRead.{EndsWithErr, TellsMark, MakesNoPosition}

-- ---- the mark of a sound history can be written

good_tail : (one : Transaction) (history : List Transaction) → All HasGoodMark (one ∷ history) → All HasGoodMark history
good_tail one history all = λ number other within. all (suc number) other (omega (arith, within))

good_mark : (history : List Transaction) → All HasGoodMark history → IfSome (mark history) (λ position. can_be_written position ≡ true)
good_mark [] all = tt
good_mark (one ∷ []) all = all 0 one (omega arith)
good_mark (one ∷ next ∷ others) all = good_mark (next ∷ others) (good_tail one (next ∷ others) all)

mark_written : (m : Option Position) (position : Position) → IfSome m (λ (p : Position). can_be_written p ≡ true) → m ≡ Some position → can_be_written position ≡ true
mark_written m position good is = subst (λ (o : Option Position). IfSome o (λ (p : Position). can_be_written p ≡ true)) is good

-- ---- bytes without line feeds

and_first : (a b : Bool) → (a && b) ≡ true → a ≡ true
and_first true b e = refl
and_first false b e = e

and_second : (a b : Bool) → (a && b) ≡ true → b ≡ true
and_second true b e = e
and_second false b e = absurd (cc)

not_fed : (byte : ℕ) → is_visible byte ≡ true → (byte == 10) ≡ true → ⊥
not_fed byte visible fed =
    let ten : byte ≡ 10 = eqb-true byte 10 fed in
    let no : is_visible byte ≡ false = ap (λ (n : ℕ). is_visible n) ten in
    cc

kept_step : (fed : Bool) (byte : ℕ) (bytes made : List ℕ) → (fed ≡ true → ⊥) → made ≡ bytes → cond (not fed) (byte ∷ made) made ≡ byte ∷ bytes
kept_step true byte bytes made other same = absurd (other refl)
kept_step false byte bytes made other same = ap (λ (l : List ℕ). byte ∷ l) same

visible_kept : (bytes : List ℕ) → list_all is_visible bytes ≡ true → without_line_feeds bytes ≡ bytes
visible_kept [] visible = refl
visible_kept (byte ∷ bytes) visible =
    kept_step (byte == 10) byte bytes (without_line_feeds bytes) (not_fed byte (and_first (is_visible byte) (list_all is_visible bytes) visible))
    (visible_kept bytes (and_second (is_visible byte) (list_all is_visible bytes) visible))

gtid_visible : (position : Position) → can_be_written position ≡ true → list_all is_visible position.gtid ≡ true
gtid_visible position written =
    let gtid = list_all is_visible position.gtid in
    let low = nat_lt position.offset (2 ^ 64) in
    let file = list_all is_visible position.file in
    and_first gtid low (and_second file (gtid && low) (and_second (not (is_empty position.file)) (file && (gtid && low)) written))

-- ---- the row of a mark

-- the row of this mark
record IsMarkRow (m : Option Position) (cells : List Cell) (more : List (List Cell)) : Type 0 where
  position : Position
  mark_is : m ≡ Some position
  third : Cell
  fourth : Cell
  gtid : List ℕ
  others : List Cell
  cells_are : cells ≡ Value position.file ∷ Value (decimal position.offset) ∷ third ∷ fourth ∷ Value gtid ∷ others
  gtid_is : without_line_feeds gtid ≡ position.gtid
  none_more : more ≡ []

front_none : {X : Type 0} (front after : List X) → front ++ after ≡ [] → front ≡ []
front_none [] after none = refl
front_none (x ∷ front) after none = absurd (cc)

whole_row : (m : Option Position) (cells : List Cell) (more after whole : List (List Cell)) → ShowsMark m whole → (cells ∷ more) ++ after ≡ whole → IsMarkRow m cells more
whole_row None cells more after whole shows joined = absurd (cc)
whole_row (Some position) cells more after whole shows joined =
    let both : (cells ∷ more) ++ after ≡ (Value position.file ∷ Value (decimal position.offset) ∷ shows.third ∷ shows.fourth ∷ Value shows.gtid ∷ shows.more) ∷ [] = joined ∙ shows.rows_are in
    let none : more ++ after ≡ [] = cc in
    record {
      position = position;
      mark_is = refl;
      third = shows.third;
      fourth = shows.fourth;
      gtid = shows.gtid;
      others = shows.more;
      cells_are = cc;
      gtid_is = shows.gtid_is;
      none_more = front_none more after none;
    }

shows_mark : (newer : Bool) (history : List Transaction) (found : List (List Cell)) → AnswersAt history (status_query newer) found → ShowsMark (mark history) found
shows_mark true history found answers = answers
shows_mark false history found answers = answers

none_shown : (m : Option Position) (found : List (List Cell)) → ShowsMark m found → found ≡ [] → None ≡ m
none_shown None found shows none = refl
none_shown (Some position) found shows none = absurd (cc (none, shows.rows_are))

module _ (newer : Bool) where
  mark_row : (history : List Transaction) (rest : Rest) (cells : List Cell) (more : List (List Cell)) → ComesFrom history (status_query newer) rest → rest.rows ≡ cells ∷ more → IsMarkRow (mark history) cells more
  mark_row history rest cells more (all_rows broken answers) rows_are =
      whole_row (mark history) cells more [] rest.rows (shows_mark newer history rest.rows answers) (append-nil (cells ∷ more) ∙ sym rows_are)
  mark_row history rest cells more (first_rows refusal found broken front answers) rows_are =
      whole_row (mark history) cells more front.rest found (shows_mark newer history found answers) (ap (λ (l : List (List Cell)). l ++ front.rest) (sym rows_are) ∙ front.joined)
  mark_row history rest cells more (no_rows refusal broken none) rows_are = absurd (cc)

  no_mark : (history : List Transaction) (rest : Rest) → ComesFrom history (status_query newer) rest → IsOver rest None → None ≡ mark history
  no_mark history rest (all_rows broken answers) over = none_shown (mark history) rest.rows (shows_mark newer history rest.rows answers) over.none_left
  no_mark history rest (first_rows refusal found broken front answers) over = absurd (cc (broken, over.ended))
  no_mark history rest (no_rows refusal broken none) over = absurd (cc (broken, over.ended))

-- ---- what a server says at one state

row_says : (m : Option Position) (cells : List Cell) (more : List (List Cell)) (found : List SentCell) → IfSome m (λ (p : Position). can_be_written p ≡ true) → (row : IsMarkRow m cells more) → found ≡ map bytes_of cells → SaysPosition found row.position
row_says m cells more found good row found_is = record {
  third = bytes_of row.third;
  fourth = bytes_of row.fourth;
  gtid = row.gtid;
  more = map bytes_of row.others;
  cells_are = found_is ∙ ap (λ (l : List Cell). map bytes_of l) row.cells_are;
  gtid_is = row.gtid_is;
  written = mark_written m row.position good row.mark_is;
}

abbrev position_at : List ℕ → ℕ → List ℕ → Position
position_at file offset gtid = record { file = file; offset = offset; gtid = gtid }

one_position : (cells : List SentCell) (one other : Position) → SaysPosition cells one → SaysPosition cells other → one ≡ other
one_position cells one other first second =
    let both : Some one.file ∷ Some (decimal one.offset) ∷ first.third ∷ first.fourth ∷ Some first.gtid ∷ first.more ≡ Some other.file ∷ Some (decimal other.offset) ∷ second.third ∷ second.fourth ∷ Some second.gtid ∷ second.more = sym first.cells_are ∙ second.cells_are in
    let file : one.file ≡ other.file = cc in
    let digits : decimal one.offset ≡ decimal other.offset = cc in
    let offset : one.offset ≡ other.offset = decimal_injective one.offset other.offset (can_be_written_low one first.written) (can_be_written_low other second.written) digits in
    let sent : first.gtid ≡ second.gtid = cc in
    let gtid : one.gtid ≡ other.gtid = sym first.gtid_is ∙ ap (λ (l : List ℕ). without_line_feeds l) sent ∙ second.gtid_is in
    ap (λ (l : List ℕ). position_at l one.offset one.gtid) file
    ∙ ap (λ (n : ℕ). position_at other.file n one.gtid) offset
    ∙ ap (λ (l : List ℕ). position_at other.file other.offset l) gtid

some_rows : (m : Option Position) → IfSome m (λ (p : Position). can_be_written p ≡ true) → (found : List (List Cell)) × ShowsMark m found
some_rows None good = ([], refl)
some_rows (Some position) good = (
  (Value position.file ∷ Value (decimal position.offset) ∷ Null ∷ Null ∷ Value position.gtid ∷ []) ∷ [],
  record { third = Null; fourth = Null; gtid = position.gtid; more = []; rows_are = refl; gtid_is = visible_kept position.gtid (gtid_visible position good) },
)

served_by : (newer : Bool) (state : State) (found : List (List Cell)) → newer ≡ state.terms.server.newer → ShowsMark (mark state.seen) found → QueryServed state (status_query newer) found
served_by true state found is shows = record { is_there = sym is; shows = shows }
served_by false state found is shows = record { is_there = ap (λ (b : Bool). not b || state.terms.server.old_status) (sym is); shows = shows }

not_true : (b : Bool) → (b ≡ true → ⊥) → b ≡ false
not_true true other = absurd (other refl)
not_true false other = refl

pub lead_none : (newer : Bool) → lead_of (status_query newer) ≡ None
lead_none true = refl
lead_none false = refl

-- a result is the mark of what was seen, and the ERR answers end with its own
abbrev pub Told : State → Result (Option Position) SessionFault → State → Type 0
Told old result new = TellsMark old result × EndsWithErr old.errors result new.errors

unsaid_told : (old new : State) (cells : List SentCell) (place : ℕ) (position : Position) (fault : SessionFault) → SaysPosition cells position → MakesNoPosition cells place fault → Told old (Err fault) new
unsaid_told old new cells place position (Garbled at) says unsaid = absurd (unsaid.1 position says)
unsaid_told old new cells place position OutOfMemory says unsaid = (tt, tt)
unsaid_told old new cells place position Link says unsaid = absurd unsaid
unsaid_told old new cells place position (Refused form refusal) says unsaid = absurd unsaid
unsaid_told old new cells place position (NotProtocol10 version) says unsaid = absurd unsaid
unsaid_told old new cells place position (PluginUnsupported name) says unsaid = absurd unsaid
unsaid_told old new cells place position (TooLong size) says unsaid = absurd unsaid
unsaid_told old new cells place position StreamTooLong says unsaid = absurd unsaid

module _ (newer : Bool) (old : State) (is_newer : newer ≡ old.terms.server.newer) (was : IsFrozen old) (sound : IsSound old.terms.server old.seen) where
  never_nowhere : (more : List Transaction) → more ≡ [] → FitsNowhere plainly old (SomeQuery (status_query newer)) more → ⊥
  never_nowhere more none nowhere =
      let some = some_rows (mark old.seen) (good_mark old.seen sound.marks) in
      let seen : old.seen ++ more ≡ old.seen = ap (λ (l : List Transaction). old.seen ++ l) none ∙ append-nil old.seen in
      let shows : ShowsMark (mark (old.seen ++ more)) some.0 = subst (λ (l : List Transaction). ShowsMark (mark l) some.0) (sym seen) some.1 in
      nowhere (rows some.0) (with_others old more) (served_by newer (with_others old more) some.0 is_newer shows, refl)

  refused_told : (found : List (List Cell)) (form : Form) (refusal : Refusal) (new : State) → form ≡ query_form (status_query newer) → Serves plainly old (SomeQuery (status_query newer)) (refused found refusal) new → Told old (Err (Refused form refusal)) new
  refused_told found form refusal new is serves = (
    not_true old.terms.server.willing (λ willing. never_nowhere serves.more (serves.gives.sees.follows.frozen was.frozen) (serves.must willing)),
    ap (λ (s : State). s.errors) serves.gives.new_is ∙ ap (λ (f : Form). old.errors ++ given f refusal ∷ []) (sym is),
  )

  fails_told : (fault : SessionFault) (new : State) → FailsStatement plainly old (SomeQuery (status_query newer)) fault new → Told old (Err fault) new
  fails_told Link new fails = (tt, tt)
  fails_told (Refused form refusal) new fails = refused_told [] form refusal new (cc (fails.form_is)) fails.serves
  fails_told (Garbled place) new fails = absurd fails
  fails_told (NotProtocol10 version) new fails = absurd fails
  fails_told (PluginUnsupported name) new fails = absurd fails
  fails_told (TooLong size) new fails = (tt, tt)
  fails_told StreamTooLong new fails = (tt, tt)
  fails_told OutOfMemory new fails = (tt, tt)

  pub query_told : (fault : SessionFault) (new : State) → FailsQuery (status_query newer) old fault new → Told old (Err fault) new
  query_told fault new (at_lead fails) = absurd (subst (λ (o : Option (List ℕ)). FailsLeadBy o old fault new) (lead_none newer) fails)
  query_told fault new (at_query middle leads fails) =
      let same : middle ≡ old = subst (λ (o : Option (List ℕ)). LeadsBy o old middle) (lead_none newer) leads in
      fails_told fault new (subst (λ (s : State). FailsStatement plainly s (SomeQuery (status_query newer)) fault new) same fails)

  module _ (rest : Rest) (new : State) (serves : Serves plainly old (SomeQuery (status_query newer)) (reply_of_rest rest) new) (comes : ComesFrom old.seen (status_query newer) rest) where
    served_at : (broken : Option Refusal) → rest.broken ≡ broken → Serves plainly old (SomeQuery (status_query newer)) (reply_with rest.rows broken) new
    served_at broken is = subst (λ (b : Option Refusal). Serves plainly old (SomeQuery (status_query newer)) (reply_with rest.rows b) new) is serves

    errors_stay : rest.broken ≡ None → new.errors ≡ old.errors
    errors_stay is = ap (λ (s : State). s.errors) (served_at None is).handles.1

    pub next_err_told : (left : Rest) (fault : SessionFault) (at : Reached) → left.broken ≡ rest.broken → TakesNext left (query_form (status_query newer)) (Err fault) at → Told old (Err fault) new
    next_err_told left Link at same takes = (tt, tt)
    next_err_told left (Refused form refusal) at same takes =
        refused_told rest.rows form refusal new takes.form_is (served_at (Some refusal) (sym same ∙ takes.at_end.ended))
    next_err_told left (Garbled place) at same takes = absurd takes
    next_err_told left (NotProtocol10 version) at same takes = absurd takes
    next_err_told left (PluginUnsupported name) at same takes = absurd takes
    next_err_told left (TooLong size) at same takes = (tt, tt)
    next_err_told left StreamTooLong at same takes = (tt, tt)
    next_err_told left OutOfMemory at same takes = (tt, tt)

    pub none_told : IsOver rest None → Told old (Ok None) new
    none_told over = (no_mark newer old.seen rest comes over, errors_stay over.ended)

    first_row : (found : Row) (at : Reached) (takes : TakesFirst rest found at) → IsMarkRow (mark old.seen) takes.cells takes.more
    first_row found at takes = mark_row newer old.seen rest takes.cells takes.more comes takes.rows_are

    first_says : (found : Row) (at : Reached) (takes : TakesFirst rest found at) → SaysPosition (row_cells found) (first_row found at takes).position
    first_says found at takes = row_says (mark old.seen) takes.cells takes.more (row_cells found) (good_mark old.seen sound.marks) (first_row found at takes) takes.found_is

    pub row_unsaid_told : (found : Row) (place : ℕ) (at : Reached) (fault : SessionFault) → TakesFirst rest found at → MakesNoPosition (row_cells found) place fault → Told old (Err fault) new
    row_unsaid_told found place at fault takes unsaid = unsaid_told old new (row_cells found) place (first_row found at takes).position fault (first_says found at takes) unsaid

    pub one_told : (found : Row) (at : Reached) (position : Position) → TakesFirst rest found at → SaysPosition (row_cells found) position → rest.broken ≡ None → Told old (Ok (Some position)) new
    one_told found at position takes says whole = (
      ap (λ (p : Position). Some p) (one_position (row_cells found) position (first_row found at takes).position says (first_says found at takes)) ∙ sym (first_row found at takes).mark_is,
      errors_stay whole,
    )

    pub no_second : (found : Row) (at : Reached) (takes : TakesFirst rest found at) → takes.more ≡ []
    no_second found at takes = (first_row found at takes).none_more
