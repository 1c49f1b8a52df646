-- A text is the `metadata` of one value at most, and each value has one text.
use Rattle.std.proofs.Common.{◌≡◌, inl, inr, ℕ, ◌+◌, ◌*◌, List, [], ◌∷◌, ◌++◌, length, get_or, drop, map, Option, Some, None, IfSome, refl, sym, ◌∙◌, ap, subst, arith, append-nil, codes, pos}
use Rattle.std.specs.List.{flat_map}
use Rattle.std.proofs.lemmas.Int.{by_lt_z, ints}
use Rattle.std.proofs.lemmas.Bool.{cases_lt}
use Rattle.std.proofs.lemmas.List.Elements.{recursion_from_All}
use Rattle.jiff_core.proofs.CalendarLemmas.{days_from_civil-day_count, day_count-lt_year, day_count-lt_month, day_count-day}
use Rattle.jiff_core.specs.Calendar.{IsCivilDate, day_count}
use Rattle.server_data.specs.declared.data.Position.{Position}
use Rattle.folder_forms.specs.Metadata.{HasFileLine, HasPositionLines, IsMetadata, IsMetadataText, IsTimeText, TableNames, ended, file_line, lines_of, moment_seconds, moment_text, position_lines, table_lines}
use Rattle.folder_forms.specs.declared.metadata.FileLine.{FileLine}
use Rattle.folder_forms.specs.declared.metadata.Metadata.{Metadata}
use Rattle.folder_forms.specs.declared.moment.Moment.{Moment}
use Rattle.metadata_ini.proofs.CleanLines.{metadata_clean}
use Rattle.metadata_ini.proofs.DecimalTexts.{same_decimals}
use Rattle.metadata_ini.proofs.EndFronts.{goes_on, end_first, no_tables_line, small}
use Rattle.metadata_ini.proofs.Fronts.{following}
use Rattle.metadata_ini.proofs.TableLists.{one_table_list}
use Rattle.metadata_ini.proofs.TimeTexts.{moment_read}

-- times

pub same_seconds : (text : List ℕ) (a b : ℕ) → IsTimeText text a → IsTimeText text b → a ≡ b
same_seconds text a b s t =
    let moments : s.moment ≡ t.moment = sym (moment_read text s.moment s.real s.is) ∙ moment_read text t.moment t.real t.is in
    let values : pos a ≡ pos b = s.value ∙ ap moment_seconds moments ∙ sym t.value in
    omega (arith, ints, values)

day_number : Moment → ℕ
day_number m = day_count (pos m.year) m.month m.day

-- two days with one number
record SameDay (y z : ℕ) (m n d e : ℕ) : Type 0 where
  year : y ≡ z
  month : m ≡ n
  day : d ≡ e

same_day : (y z m n d e : ℕ) → IsCivilDate (pos y) m d → IsCivilDate (pos z) n e → day_count (pos y) m d ≡ day_count (pos z) n e → SameDay y z m n d e
same_day y z m n d e p q is =
    let year : y ≡ z = by_lt_z (pos y) (pos z)
    (λ lt. absurd (omega (arith, is, day_count-lt_year (pos y) m d (pos z) n e p q.2.0 lt)))
    (λ ge. by_lt_z (pos z) (pos y) (λ lt. absurd (omega (arith, is, day_count-lt_year (pos z) n e (pos y) m d q p.2.0 lt))) (λ le. omega (arith, ints, ge, le))) in
    let there : day_count (pos y) m d ≡ day_count (pos y) n e = is ∙ ap (λ x. day_count (pos x) n e) (sym year) in
    let other : IsCivilDate (pos y) n e = subst (λ x. IsCivilDate (pos x) n e) (sym year) q in
    let month : m ≡ n = elim (cases_lt m n) [
      | inl lt ↦ absurd (omega (arith, there, day_count-lt_month (pos y) m d n e p q.2.0 lt))
      | inr ge ↦ elim (cases_lt n m) [ inl lt ↦ absurd (omega (arith, there, day_count-lt_month (pos y) n e m d other p.2.0 lt)) | inr le ↦ omega (arith, ge, le) ]
    ] in
    let same : day_count (pos y) m d ≡ day_count (pos y) m e = there ∙ ap (λ x. day_count (pos y) x e) (sym month) in
    record { year = year; month = month; day = omega (arith, same, day_count-day (pos y) m d e p.2.0 q.2.0) }

pub same_time : (a b : List ℕ) (seconds : ℕ) → IsTimeText a seconds → IsTimeText b seconds → a ≡ b
same_time a b seconds s t =
    let m = s.moment in
    let n = t.moment in
    let values : moment_seconds m ≡ moment_seconds n = sym s.value ∙ t.value in
    let days : day_count (pos m.year) m.month m.day ≡ day_count (pos n.year) n.month n.day =
    omega (arith, ints, values, days_from_civil-day_count (pos m.year) m.month m.day, days_from_civil-day_count (pos n.year) n.month n.day, s.real.hours, s.real.minutes, s.real.seconds, t.real.hours, t.real.minutes, t.real.seconds) in
    let day = same_day m.year n.year m.month n.month m.day n.day s.real.date t.real.date days in
    let of_day : m.hour * 3600 + m.minute * 60 + m.second ≡ n.hour * 3600 + n.minute * 60 + n.second =
    omega (arith, ints, values, days, days_from_civil-day_count (pos m.year) m.month m.day, days_from_civil-day_count (pos n.year) n.month n.day) in
    let hours : m.hour ≡ n.hour = omega (arith, of_day, s.real.minutes, s.real.seconds, t.real.minutes, t.real.seconds) in
    let minutes : m.minute ≡ n.minute = omega (arith, of_day, hours, s.real.seconds, t.real.seconds) in
    let seconds : m.second ≡ n.second = omega (arith, of_day, hours, minutes) in
    s.is ∙ ap moment_text (λ i. record { year = day.year i; month = day.month i; day = day.day i; hour = hours i; minute = minutes i; second = seconds i }) ∙ sym t.is

-- each value has one text

pub one_text : (value : Metadata) (a b : List ℕ) → IsMetadataText a value → IsMetadataText b value → a ≡ b
one_text value a b p q =
    let started = same_time p.are.started_text q.are.started_text value.started p.are.started q.are.started in
    let finished = same_time p.are.finished_text q.are.finished_text value.finished p.are.finished q.are.finished in
    let tables = one_table_list value.files p.are.tables q.are.tables p.are.tables_are q.are.tables_are in
    p.is ∙ ap (flat_map ended) (p.are.are ∙ (λ i. lines_of value (started i) (finished i) (tables i)) ∙ sym q.are.are) ∙ sym q.is

-- a text is of one value

no_more : (more : List (List ℕ)) → flat_map ended more ≡ [] → more ≡ []
no_more [] e = refl
no_more ([] ∷ more) e = absurd (omega (arith, ap length e))
no_more ((c ∷ line) ∷ more) e = absurd (omega (arith, ap length e))

same_lines : (a b : List (List ℕ)) (v w : Metadata) → IsMetadata a v → IsMetadata b w → flat_map ended a ≡ flat_map ended b → a ≡ b
same_lines a b v w p q e =
    let f = following a b [] (metadata_clean a v p) (metadata_clean b w q) (e ∙ sym (append-nil (flat_map ended b))) in
    f.is ∙ ap (λ l. b ++ l) (no_more f.more f.text) ∙ append-nil b

abbrev line_at : ℕ → List (List ℕ) → List ℕ
line_at n lines = get_or lines n []

same_position : (o p : Option Position) (x y : List (List ℕ)) → IfSome o HasPositionLines → IfSome p HasPositionLines → position_lines o ++ (codes "[files]" ∷ x) ≡ position_lines p ++ (codes "[files]" ∷ y) → (o ≡ p) × (x ≡ y)
same_position None None x y h k e = (refl, ap (drop 1) e)
same_position None (Some p) x y h k e = absurd (omega (arith, ap (λ l. get_or (line_at 0 l) 1 0) e))
same_position (Some o) None x y h k e = absurd (omega (arith, ap (λ l. get_or (line_at 0 l) 1 0) e))
same_position (Some o) (Some p) x y h k e =
    let file : o.file ≡ p.file = ap (λ l. drop 5 (line_at 1 l)) e in
    let offset : o.offset ≡ p.offset = same_decimals o.offset p.offset h.offset_size k.offset_size (ap (λ l. drop 7 (line_at 2 l)) e) in
    let gtid : o.gtid ≡ p.gtid = ap (λ l. drop 5 (line_at 3 l)) e in
    ((λ i. Some (record { file = file i; offset = offset i; gtid = gtid i })), ap (drop 5) e)

same_files : (version : ℕ) (s : List (TableNames × ℕ)) (fs gs : List FileLine) (t : List (List ℕ)) (more : List FileLine) → gs ≡ fs ++ more → table_lines version s ≡ map file_line more ++ t → fs ≡ gs
same_files version s fs gs t [] files e = sym (files ∙ append-nil fs)
same_files version s fs gs t (g ∷ more) files e = absurd (no_tables_line g (end_first version s (file_line g) (map file_line more ++ t) e).1)

pub one_value : (text : List ℕ) (a b : Metadata) → IsMetadataText text a → IsMetadataText text b → a ≡ b
one_value text a b p q =
    let lines : lines_of a p.are.started_text p.are.finished_text p.are.tables ≡ lines_of b q.are.started_text q.are.finished_text q.are.tables =
    sym p.are.are ∙ same_lines p.lines q.lines a b p.are q.are (sym p.is ∙ q.is) ∙ q.are.are in
    let version : a.version ≡ b.version = same_decimals a.version b.version (small a.version p.are.may_be.version) (small b.version q.are.may_be.version) (ap (λ l. drop 8 (line_at 1 l)) lines) in
    let started : a.started ≡ b.started = same_seconds q.are.started_text a.started b.started (subst (λ t. IsTimeText t a.started) (ap (λ l. drop 8 (line_at 2 l)) lines) p.are.started) q.are.started in
    let finished : a.finished ≡ b.finished = same_seconds q.are.finished_text a.finished b.finished (subst (λ t. IsTimeText t a.finished) (ap (λ l. drop 9 (line_at 3 l)) lines) p.are.finished) q.are.finished in
    let rest = same_position a.position b.position (map file_line a.files ++ table_lines a.version p.are.tables) (map file_line b.files ++ table_lines b.version q.are.tables) p.are.may_be.position q.are.may_be.position (ap (drop 4) lines) in
    let on = goes_on a.files b.files (table_lines a.version p.are.tables) (table_lines b.version q.are.tables) (recursion_from_All HasFileLine a.files p.are.may_be.files) (recursion_from_All HasFileLine b.files q.are.may_be.files)
    (λ line more e. (end_first b.version q.are.tables line more e).1) rest.1 in
    let files : a.files ≡ b.files = same_files a.version p.are.tables a.files b.files (table_lines b.version q.are.tables) on.more on.files on.is in
    λ i. record { version = version i; started = started i; finished = finished i; position = rest.0 i; files = files i }
