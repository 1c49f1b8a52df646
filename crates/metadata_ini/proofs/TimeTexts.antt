-- Times: a text is the text of one moment, and which moments are real.
use Rattle.std.proofs.Common.{◌≡◌, ◌≢◌, ℕ, ◌+◌, ◌*◌, ◌/◌, ◌%◌, ◌<◌, ◌≤◌, List, length, get_or, sym, ◌∙◌, ap, subst, arith, pos, ℤ, slice_index}
use Rattle.std.proofs.lemmas.Bool.Decides.{nat_tests}
use Rattle.jiff_core.specs.Calendar.{days_in_month}
use Rattle.folder_forms.specs.Metadata.{IsMoment, IsTimeText, moment_text}
use Rattle.folder_forms.specs.declared.moment.Moment.{Moment}
use Rattle.metadata_ini.specs.Time.{digit_value, pair_value, moment_in, IsMomentAt, IsNoTime}

digit_read : (d : ℕ) → d ≤ 9 → digit_value (d + 48) ≡ d
digit_read d low = grind (arith, nat_tests)

pair_read : (text : List ℕ) (at n : ℕ) → n < 100 → slice_index text at ≡ n / 10 + 48 → slice_index text (at + 1) ≡ n % 10 + 48 → pair_value text at ≡ n
pair_read text at n low tens ones =
    let h : digit_value (slice_index text at) ≡ n / 10 = ap digit_value tens ∙ digit_read (n / 10) (omega arith) in
    let l : digit_value (slice_index text (at + 1)) ≡ n % 10 = ap digit_value ones ∙ digit_read (n % 10) (omega arith) in
    omega (arith, h, l)

short_month : (y : ℤ) (m : ℕ) → days_in_month y m ≤ 31
short_month y m = grind (arith, nat_tests)

-- The moment in a text of a moment is that moment.
pub moment_read : (text : List ℕ) (m : Moment) → IsMoment m → text ≡ moment_text m → moment_in text ≡ m
moment_read text m real is =
    let day : m.day < 100 = omega (arith, short_month (pos m.year) m.month, real.date) in
    let month : m.month < 100 = omega (arith, real.date) in
    let years = real.years in
    let high = pair_read text 0 (m.year / 100) (omega arith) (ap (λ l. get_or l 0 0) is) (ap (λ l. get_or l 1 0) is) in
    let low = pair_read text 2 (m.year % 100) (omega arith) (ap (λ l. get_or l 2 0) is) (ap (λ l. get_or l 3 0) is) in
    let year : pair_value text 0 * 100 + pair_value text 2 ≡ m.year = omega (arith, high, low) in
    let months = pair_read text 5 m.month month (ap (λ l. get_or l 5 0) is) (ap (λ l. get_or l 6 0) is) in
    let days = pair_read text 8 m.day day (ap (λ l. get_or l 8 0) is) (ap (λ l. get_or l 9 0) is) in
    let hours = pair_read text 11 m.hour (omega (arith, real.hours)) (ap (λ l. get_or l 11 0) is) (ap (λ l. get_or l 12 0) is) in
    let minutes = pair_read text 14 m.minute (omega (arith, real.minutes)) (ap (λ l. get_or l 14 0) is) (ap (λ l. get_or l 15 0) is) in
    let seconds = pair_read text 17 m.second (omega (arith, real.seconds)) (ap (λ l. get_or l 17 0) is) (ap (λ l. get_or l 18 0) is) in
    λ i. record { year = year i; month = months i; day = days i; hour = hours i; minute = minutes i; second = seconds i }

pub no_moment : (text : List ℕ) → ¬ IsMoment (moment_in text) → IsNoTime text
no_moment text none seconds time = none (subst IsMoment (sym (moment_read text time.moment time.real time.is)) time.real)

pub other_text : (text : List ℕ) → text ≢ moment_text (moment_in text) → IsNoTime text
other_text text other seconds time = other (time.is ∙ ap moment_text (sym (moment_read text time.moment time.real time.is)))

pub other_length : (text : List ℕ) → length text ≢ 20 → IsNoTime text
other_length text other seconds time = other (ap length time.is)

pub time_read : (text : List ℕ) (m : Moment) (seconds : ℕ) → IsMomentAt m seconds → text ≡ moment_text m → IsTimeText text seconds
time_read text m seconds at is = record { moment = m; is = is; real = at.real; value = at.value }
