-- Days of the years 1970 to 9998.
use Rattle.std.proofs.Common.{◌≡◌, ℕ, ◌+◌, ◌*◌, ◌/◌, ◌%◌, ◌<◌, ◌≤◌, refl, sym, ◌∙◌, ap, arith, pos, ℤ, ◌+ℤ◌, ◌*ℤ◌, ◌≤ℤ◌, ◌<ℤ◌}
use Rattle.jiff_core.proofs.CalendarLemmas.{day_count-epoch, days_from_civil-day_count, day_count-day_of_year, day_count-later_year, day_count-lt_year, day_count-next_year, day_count-end}
use Rattle.std.proofs.lemmas.Int.{by_lt_z, ints}
use Rattle.jiff_core.specs.Calendar.{IsCivilDate, days_from_civil, day_count}
use Rattle.folder_forms.specs.Metadata.{IsMoment, moment_seconds, year_9999}
use Rattle.folder_forms.specs.declared.moment.Moment.{Moment}

-- the first day of the year 9999
day_9999 : day_count (pos 9999) 1 1 ≡ 7304485
day_9999 = omega (arith, day_count-end, day_count-next_year (pos 9999) (pos 10000) (omega (arith, ints)) refl)

day_from : (y : ℤ) (m d : ℕ) → IsCivilDate y m d → pos 1970 ≤ℤ y → 4371953 ≤ day_count y m d
day_from y m d civil from =
    let first = day_count-day_of_year y m d civil.2.0 in
    by_lt_z (pos 1970) y
    (λ lt. omega (arith, first, civil.2.0, day_count-epoch, day_count-later_year (pos 1970) y (omega (arith, ints)) lt))
    (λ le. let e : pos 1970 ≡ y = omega (arith, ints) in
    let there : day_count y 1 1 ≡ 4371953 = ap (λ x. day_count x 1 1) (sym e) ∙ day_count-epoch in
    omega (arith, first, civil.2.0, there))

day_to : (y : ℤ) (m d : ℕ) → IsCivilDate y m d → y ≤ℤ pos 9998 → day_count y m d < 7304485
day_to y m d civil to = omega (arith, day_9999, day_count-lt_year y m d (pos 9999) 1 1 civil (omega arith) (omega (arith, ints)))

year_from : (y : ℤ) (m d : ℕ) → IsCivilDate y m d → 4371953 ≤ day_count y m d → pos 1970 ≤ℤ y
year_from y m d civil from =
    by_lt_z y (pos 1970)
    (λ lt. absurd (omega (arith, day_count-epoch, day_count-lt_year y m d (pos 1970) 1 1 civil (omega arith) lt)))
    (λ le. le)

year_to : (y : ℤ) (m d : ℕ) → IsCivilDate y m d → day_count y m d < 7304485 → y ≤ℤ pos 9998
year_to y m d civil to =
    by_lt_z (pos 9998) y
    (λ lt. let e : y ≡ pos 9999 = omega (arith, ints, civil.0) in
    let there : day_count y 1 1 ≡ 7304485 = ap (λ x. day_count x 1 1) e ∙ day_9999 in
    absurd (omega (arith, there, day_count-day_of_year y m d civil.2.0, civil.2.0)))
    (λ le. le)

pub epoch_from : (y : ℤ) (m d : ℕ) → IsCivilDate y m d → pos 1970 ≤ℤ y → pos 0 ≤ℤ days_from_civil y m d
epoch_from y m d civil from = omega (arith, ints, days_from_civil-day_count y m d, day_from y m d civil from)

pub epoch_to : (y : ℤ) (m d : ℕ) → IsCivilDate y m d → y ≤ℤ pos 9998 → days_from_civil y m d <ℤ pos 2932532
epoch_to y m d civil to = omega (arith, ints, days_from_civil-day_count y m d, day_to y m d civil to)

pub years_of_day : (y : ℤ) (m d : ℕ) → IsCivilDate y m d → pos 0 ≤ℤ days_from_civil y m d → days_from_civil y m d <ℤ pos 2932532
    → (pos 1970 ≤ℤ y) × (y ≤ℤ pos 9998)
years_of_day y m d civil from to =
    (year_from y m d civil (omega (arith, ints, days_from_civil-day_count y m d)), year_to y m d civil (omega (arith, ints, days_from_civil-day_count y m d)))

-- The moments of the years up to 9998 are before the year 9999.
pub before_9999 : (m : Moment) (seconds : ℕ) → IsMoment m → pos seconds ≡ moment_seconds m → seconds < year_9999
before_9999 m seconds real value =
    let days = epoch_to (pos m.year) m.month m.day real.date (omega (arith, ints, real.years)) in
    omega (arith, ints, days, real.hours, real.minutes, real.seconds, value)

pub moment_value : (days : ℤ) (seconds : ℕ) → days ≡ pos (seconds / 86400)
    → pos seconds ≡ days *ℤ pos 86400 +ℤ pos (seconds % 86400 / 3600 * 3600 + seconds % 86400 / 60 % 60 * 60 + seconds % 86400 % 60)
moment_value days seconds is = omega (arith, ints, is)
