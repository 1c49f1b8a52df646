-- Times, as they are read.
use Rattle.std.specs.Prelude.{◌≡◌, ℕ, ◌+◌, ◌-◌, ◌*◌, ◌≤◌, ◌&&◌, ◌++◌, nat_le, if◌then◌else◌, List, slice_index, pos}
use Rattle.jiff_core.specs.Calendar.{IsCivilDate, days_from_civil}
use Rattle.folder_forms.specs.Metadata.{IsMoment, IsTimeText, moment_seconds}
use Rattle.folder_forms.specs.declared.moment.Moment.{Moment}

-- the value of a digit, and 10 for what is none
abbrev pub digit_value : ℕ → ℕ
digit_value byte = if nat_le 48 byte && nat_le byte 57 then byte - 48 else 10

-- the value of the two digits that stand there
abbrev pub pair_value : List ℕ → ℕ → ℕ
pair_value text at =
    digit_value (slice_index text at) * 10 + digit_value (slice_index text (at + 1))

-- the moment whose text this is, if it is the text of one
abbrev pub moment_in : List ℕ → Moment
moment_in text = record {
  year = pair_value text 0 * 100 + pair_value text 2;
  month = pair_value text 5;
  day = pair_value text 8;
  hour = pair_value text 11;
  minute = pair_value text 14;
  second = pair_value text 17;
}

-- a date of the years 1970 to 9998, and how many days after the first of them it is
pub record IsDay (year month day : ℕ) (number : ℕ) : Type 0 where
  pub date : IsCivilDate (pos year) month day
  pub years : (1970 ≤ year) × (year ≤ 9998)
  pub value : pos number ≡ days_from_civil (pos year) month day

-- there is no such date
abbrev pub IsNoDay : ℕ → ℕ → ℕ → Type 0
IsNoDay year month day = IsCivilDate (pos year) month day → 1970 ≤ year → year ≤ 9998 → ⊥

-- a moment is real, and so many seconds after 1970 began
pub record IsMomentAt (moment : Moment) (seconds : ℕ) : Type 0 where
  pub real : IsMoment moment
  pub value : pos seconds ≡ moment_seconds moment

-- a time was appended
pub record AppendsTime (old new : List ℕ) (seconds : ℕ) : Type 0 where
  pub text : List ℕ
  pub is : new ≡ old ++ text
  pub time : IsTimeText text seconds

-- the text is no time
abbrev pub IsNoTime : List ℕ → Type 0
IsNoTime text = (seconds : ℕ) → ¬ IsTimeText text seconds
