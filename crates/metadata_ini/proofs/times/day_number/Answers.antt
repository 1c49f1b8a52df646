use Rattle.std.proofs.Common.{arith, ◌≡◌, pos, subst, ◌∙◌, ◌≤ℤ◌, FitsSigned, w32}
use Rattle.std.proofs.lemmas.Int.{ints, to_z-of_z}
use Rattle.jiff_core.proofs.DateLemmas.{civil}
use Rattle.jiff_core.specs.Calendar.{IsCivilDate, days_from_civil}
use Rattle.std.specs.Prelude.{unsigned_abs}
use Rattle.metadata_ini.proofs.Days.{epoch_from}
use Rattle.metadata_ini.proofs.times.day_number.Goals as goal

from_1970 : (c : goal.After-to_unix_epoch_day) → pos 0 ≤ℤ c.to_unix_epoch_day.result
from_1970 c =
    let d = c.in-Ok.date in
    let y : pos 1970 ≤ℤ d.year = omega (arith, ints, c.in-Ok.ensures.value.0) in
    let from = epoch_from d.year d.month d.day (civil d) y in
    omega (arith, ints, from, c.to_unix_epoch_day.ensures.value)

pub overflow_cast-result : goal.overflow_cast-result
overflow_cast-result c =
    let from = from_1970 c in
    let fits : FitsSigned w32 c.to_unix_epoch_day.result = omega (arith, ints, c.to_unix_epoch_day.ensures.bound) in
    rw to_z-of_z (omega (arith, ints), omega (arith, ints))

pub returns : goal.returns
returns c =
    let from = from_1970 c in
    let fits : FitsSigned w32 c.to_unix_epoch_day.result = omega (arith, ints, c.to_unix_epoch_day.ensures.bound) in
    let d = c.in-Ok.date in
    let y : d.year ≡ pos c.args.year = omega (arith, ints, c.in-Ok.ensures.value.0) in
    let m : d.month ≡ c.args.month = omega (arith, ints, c.in-Ok.ensures.value.1) in
    let n : d.day ≡ c.args.day = omega (arith, ints, c.in-Ok.ensures.value.2) in
    rw to_z-of_z (record {
      date = subst (λ x. IsCivilDate x c.args.month c.args.day) y (subst (λ x. IsCivilDate d.year x c.args.day) m (subst (λ x. IsCivilDate d.year d.month x) n (civil d)));
      years = (omega arith, omega arith);
      value = let abs : pos (unsigned_abs c.to_unix_epoch_day.result) ≡ c.to_unix_epoch_day.result = omega (arith, ints) in
          abs ∙ c.to_unix_epoch_day.ensures.value ∙ (λ i. days_from_civil (y i) (m i) (n i));
    })
