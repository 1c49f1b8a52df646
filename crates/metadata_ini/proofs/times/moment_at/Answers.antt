use Rattle.std.proofs.Common.{arith, ◌≡◌, ◌/◌, pos, sym, subst, ap, ◌∙◌, ◌≤ℤ◌, ◌<ℤ◌, FitsSigned}
use Rattle.std.proofs.lemmas.Int.{ints, to_z-of_z}
use mir.Syntax.{w16}
use Rattle.std.specs.Prelude.{unsigned_abs}
use Rattle.jiff_core.proofs.DateLemmas.{civil}
use Rattle.jiff_core.specs.Calendar.{IsCivilDate, days_from_civil}
use Rattle.jiff_core.specs.Date.{epoch_day}
use Rattle.metadata_ini.proofs.Days.{years_of_day, moment_value}
use Rattle.metadata_ini.proofs.times.moment_at.Goals as goal

years : (c : goal.After-struct_told-1) → (pos 1970 ≤ℤ c.in-Ok.date.year) × (c.in-Ok.date.year ≤ℤ pos 9998)
years c =
    let d = c.in-Ok.date in
    let from : pos 0 ≤ℤ epoch_day d = omega (arith, ints, c.in-Ok.ensures.value) in
    let to : epoch_day d <ℤ pos 2932532 = omega (arith, ints, c.in-Ok.ensures.value) in
    years_of_day d.year d.month d.day (civil d) from to

pub overflow_cast-result : goal.overflow_cast-result
overflow_cast-result c =
    let there = years c in
    let fits : FitsSigned w16 c.in-Ok.date.year = omega (arith, ints, there) in
    rw to_z-of_z (omega (arith, ints, there), omega (arith, ints, there))

pub returns : goal.returns
returns c =
    let d = c.in-Ok.date in
    let there = years c in
    let fits : FitsSigned w16 d.year = omega (arith, ints, there) in
    let y : d.year ≡ pos (unsigned_abs d.year) = omega (arith, ints, there) in
    let e : epoch_day d ≡ pos (c.args.seconds / 86400) = omega (arith, ints, c.in-Ok.ensures.value) in
    rw to_z-of_z (record {
      real = record {
        date = subst (λ x. IsCivilDate x d.month d.day) y (civil d);
        years = (omega (arith, ints, there), omega (arith, ints, there));
        hours = omega arith;
        minutes = omega arith;
        seconds = omega arith;
      };
      value = moment_value _ c.args.seconds (sym (ap (λ x. days_from_civil x d.month d.day) y) ∙ e);
    })
