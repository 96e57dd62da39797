use Rattle.std.proofs.Common.{◌≡◌, ◌∙◌, pos, ◌+ℤ◌, arith, unsigned_abs, FitsSigned, w64}
use Rattle.std.proofs.lemmas.Int.{ints, to_z-of_z}
use mir.Syntax.{w128}
use Rattle.cronplan_forms.proofs.DateSteps.{weekday_is}
use Rattle.cronplan_forms.proofs.date_name.weekday_of.Goals as goal

pub returns : goal.returns
returns c =
    let r = c.rem_euclid-days.result in
    let from : c.from.result ≡ c.args.date = c.from.ensures ∙ to_z-of_z w64 c.args.date c.ranges.date in
    let low = c.rem_euclid-days.ensures.lower_bound in
    let high = c.rem_euclid-days.ensures.upper_bound in
    let fits : FitsSigned w128 c.from.result = omega (arith, ints, from, c.ranges.date) in
    let sum_fits : FitsSigned w128 (c.from.result +ℤ pos 4) = omega (arith, ints, from, c.ranges.date) in
    let left_fits : FitsSigned w128 r = omega (arith, ints, low, high) in
    let value = rw (to_z-of_z w128 c.from.result fits, to_z-of_z w128 (c.from.result +ℤ pos 4) sum_fits, from) at c.rem_euclid-days.ensures.value in
    let days = rw (to_z-of_z w128 r left_fits) at c.from_days_from_sunday.ensures in
    days ∙ weekday_is c.args.date r (unsigned_abs r) value (omega (arith, ints, low)) (omega (arith, ints, low, high))
