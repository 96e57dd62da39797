use Rattle.std.proofs.Common.{ℕ, ℤ, pos, ◌+ℤ◌, length, arith}
use Rattle.std.proofs.lemmas.Int.{ints}
use Rattle.cronplan.proofs.DayCells.{each_more}
use Rattle.cronplan_forms.specs.declared.month.MonthDay.{MonthDay}
use Rattle.cronplan_forms.specs.PlanMonths.{IsMonthDay, first_of}
use Rattle.cronplan_forms.proofs.MonthGrids.{day_at}
use Rattle.cronplan_forms.proofs.month.of_plan.days_of.Goals as goal

pub loop-place-preserved : goal.loop-place-preserved
loop-place-preserved c =
    let dates = c.args.told.dates in
    let titles = c.args.told.titles.now in
    let first : ℤ = first_of c.args.month.number in
    let rows = c.loop-place.invariant in
    let bound = c.first_date-first.ensures.bound in
    let day : IsMonthDay dates titles (first +ℤ pos (length c.loop-place.days.items)) c.day_on.result =
    day_at dates titles _ (first +ℤ pos (length c.loop-place.days.items)) c.day_on.result c.day_on.ensures
    (omega (arith, ints, c.first_date-first.ensures.value, bound.low, bound.high, rows.count_is, c.from.ensures, c.days-place-end.ensures.few, c.loop-place-test.true)) in
    record {
      count_is = omega (arith, rows.count_is, c.in_ok-push.ensures.len);
      each = each_more (λ (k : ℕ) (d : MonthDay). IsMonthDay dates titles (first +ℤ pos k) d) c.loop-place.days.items c.push.new.self.items c.day_on.result c.in_ok-push.ensures.items rows.each day;
    }
