use Rattle.std.proofs.Common.{◌≡◌, ◌∙◌, ap, subst, w64, to_z, of_z, ℤ}
use Rattle.std.proofs.lemmas.Int.{to_z-of_z}
use Rattle.cronplan.specs.declared.counts.Unit.TheVariants as units
use Rattle.cronplan.specs.Counts.{starts_at}
use Rattle.cronplan.specs.Days.{AreHours, fullest_on}
use Rattle.cronplan.proofs.days.day_on.Goals as goal

pub returns : goal.returns
returns c = λ starts counted.
    let date : ℤ = c.args.date in
    let same : to_z w64 (of_z w64 date) ≡ date = to_z-of_z w64 date c.ranges.date in
    record {
      date_is = same;
      hours_are = subst (λ (i : ℤ). AreHours starts c.args.counted.now.changes.items c.args.counted.now.shown i c.in_ok-hours.hours.items) same (c.in_ok-hours.ensures starts counted);
      starts_are = c.starts_on-starts.ensures starts counted ∙ ap (λ (i : ℤ). starts_at units.Day i starts) same;
      fullest_is = c.fullest_on-fullest.ensures ∙ ap (λ (i : ℤ). fullest_on i c.as_slice.result.now) same ∙ ap (fullest_on date) c.as_slice.ensures.value;
    }
