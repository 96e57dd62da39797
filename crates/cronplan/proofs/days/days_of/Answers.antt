use Rattle.std.proofs.Common.{◌≡◌, ◌∙◌, ◌<◌, ◌+ℤ◌, subst, rules, ℕ, ℤ, pos, List, length, w64, to_z, of_z, FitsSigned}
use Rattle.std.specs.Prelude.{slice_index_or}
use Rattle.std.proofs.lemmas.Int.{to_z-of_z}
use Rattle.croner_base.specs.TableZone.{table_zone}
use Rattle.croner_base.specs.Zone.{Zone}
use Rattle.cronplan.specs.declared.days.Day.{Day}
use Rattle.cronplan.specs.declared.days.ShownHours.{ShownHours}
use Rattle.cronplan.specs.declared.start.JobStart.{JobStart}
use Rattle.cronplan.specs.Days.{IsDay, first_date, last_date, dates_between}
use Rattle.cronplan.specs.Private.CountedPlan.{AreRows}
use Rattle.cronplan.proofs.days.days_of.Goals as goal

pub returns : goal.returns
returns c =
    let z : Zone = table_zone c.args.table.now in
    let span = c.args.span in
    let starts : List JobStart = c.args.starts.now in
    let counted = c.in_ok-counted.counted in
    let days = c.in_ok-days.days.items in
    let first : ℤ = c.first_date-first.result in
    let last : ℤ = c.last_date-last.result in
    let first_fits : FitsSigned w64 first = search rules in
    let last_fits : FitsSigned w64 last = search rules in
    let first_is : to_z w64 (of_z w64 first) ≡ first_date z span starts = to_z-of_z w64 first first_fits ∙ c.first_date-first.ensures.date in
    let last_is : to_z w64 (of_z w64 last) ≡ last_date z span starts = to_z-of_z w64 last last_fits ∙ c.last_date-last.ensures.date in
    let rows : AreRows starts counted (first_date z span starts) (dates_between (first_date z span starts) (last_date z span starts)) days =
    subst (λ (i : ℤ). AreRows starts counted (first_date z span starts) (dates_between (first_date z span starts) i) days) last_is
    (subst (λ (i : ℤ). AreRows starts counted i (dates_between i (to_z w64 (of_z w64 last))) days) first_is (c.in_ok-days.ensures starts c.in_ok-counted.ensures.counted)) in
    record {
      changes_are = c.in_ok-counted.ensures.changes;
      moments = counted.moments.items;
      are_moments = c.in_ok-counted.ensures.counted.are_moments;
      count = rows.count_is;
      each = subst (λ (shown : ShownHours). (k : ℕ) (d : Day) → k < length days
          → IsDay starts counted.moments.items counted.changes.items shown (first_date z span starts +ℤ pos k) (slice_index_or days k d))
          c.in_ok-counted.ensures.shown rows.each;
    }
