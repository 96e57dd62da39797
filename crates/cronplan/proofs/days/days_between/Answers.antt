use Rattle.std.proofs.Common.{◌≡◌, ◌∙◌, ◌+ℤ◌, ◌<◌, ◌≤ℤ◌, ℕ, ℤ, pos, ap, subst, arith, length, w64, to_z, of_z}
use Rattle.std.proofs.lemmas.Int.{ints, to_z-of_z}
use Rattle.cronplan.specs.declared.days.Day.{Day}
use Rattle.cronplan.specs.Days.{IsDay, dates_between}
use Rattle.cronplan.specs.Private.CountedPlan.{AreRows}
use Rattle.cronplan.proofs.DayCells.{each_more, within_dates, number_within}
use Rattle.cronplan.proofs.days.days_between.Goals as goal

pub day_on-requires : goal.day_on-requires
day_on-requires c =
    let first : ℤ = c.args.first in
    let last : ℤ = c.args.last in
    let same : to_z w64 (of_z w64 first) ≡ first = to_z-of_z w64 first c.ranges.first in
    let count : c.date_count-place-end.result ≡ dates_between first last =
    c.date_count-place-end.ensures ∙ ap (λ (i : ℤ). dates_between i (to_z w64 (of_z w64 last))) same ∙ ap (dates_between first) (to_z-of_z w64 last c.ranges.last) in
    let inside : c.loop-place.place < dates_between first last = omega (arith, count, c.loop-place-test.true) in
    let le : (first +ℤ pos c.loop-place.place) ≤ℤ last = within_dates first last c.loop-place.place inside in
    number_within first last c.loop-place.place _ c.requires.first c.requires.last le (omega (arith, ints, le, c.requires.first.low, c.requires.last.high))

pub loop-place-preserved : goal.loop-place-preserved
loop-place-preserved c = λ starts counted.
    let first : ℤ = to_z w64 (of_z w64 c.args.first) in
    let last : ℤ = c.args.last in
    let same : first ≡ c.args.first = to_z-of_z w64 c.args.first c.ranges.first in
    let count : c.date_count-place-end.result ≡ dates_between c.args.first last =
    c.date_count-place-end.ensures ∙ ap (λ (i : ℤ). dates_between i (to_z w64 (of_z w64 last))) same ∙ ap (dates_between c.args.first) (to_z-of_z w64 last c.ranges.last) in
    let inside : c.loop-place.place < dates_between c.args.first last = omega (arith, count, c.loop-place-test.true) in
    let le : (c.args.first +ℤ pos c.loop-place.place) ≤ℤ last = within_dates c.args.first last c.loop-place.place inside in
    let rows = c.loop-place.invariant starts counted in
    let date : to_z w64 (of_z w64 (first +ℤ to_z w64 c.loop-place.place)) ≡ first +ℤ pos (length c.loop-place.days.items) =
    omega (arith, ints, same, le, rows.count_is, c.requires.first.low, c.requires.last.high) in
    let moments = c.args.counted.now.moments.items in
    let changes = c.args.counted.now.changes.items in
    let shown = c.args.counted.now.shown in
    record {
      count_is = omega (arith, rows.count_is, c.in_ok-push.ensures.len);
      each = each_more (λ (k : ℕ) (day : Day). IsDay starts moments changes shown (first +ℤ pos k) day) c.loop-place.days.items c.push.new.self.items c.in_ok-day.day
          c.in_ok-push.ensures.items rows.each (subst (λ (i : ℤ). IsDay starts moments changes shown i c.in_ok-day.day) date (c.in_ok-day.ensures starts counted));
    }

pub returns : goal.returns
returns c = λ starts counted.
    let first : ℤ = c.args.first in
    let last : ℤ = c.args.last in
    let same : to_z w64 (of_z w64 first) ≡ first = to_z-of_z w64 first c.ranges.first in
    let count : c.date_count-place-end.result ≡ dates_between first last =
    c.date_count-place-end.ensures ∙ ap (λ (i : ℤ). dates_between i (to_z w64 (of_z w64 last))) same ∙ ap (dates_between first) (to_z-of_z w64 last c.ranges.last) in
    let all : c.loop-place.place ≡ dates_between first last = omega (arith, count, c.loop-place-test.false, c.loop-place.auto.place-end) in
    subst (λ (n : ℕ). AreRows starts c.args.counted.now first n c.loop-place.days.items) all
    (subst (λ (i : ℤ). AreRows starts c.args.counted.now i c.loop-place.place c.loop-place.days.items) same (c.loop-place.invariant starts counted))
