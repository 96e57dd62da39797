use Rattle.std.proofs.Common.{◌≡◌, ◌∙◌, ◌+◌, ap, sym, arith, get_or, pos, ℕ, take, refl, unwrap_or}
use Rattle.std.specs.BTreeMap.{get}
use Rattle.std.specs.Ordering.{int_cmp}
use Rattle.cronplan.specs.declared.counts.Unit.TheVariants as units
use Rattle.cronplan.specs.Counts.{key_of, starts_at, added_at}
use Rattle.cronplan.proofs.CountedStarts.{starts_at-more, starts_at-first, few-more}
use Rattle.cronplan.specs.declared.start.JobStart.{JobStart}
use Rattle.cronplan.proofs.counts.is_frequent.Goals as goal

abbrev none : JobStart
none = record { second = pos 0; job = 0; count = 0; wall = pos 0 }

pub add_start-requires : goal.add_start-requires
add_start-requires c = λ q. omega (arith, c.loop-start.invariant.fits q)

pub returns-then-branch-most_a_day : goal.returns-then-branch-most_a_day
returns-then-branch-most_a_day c =
    let day = key_of units.Day (get_or c.args.starts.now c.loop-start.start-index none) in
    let counted : unwrap_or (get int_cmp c.add_start.new.counts day) 0 ≡ starts_at units.Day day (take (c.loop-start.start-index + 1) c.args.starts.now) =
    c.in_ok-add_start.ensures.added day ∙ ap (λ (n : ℕ). n + added_at units.Day day (get_or c.args.starts.now c.loop-start.start-index none)) (c.loop-start.invariant.counted day)
    ∙ sym (starts_at-more units.Day day c.args.starts.now c.loop-start.start-index none (omega arith)) in
    ((λ _. (day, omega (arith, counted, c.in_ok-add_start.ensures.count, starts_at-first units.Day day c.args.starts.now (c.loop-start.start-index + 1)))), (λ _. refl))

pub loop-start-preserved : goal.loop-start-preserved
loop-start-preserved c = record {
  counted = λ q. c.in_ok-add_start.ensures.added q ∙ ap (λ (n : ℕ). n + added_at units.Day q (get_or c.args.starts.now c.loop-start.start-index none)) (c.loop-start.invariant.counted q)
      ∙ sym (starts_at-more units.Day q c.args.starts.now c.loop-start.start-index none (omega arith));
  fits = λ q. omega (arith, c.loop-start.invariant.fits q, c.in_ok-add_start.ensures.few q);
  few = λ q. few-more c.loop-start.counts c.add_start.new.counts units.Day c.args.most_a_day (get_or c.args.starts.now c.loop-start.start-index none) c.in_ok-add_start.field-0
      c.loop-start.invariant.few c.in_ok-add_start.ensures.added c.in_ok-add_start.ensures.count c.if-branch-most_a_day.false q;
}
