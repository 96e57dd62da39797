use Rattle.std.proofs.Common.{◌∙◌, ◌+◌, ap, sym, arith, get_or, pos, ℕ}
use Rattle.cronplan.specs.Counts.{added_at}
use Rattle.cronplan.proofs.CountedStarts.{starts_at-more}
use Rattle.cronplan.specs.declared.start.JobStart.{JobStart}
use Rattle.cronplan.proofs.counts.counts_by.Goals as goal

abbrev none : JobStart
none = record { second = pos 0; job = 0; count = 0; wall = pos 0 }

pub add_start-requires : goal.add_start-requires
add_start-requires c = λ q. omega (arith, c.loop-start.invariant.fits q)

pub loop-start-preserved : goal.loop-start-preserved
loop-start-preserved c = record {
  counted = λ q. c.in_ok-add_start.ensures.added q ∙ ap (λ (n : ℕ). n + added_at c.args.unit q (get_or c.args.starts.now c.loop-start.start-index none)) (c.loop-start.invariant.counted q)
      ∙ sym (starts_at-more c.args.unit q c.args.starts.now c.loop-start.start-index none (omega arith));
  fits = λ q. omega (arith, c.loop-start.invariant.fits q, c.in_ok-add_start.ensures.few q);
  no_zero = c.in_ok-add_start.ensures.no_zero c.loop-start.invariant.no_zero;
}
