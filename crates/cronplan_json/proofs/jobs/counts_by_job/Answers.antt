use Rattle.std.proofs.Common.{◌∙◌, ◌+◌, ap, sym, arith, get_or, ℕ}
use Rattle.cronplan.proofs.MomentStarts.{none_start}
use Rattle.cronplan_json.specs.Objects.{added_of}
use Rattle.cronplan_json.proofs.PlacedJobs.{starts_of-more}
use Rattle.cronplan_json.proofs.jobs.counts_by_job.Goals as goal

pub add_start-requires : goal.add_start-requires
add_start-requires c = λ place. omega (arith, c.loop-start.invariant.fits place)

pub loop-start-preserved : goal.loop-start-preserved
loop-start-preserved c = record {
  counted = λ place. c.in_ok-add_start.ensures.added place ∙ ap (λ (n : ℕ). n + added_of place (get_or c.args.starts.now c.loop-start.start-index none_start)) (c.loop-start.invariant.counted place)
      ∙ sym (starts_of-more place c.args.starts.now c.loop-start.start-index none_start (omega arith));
  fits = λ place. omega (arith, c.loop-start.invariant.fits place, c.in_ok-add_start.ensures.few place);
}
