use Rattle.std.proofs.Common.{◌<◌, length, unwrap_or, arith, ℤ}
use Rattle.std.specs.BTreeMap.{get}
use Rattle.std.specs.Ordering.{int_cmp}
use Rattle.croncheck_often.proofs.CountedRuns.{counted-step, most-step}
use Rattle.croncheck_often.proofs.often.most_a_day.Goals as goal

pub add_run-requires : goal.add_run-requires
add_run-requires c = λ date. omega (arith, c.loop-run.invariant.fits date)

pub loop-run-preserved : goal.loop-run-preserved
loop-run-preserved c =
    let runs = c.args.runs.now in
    let i = c.loop-run.run-index in
    let run = c.run-item.result in
    let inside : i < length runs = omega arith in
    record {
      counted = λ date. counted-step date runs i run _ _ inside c.run-item.is (c.in_ok-count.ensures.added date) (c.loop-run.invariant.counted date);
      fits = λ date. omega (arith, c.loop-run.invariant.fits date, c.in_ok-count.ensures.few date);
      most = most-step runs i run (λ (date : ℤ). unwrap_or (get int_cmp c.loop-run.counts date) 0) (λ (date : ℤ). unwrap_or (get int_cmp c.add_run.new.counts date) 0)
          c.loop-run.most c.in_ok-count.count c.greater_of-most.result inside c.run-item.is c.in_ok-count.ensures.added c.loop-run.invariant.counted
          c.in_ok-count.ensures.count c.greater_of-most.ensures c.loop-run.invariant.most;
    }
