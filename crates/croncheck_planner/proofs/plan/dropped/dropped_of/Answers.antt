use Rattle.std.proofs.Common.{◌≡◌, ◌<◌, length, rules}
use Rattle.croncheck_report.specs.Settings.{start_of}
use Rattle.croncheck_planner.proofs.DroppedJobs.{all_jobs, next_job, none_looked_at}
use Rattle.croncheck_planner.proofs.plan.dropped.dropped_of.Goals as goal

pub loop-place-init : goal.loop-place-init
loop-place-init c = none_looked_at (start_of c.args.settings.now) c.args.jobs.now c.new-dropped.result.items (search rules)

pub loop-place-preserved : goal.loop-place-preserved
loop-place-preserved c =
    let within : c.loop-place.place < length c.args.jobs.now = search rules in
    next_job (start_of c.args.settings.now) c.args.jobs.now c.loop-place.place c.loop-place.dropped.items c.loop-place.invariant c.push_dropped.new.dropped.items
    c.index-jobs-place.result within c.index-jobs-place.is c.in_ok-push_dropped.ensures

pub returns : goal.returns
returns c =
    let all : length c.args.jobs.now ≡ c.loop-place.place = search rules in
    all_jobs (start_of c.args.settings.now) c.args.jobs.now c.loop-place.place c.loop-place.dropped.items c.loop-place.invariant all
