use Rattle.std.proofs.Common.{true}
use Rattle.croner.specs.search.PatternJob.{timetable_of}
use Rattle.croner.specs.Views.{job_of}
use Rattle.croner_backends.specs.BoxedMoment.{boxed_moment}
use Rattle.croner_backends.proofs.BackendsCalm.{boxed_starts_calm, boxed_searchable}
use Rattle.croner_backends.proofs.Promised.{found_nearest, limit_means, limit_or_memory}
use Rattle.croner_backends.proofs.laws.searches.nearest_boxed_run.Goals as goal

pub returns-clause-nearest : goal.returns-clause-nearest
returns-clause-nearest c =
    let r = c.found_or_refused in
    let s = c.args.start.now in
    found_nearest boxed_moment c.args.direction c.args.inclusive (timetable_of (job_of c.args.job.now)) (boxed_moment s) r.result r.ensures.found (boxed_starts_calm s)

pub returns-clause-limit : goal.returns-clause-limit
returns-clause-limit c =
    let r = c.found_or_refused in
    let s = c.args.start.now in
    limit_means boxed_moment c.args.direction c.args.inclusive (timetable_of (job_of c.args.job.now)) (boxed_moment s) true r.result r.ensures.refused (boxed_starts_calm s)

pub returns-clause-held : goal.returns-clause-held
returns-clause-held c =
    λ start.
    let r = c.found_or_refused in
    let s = c.args.start.now in
    limit_or_memory boxed_moment c.args.direction c.args.inclusive (timetable_of (job_of c.args.job.now)) (boxed_moment s) true r.result r.ensures.refused (boxed_searchable s start)
