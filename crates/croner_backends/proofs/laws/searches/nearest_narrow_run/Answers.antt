use Rattle.std.proofs.Common.{false}
use Rattle.croner_base.specs.TableZone.{table_zone}
use Rattle.croner.specs.search.PatternJob.{timetable_of}
use Rattle.croner.specs.Views.{job_of}
use Rattle.croner_backends.specs.NarrowMoment.{narrow_moment}
use Rattle.croner_backends.proofs.BackendsCalm.{narrow_starts_calm}
use Rattle.croner_backends.proofs.Promised.{found_nearest, limit_means, limit_or_memory, nearest_shown, limit_shown}
use Rattle.croner_backends.proofs.laws.searches.nearest_narrow_run.Goals as goal

pub returns-clause-nearest : goal.returns-clause-nearest
returns-clause-nearest c =
    let r = c.found_or_refused in
    let s = c.args.start.now in
    let asked = timetable_of (job_of c.args.job.now) in
    let found = found_nearest narrow_moment c.args.direction c.args.inclusive asked (narrow_moment s) r.result r.ensures.found (narrow_starts_calm s) in
    nearest_shown c.args.inclusive asked (table_zone s.time.table.now) s.low s.high s.time.second narrow_moment c.args.direction r.result found

pub returns-clause-limit : goal.returns-clause-limit
returns-clause-limit c =
    let r = c.found_or_refused in
    let s = c.args.start.now in
    let asked = timetable_of (job_of c.args.job.now) in
    let means = limit_means narrow_moment c.args.direction c.args.inclusive asked (narrow_moment s) false r.result r.ensures.refused (narrow_starts_calm s) in
    limit_shown c.args.inclusive asked (table_zone s.time.table.now) s.low s.high s.time.second c.args.direction r.result means

pub returns-clause-held : goal.returns-clause-held
returns-clause-held c =
    λ held.
    let r = c.found_or_refused in
    let s = c.args.start.now in
    limit_or_memory narrow_moment c.args.direction c.args.inclusive (timetable_of (job_of c.args.job.now)) (narrow_moment s) false r.result r.ensures.refused held
