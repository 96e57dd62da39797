use Rattle.std.proofs.Common.{subst}
use Rattle.croner.specs.search.Limit.{NoneInSpan}
use Rattle.croner.specs.search.PatternJob.{timetable_of}
use Rattle.croner.specs.search.Runs.{job_in, Nearest}
use Rattle.croner.specs.Views.{job_of}
use Rattle.croner_base.specs.Zone.{Zone}
use Rattle.croner_zoned.proofs.ZoneRuns.{nearest_in_zone, none_past, none_left}
use Rattle.croner_zoned.proofs.laws.searches_are_the_zones.Goals as goal

pub returns-clause-nearest : goal.returns-clause-nearest
returns-clause-nearest c = λ hs direction inclusive run hr n.
    let t = c.args.start.now in
    let asked = timetable_of (job_of c.args.cron.now) in
    let on = subst (λ (z : Zone). Nearest direction inclusive (job_in z asked) t.time.second run) t.on_clock n in
    nearest_in_zone t.clock.now asked direction inclusive t.time.second hs run hr on

pub returns-clause-outside : goal.returns-clause-outside
returns-clause-outside c = λ hs direction inclusive run out n.
    let t = c.args.start.now in
    let asked = timetable_of (job_of c.args.cron.now) in
    let on = subst (λ (z : Zone). Nearest direction inclusive (job_in z asked) t.time.second run) t.on_clock n in
    none_past t.clock.now asked direction inclusive t.time.second hs run out on

pub returns-clause-limit : goal.returns-clause-limit
returns-clause-limit c = λ hs direction inclusive none.
    let t = c.args.start.now in
    let asked = timetable_of (job_of c.args.cron.now) in
    let on = subst (λ (z : Zone). NoneInSpan direction inclusive (job_in z asked) t.time.second) t.on_clock none in
    none_left t.clock.now asked direction inclusive t.time.second hs on
