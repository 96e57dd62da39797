use Rattle.croner_base.specs.TableZone.{table_zone}
use Rattle.croner_base.specs.ZonedZone.{zoned_zone}
use Rattle.croner.specs.search.PatternJob.{timetable_of}
use Rattle.croner.specs.search.Runs.{job_in, Counts}
use Rattle.croner.specs.Views.{job_of}
use Rattle.croner.proofs.zone.Windows.{alike, goes_on, nearest_well, same_counts, span}
use Rattle.croner.proofs.laws.zones.runs_of_a_window.Goals as goal

pub returns-clause-nearest : goal.returns-clause-nearest
returns-clause-nearest c = λ zone first last is direction inclusive start run hs hr n.
    let z = zoned_zone zone in
    let t = table_zone c.args.table.now in
    let asked = timetable_of (job_of c.args.cron.now) in
    nearest_well zone first last direction start run (Counts direction inclusive (job_in t asked) start) (Counts direction inclusive (job_in z asked) start)
    (same_counts zone first last direction inclusive z t asked start (alike zone first last c.args.table.now is) hs) hr n

pub returns-clause-limit : goal.returns-clause-limit
returns-clause-limit c = λ zone first last is direction inclusive start i hs hi none h counted.
    let z = zoned_zone zone in
    let t = table_zone c.args.table.now in
    let same = alike zone first last c.args.table.now is in
    none i (span zone first last direction z t i same (goes_on zone first last t is) hi h)
    ((same_counts zone first last direction inclusive z t (timetable_of (job_of c.args.cron.now)) start same hs).back i hi counted)
