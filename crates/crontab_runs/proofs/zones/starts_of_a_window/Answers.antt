use Rattle.croner_base.specs.TableZone.{table_zone}
use Rattle.croner_base.specs.ZonedZone.{zoned_zone}
use Rattle.croner.specs.Recurring.{CountsFrom}
use Rattle.croner.proofs.zone.Windows.{alike, begins_well, goes_on, nearest_well, span}
use Rattle.crontab_runs.specs.Starts.{Starts}
use Rattle.crontab_runs.specs.Views.{cron_job_of}
use Rattle.crontab_runs.proofs.WindowStarts.{same_minutes, same_starts, times_back, times_to}
use Rattle.crontab_runs.proofs.zones.starts_of_a_window.Goals as goal

pub returns-clause-times : goal.returns-clause-times
returns-clause-times c = λ zone first last is i inside n.
    let z = zoned_zone zone in
    let t = table_zone c.args.table.now in
    let same = same_minutes zone first last c.args.table.now is in
    let job = cron_job_of c.args.job.now in
    (times_to zone first last z t same i inside job n, times_back zone first last z t same i inside job n)

pub returns-clause-nearest : goal.returns-clause-nearest
returns-clause-nearest c = λ zone first last is direction from start hf hs n.
    let z = zoned_zone zone in
    let t = table_zone c.args.table.now in
    let job = cron_job_of c.args.job.now in
    nearest_well zone first last direction from start (CountsFrom direction (Starts job t) from) (CountsFrom direction (Starts job z) from)
    (same_starts zone first last z t (same_minutes zone first last c.args.table.now is) job direction from hf) hs n

pub returns-clause-begins : goal.returns-clause-begins
returns-clause-begins c = λ zone first last is direction from starts more hf well n.
    let z = zoned_zone zone in
    let t = table_zone c.args.table.now in
    let job = cron_job_of c.args.job.now in
    begins_well zone first last direction from (CountsFrom direction (Starts job t) from) (CountsFrom direction (Starts job z) from) starts more
    (same_starts zone first last z t (same_minutes zone first last c.args.table.now is) job direction from hf) n well

pub returns-clause-passed : goal.returns-clause-passed
returns-clause-passed c = λ zone first last is direction from starts i start hf hi n counted has reaches.
    let same = same_starts zone first last (zoned_zone zone) (table_zone c.args.table.now) (same_minutes zone first last c.args.table.now is) (cron_job_of c.args.job.now) direction from hf in
    n.complete i start (same.back i hi counted) has reaches

pub returns-clause-limit : goal.returns-clause-limit
returns-clause-limit c = λ zone first last is direction from i hf hi none within counted.
    let z = zoned_zone zone in
    let t = table_zone c.args.table.now in
    let same = same_starts zone first last z t (same_minutes zone first last c.args.table.now is) (cron_job_of c.args.job.now) direction from hf in
    none i (span zone first last direction z t i (alike zone first last c.args.table.now is) (goes_on zone first last t is) hi within) (same.back i hi counted)
