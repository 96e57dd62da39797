use Rattle.std.proofs.Common.{◌∙◌, subst, arith, ℤ, ◌+ℤ◌, w64, to_z, of_z, FitsSigned}
use Rattle.std.proofs.lemmas.Int.{ints, to_z-of_z}
use Rattle.croner_base.specs.TableZone.{table_zone}
use Rattle.crontab_runs.specs.Starts.{minute_of}
use Rattle.crontab_runs.specs.Views.{cron_job_of}
use Rattle.crontab_runs.specs.Private.Due.{IsNamedCount}
use Rattle.crontab_runs.proofs.BeginStarts.{same_minute, counted_starts}
use Rattle.crontab_runs.proofs.job.CrontabJob.count_at_begin.Goals as goal

pub returns-in-None : goal.returns-in-None
returns-in-None c =
    let t = c.args.stretch.now in
    same_minute (table_zone t.table.now) t.begin t.end t.offset t.before t.fits (cron_job_of c.args.self.now) c.in-None.ensures

pub returns-in-Some : goal.returns-in-Some
returns-in-Some c =
    let t = c.args.stretch.now in
    let job = cron_job_of c.args.self.now in
    let due = c.in-Some.due in
    let is = c.in-Some.ensures in
    let n = c.named_count.result in
    let after : FitsSigned w64 due.after = omega (arith, ints, is.low, is.order, is.high) in
    let shown : FitsSigned w64 due.shown = omega (arith, ints, is.low, is.order, is.high) in
    counted_starts (table_zone t.table.now) t.begin t.end t.offset t.before t.fits job n is.turns
    (subst (λ (x : ℤ). IsNamedCount job.names x (minute_of (t.begin +ℤ t.offset)) n) (to_z-of_z w64 due.after after ∙ is.after_is)
    (subst (λ (x : ℤ). IsNamedCount job.names (to_z w64 (of_z w64 due.after)) x n) (to_z-of_z w64 due.shown shown ∙ is.shown_is) c.named_count.ensures))
