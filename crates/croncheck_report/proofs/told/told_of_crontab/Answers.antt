use Rattle.std.proofs.Common.{ℤ, Option, refl, subst}
use Rattle.croner.specs.Views.{job_of}
use Rattle.crontab_runs.specs.Views.{cron_job_of}
use Rattle.croncheck_runs.specs.declared.previous.Previous.{Previous}
use Rattle.croncheck_runs.specs.declared.runs.Runner.TheVariants as runners
use Rattle.croncheck_often.specs.Often.{AreOften}
use Rattle.croncheck_runs.specs.Previous.{AreBefore}
use Rattle.croncheck_runs.specs.Runs.{starts_listed, IsListed}
use Rattle.croncheck_report.specs.Settings.{start_of, window_end}
use Rattle.croncheck_report.proofs.told.told_of_crontab.Goals as goal

pub returns-clause-told : goal.returns-clause-told
returns-clause-told c =
    let s = c.args.settings.now in
    let m = job_of c.args.job.now.cron in (
      m,
      refl,
      record {
        described = c.in_ok-description.ensures.told;
        listed = subst (λ (last : Option ℤ). IsListed (starts_listed (cron_job_of c.args.job.now) (start_of s)) last s.listing c.in_ok-runs.runs) c.last.ensures c.in_ok-runs.ensures.listed;
        before = subst (λ (asked : Option Previous). AreBefore asked (runners.Cron c.args.job.now.is_starred) m c.in_ok-previous.previous) c.previous.ensures c.in_ok-previous.ensures.listed;
        often_told = subst (λ (until : Option ℤ). AreOften (starts_listed (cron_job_of c.args.job.now) (start_of s)) (window_end s) until c.in_ok-often.often) c.asked_until.ensures
            (subst (λ (last : Option ℤ). AreOften (starts_listed (cron_job_of c.args.job.now) (start_of s)) last c.asked_until.result c.in_ok-often.often) c.last-2.ensures c.in_ok-often.ensures.told);
        past = c.is_past-is_past.ensures;
      },
    )
