use Rattle.std.proofs.Common.{◌∙◌, subst, arith, ℤ, ◌+ℤ◌, w64, to_z, of_z, FitsSigned, MatchOption}
use Rattle.std.proofs.lemmas.Int.{ints, to_z-of_z}
use Rattle.croner_base.specs.TableZone.{table_zone}
use Rattle.crontab_runs.specs.Starts.{minute_of}
use Rattle.crontab_runs.specs.Views.{cron_job_of}
use Rattle.crontab_runs.specs.Private.Named.{NoneNamedBetween, IsFirstNamedBetween}
use Rattle.crontab_runs.proofs.MadeUpStarts.{none_within_minute, found_at_begin}
use Rattle.crontab_runs.proofs.job.CrontabJob.first_at_begin.Goals as goal

pub returns-in-None : goal.returns-in-None
returns-in-None c =
    let t = c.args.stretch.now in
    none_within_minute (table_zone t.table.now) t.begin t.end t.offset t.before t.fits (cron_job_of c.args.self.now) c.in-None.ensures

pub returns-in-Some : goal.returns-in-Some
returns-in-Some c =
    let t = c.args.stretch.now in
    let job = cron_job_of c.args.self.now in
    let due = c.in-Some.due in
    let is = c.in-Some.ensures in
    let r = c.first_named_between.result in
    let after : FitsSigned w64 due.after = omega (arith, ints, is.low, is.order, is.high) in
    let shown : FitsSigned w64 due.shown = omega (arith, ints, is.low, is.order, is.high) in
    found_at_begin (table_zone t.table.now) t.begin t.end t.offset t.before t.fits job r is.turns
    (subst (λ (x : ℤ). MatchOption r (NoneNamedBetween job.names x (minute_of (t.begin +ℤ t.offset))) (IsFirstNamedBetween job.names x (minute_of (t.begin +ℤ t.offset)))) (to_z-of_z w64 due.after after ∙ is.after_is)
    (subst (λ (x : ℤ). MatchOption r (NoneNamedBetween job.names (to_z w64 (of_z w64 due.after)) x) (IsFirstNamedBetween job.names (to_z w64 (of_z w64 due.after)) x)) (to_z-of_z w64 due.shown shown ∙ is.shown_is) c.first_named_between.ensures))
