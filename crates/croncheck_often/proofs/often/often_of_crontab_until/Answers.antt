use Rattle.std.proofs.Common.{◌≡◌, ◌∙◌, w64, FitsSigned, to_z, of_z, rules}
use Rattle.std.proofs.lemmas.Int.{to_z-of_z}
use Rattle.crontab_runs.specs.Views.{cron_job_of}
use Rattle.croncheck_runs.specs.Runs.{starts_listed}
use Rattle.croncheck_often.proofs.OftenTold.{often_told}
use Rattle.croncheck_often.proofs.often.often_of_crontab_until.Goals as goal

pub returns-clause-told : goal.returns-clause-told
returns-clause-told c =
    let start_fits : FitsSigned w64 c.second.result = search rules in
    let start : to_z w64 (of_z w64 c.second.result) ≡ c.args.start.second = to_z-of_z w64 c.second.result start_fits ∙ c.second.ensures.value in
    let until_fits : FitsSigned w64 c.args.until = search rules in
    often_told (starts_listed (cron_job_of c.args.job.now) c.args.start) c.args.last c.args.until _ _ c.in_ok-runs.runs c.in_ok-often.often c.in_ok-runs.ensures.listed start
    (to_z-of_z w64 c.args.until until_fits) c.in_ok-often.ensures
