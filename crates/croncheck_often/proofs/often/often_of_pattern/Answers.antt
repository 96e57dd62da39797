use Rattle.std.proofs.Common.{w64, FitsSigned, rules}
use Rattle.std.proofs.lemmas.Int.{to_z-of_z}
use Rattle.croner.specs.Views.{job_of}
use Rattle.croncheck_runs.specs.Runs.{runs_listed}
use Rattle.croncheck_often.proofs.OftenTold.{often_asked}
use Rattle.croncheck_often.proofs.often.often_of_pattern.Goals as goal

pub returns-in_ok-often-in-Some-clause-told : goal.returns-in_ok-often-in-Some-clause-told
returns-in_ok-often-in-Some-clause-told c =
    let fits : FitsSigned w64 c.in-Some.until = search rules in
    often_asked (runs_listed (job_of c.args.job.now) c.args.start) c.args.last c.args.until c.in-Some.until _ c.in_ok-often-in-Some.often c.in-Some.is (to_z-of_z w64 c.in-Some.until fits)
    c.in_ok-often-in-Some.ensures.told
