use Rattle.std.proofs.Common.{◌≡◌, ◌↔◌, ℤ, Bool, IsTrue, subst}
use Rattle.std.proofs.lemmas.Result.{IfOk-weaker}
use Rattle.croner_base.specs.Civil.{wall_second}
use Rattle.croner_base.specs.CivilZone.{civil_moment}
use Rattle.croner_base.specs.Zone.{reading}
use Rattle.croner_pattern.specs.Schedule.{IsScheduled}
use Rattle.croner.specs.Views.{job_of}
use Rattle.cronrun_command.proofs.answer.is_match.Goals as goal

pub returns-clause-value : goal.returns-clause-value
returns-clause-value c =
    let shown : reading (civil_moment c.in_ok-start.start) ≡ wall_second c.args.at = c.in_ok-start.ensures.shows.reads_it in
    let P : Bool → ℤ → Type 0 = λ held w. IsTrue held ↔ IsScheduled (job_of c.in_ok-cron.cron) w in
    IfOk-weaker c.is_time_matching.result _ _ (λ held h. (job_of c.in_ok-cron.cron, c.in_ok-cron.ensures, subst (P held) shown h)) c.is_time_matching.ensures.value

pub returns-clause-opened : goal.returns-clause-opened
returns-clause-opened c =
    let start : ℤ = (civil_moment c.in_ok-start.start).instant in
    IfOk-weaker c.is_time_matching.result _ _ (λ held h. (job_of c.in_ok-cron.cron, start, (c.in_ok-cron.ensures, c.in_ok-start.ensures.first))) c.is_time_matching.ensures.value
