use Rattle.std.proofs.Common.{ap, sym, ◌≡◌, ◌∙◌, true, false, Ok}
use Rattle.croner_base.specs.Calendar.{weekday_of_day}
use Rattle.croner_base.specs.Civil.{weekday_of_second, weekday_of_date}
use Rattle.croner_base.specs.Zone.{reading}
use Rattle.croner_base.proofs.calendar.JiffSeconds.{wall_second-day}
use Rattle.croner_pattern.specs.Schedule.{is_date_matching}
use Rattle.croner.specs.Views.{job_of}
use Rattle.croner.proofs.Matching.{same_ok, is_time_named, date_decides, missed_by_time}
use Rattle.croner.proofs.job.Cron.is_time_matching.Goals as goal

pub matches_date-requires : goal.matches_date-requires
matches_date-requires g c =
    c.civil_weekday.ensures ∙ ap weekday_of_second (sym c.to_civil-civil.ensures) ∙ ap weekday_of_day (wall_second-day c.to_civil-civil.result) ∙ ap weekday_of_date (sym c.date.ensures)

pub returns-then-branch-clause-value : goal.returns-then-branch-clause-value
returns-then-branch-clause-value g c =
    let m = job_of c.args.self.now in
    let named : is_time_named m c.to_civil-civil.result ≡ true = sym (same_ok c.in_ok-matches_time.field-0 (is_time_named m c.to_civil-civil.result) c.in_ok-matches_time.ensures) ∙ c.if-branch.true in
    date_decides m c.to_civil-civil.result (reading (g.T.CronDateTime.moment c.args.time.now)) c.matches_date.result c.to_civil-civil.ensures named (c.matches_date.ensures ∙ ap (λ d. Ok (is_date_matching m d)) c.date.ensures)

pub returns-clause-value : goal.returns-clause-value
returns-clause-value g c =
    let m = job_of c.args.self.now in
    let missed : is_time_named m c.to_civil-civil.result ≡ false = sym (same_ok c.in_ok-matches_time.field-0 (is_time_named m c.to_civil-civil.result) c.in_ok-matches_time.ensures) ∙ c.if-branch.false in
    missed_by_time m c.to_civil-civil.result (reading (g.T.CronDateTime.moment c.args.time.now)) c.to_civil-civil.ensures missed
