use Rattle.std.proofs.Common.{subst, IsTrue, ◌↔◌}
use Rattle.croner.specs.Zone.{reading}
use Rattle.croner_base.specs.declared.time.civil.CivilDate.{CivilDate}
use Rattle.croner_jobs.specs.Dates.{Keeps}
use Rattle.croner_jobs.proofs.ListedDates.{kept_by_date}
use Rattle.croner_jobs.proofs.on_dates.OnDates.is_kept.Goals as goal

pub returns : goal.returns
returns g c =
    let Q : CivilDate → Type 0 = λ d. IsTrue c.keeps.result ↔ Keeps c.args.self.now.dates d in
    kept_by_date c.args.self.now.dates c.to_civil.result (reading (g.T.CronDateTime.moment c.args.time.now)) c.to_civil.ensures c.keeps.result
    (subst Q c.date.ensures c.keeps.ensures)
