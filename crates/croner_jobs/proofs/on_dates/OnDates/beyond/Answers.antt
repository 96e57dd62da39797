use Rattle.std.proofs.Common.{rules, SFits, w64}
use Rattle.std.proofs.lemmas.Int.{to_z-of_z}
use Rattle.croner_jobs.proofs.Passing.{ok_beyond, none_beyond}
use Rattle.croner_jobs.proofs.on_dates.OnDates.beyond.Goals as goal

pub seek_job-requires : goal.seek_job-requires
seek_job-requires g c =
    let from : SFits w64 c.in-Some.from = search rules in
    let second : SFits w64 c.args.second = c.ranges.second in
    let past = simp to_z-of_z at c.in-Some.ensures in
    simp to_z-of_z past.around

pub returns-in-Some-clause-found : goal.returns-in-Some-clause-found
returns-in-Some-clause-found g c =
    let moment = g.T.CronDateTime.moment in
    let from : SFits w64 c.in-Some.from = search rules in
    let second : SFits w64 c.args.second = c.ranges.second in
    ok_beyond moment c.args.direction (g.J.Recurring.runs c.args.self.now.job) (moment c.args.start.now).zone c.args.second c.in-Some.from
    (simp to_z-of_z at c.in-Some.ensures) c.seek_job.result (simp to_z-of_z at c.seek_job.ensures.found)

pub returns-in-None-clause-found : goal.returns-in-None-clause-found
returns-in-None-clause-found g c =
    let moment = g.T.CronDateTime.moment in
    let second : SFits w64 c.args.second = c.ranges.second in
    none_beyond moment c.args.direction (g.J.Recurring.runs c.args.self.now.job) (moment c.args.start.now).zone c.args.second
    (simp to_z-of_z at c.in-None.ensures)
