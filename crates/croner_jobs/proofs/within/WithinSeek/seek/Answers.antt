use Rattle.std.proofs.Common.{SFits, w64}
use Rattle.std.proofs.lemmas.Int.{to_z-of_z}
use Rattle.croner_jobs.proofs.Nearer.{ok_served, around_start}
use Rattle.croner_jobs.proofs.within.WithinSeek.seek.Goals as goal

pub seek_job-requires : goal.seek_job-requires
seek_job-requires g c =
    let second : SFits w64 c.args.second = c.ranges.second in
    simp to_z-of_z (around_start c.args.second c.requires)

pub returns-clause-found : goal.returns-clause-found
returns-clause-found g c =
    let moment = g.T.CronDateTime.moment in
    let second : SFits w64 c.args.second = c.ranges.second in
    ok_served moment c.args.direction (g.J.Recurring.runs c.args.self.now.job) (moment c.args.start.now).zone c.args.second c.seek_job.result
    (simp to_z-of_z at c.seek_job.ensures.found)
