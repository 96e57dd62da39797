use Rattle.std.proofs.Common.{SFits, w64}
use Rattle.std.proofs.lemmas.Int.{to_z-of_z}
use Rattle.croner_jobs.proofs.Around.{ok_sought, err_unknown, unheld_around}
use Rattle.croner_jobs.proofs.seek.seek_job.Goals as goal

pub returns-in-Some-clause-found : goal.returns-in-Some-clause-found
returns-in-Some-clause-found g c =
    let moment = g.T.CronDateTime.moment in
    let second : SFits w64 c.args.second = c.ranges.second in
    ok_sought (moment c.args.start.now) (g.met.T.NearUtc.near_utc c.args.start.now) c.args.second c.requires moment c.args.direction
    (g.J.Recurring.runs c.args.job.now) (moment c.in-Some.from) (simp to_z-of_z at c.in-Some.ensures).0 g.T.CronDateTime.can_lack_memory
    c.seek_from.result c.seek_from.ensures.found

pub returns-in-Some-clause-unknown : goal.returns-in-Some-clause-unknown
returns-in-Some-clause-unknown g c =
    let moment = g.T.CronDateTime.moment in
    let second : SFits w64 c.args.second = c.ranges.second in
    err_unknown (moment c.args.start.now) (g.met.T.NearUtc.near_utc c.args.start.now) c.args.second c.requires moment c.args.direction
    (g.J.Recurring.runs c.args.job.now) (moment c.in-Some.from) (simp to_z-of_z at c.in-Some.ensures).0 g.T.CronDateTime.can_lack_memory
    c.seek_from.result c.seek_from.ensures.refused

pub returns-in-None-clause-unknown : goal.returns-in-None-clause-unknown
returns-in-None-clause-unknown g c =
    let second : SFits w64 c.args.second = c.ranges.second in
    unheld_around (g.T.CronDateTime.moment c.args.start.now) (g.met.T.NearUtc.near_utc c.args.start.now) c.args.second c.requires
    g.T.CronDateTime.can_lack_memory (simp to_z-of_z at c.in-None.ensures)
