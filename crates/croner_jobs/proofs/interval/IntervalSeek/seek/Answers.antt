use Rattle.std.proofs.Common.{rules, SFits, w64}
use Rattle.std.proofs.lemmas.Int.{to_z-of_z}
use Rattle.croner_jobs.proofs.Around.{err_unheld}
use Rattle.croner_jobs.proofs.Multiples.{ok_there, multiple_none}
use Rattle.croner_jobs.proofs.interval.IntervalSeek.seek.Goals as goal

pub returns-in-Some-clause-found : goal.returns-in-Some-clause-found
returns-in-Some-clause-found g c =
    let moment = g.T.CronDateTime.moment in
    let found : SFits w64 c.in-Some.found = search rules in
    let second : SFits w64 c.args.second = c.ranges.second in
    ok_there moment c.args.direction (moment c.args.start.now).zone c.args.self.now.first c.args.self.now.seconds c.args.second c.in-Some.found c.requires
    (simp to_z-of_z at c.in-Some.ensures) c.run_at.result (simp to_z-of_z at c.run_at.ensures.there)

pub returns-in-Some-clause-unknown : goal.returns-in-Some-clause-unknown
returns-in-Some-clause-unknown g c =
    let found : SFits w64 c.in-Some.found = search rules in
    let second : SFits w64 c.args.second = c.ranges.second in
    err_unheld (g.T.CronDateTime.moment c.args.start.now) (g.met.T.NearUtc.near_utc c.args.start.now) c.in-Some.found g.T.CronDateTime.can_lack_memory
    c.run_at.result (simp to_z-of_z at c.run_at.ensures.unheld)

pub returns-in-None-clause-found : goal.returns-in-None-clause-found
returns-in-None-clause-found g c =
    let moment = g.T.CronDateTime.moment in
    let second : SFits w64 c.args.second = c.ranges.second in
    multiple_none moment c.args.direction (moment c.args.start.now).zone c.args.self.now.first c.args.self.now.seconds c.args.second (simp to_z-of_z at c.in-None.ensures)
