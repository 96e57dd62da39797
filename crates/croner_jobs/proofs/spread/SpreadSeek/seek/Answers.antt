use Rattle.std.proofs.Common.{rules, sym, subst, ℤ, SFits, w64}
use Rattle.std.proofs.lemmas.Int.{to_z-of_z}
use Rattle.croner_jobs.specs.Private.Sought.{IsAround}
use Rattle.croner_jobs.proofs.Laters.{around_of, ok_later, err_later}
use Rattle.croner_jobs.proofs.spread.SpreadSeek.seek.Goals as goal

pub seek_job-requires : goal.seek_job-requires
seek_job-requires g c =
    let it = c.args.self.now in
    let from : SFits w64 c.earlier-from.result = search rules in
    let second : SFits w64 c.args.second = c.ranges.second in
    let same = simp to_z-of_z at c.earlier-from.ensures in
    simp to_z-of_z (subst IsAround (sym same) (around_of c.args.second it.seconds it.day c.requires))

pub returns-in-Ok-clause-found : goal.returns-in-Ok-clause-found
returns-in-Ok-clause-found g c =
    let moment = g.T.CronDateTime.moment in
    let it = c.args.self.now in
    let from : SFits w64 c.earlier-from.result = search rules in
    let second : SFits w64 c.args.second = c.ranges.second in
    ok_later moment c.args.direction it.seconds it.day (g.J.Recurring.runs it.job) (moment c.args.start.now).zone c.args.second c.requires
    c.earlier-from.result (simp to_z-of_z at c.earlier-from.ensures) c.in-Ok.sought (simp to_z-of_z at c.in-Ok.ensures.found) c.later_of.result
    c.later_of.ensures.found

pub returns-in-Ok-clause-unknown : goal.returns-in-Ok-clause-unknown
returns-in-Ok-clause-unknown g c =
    let moment = g.T.CronDateTime.moment in
    err_later moment (moment c.args.start.now) (g.met.T.NearUtc.near_utc c.args.start.now) c.args.self.now.seconds g.T.CronDateTime.can_lack_memory
    c.in-Ok.sought c.later_of.result c.later_of.ensures.unheld
