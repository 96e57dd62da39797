use Rattle.std.proofs.Common.{SFits, w64}
use Rattle.std.proofs.lemmas.Int.{to_z-of_z}
use Rattle.croner_jobs.proofs.Nearer.{around_start, both_found, both_unknown}
use Rattle.croner_jobs.proofs.either.EitherSeek.seek.Goals as goal

pub seek_job-first-requires : goal.seek_job-first-requires
seek_job-first-requires g c =
    let second : SFits w64 c.args.second = c.ranges.second in
    simp to_z-of_z (around_start c.args.second c.requires)

pub seek_job-other-requires : goal.seek_job-other-requires
seek_job-other-requires g c =
    let second : SFits w64 c.args.second = c.ranges.second in
    simp to_z-of_z (around_start c.args.second c.requires)

pub returns-clause-found : goal.returns-clause-found
returns-clause-found g c =
    let moment = g.T.CronDateTime.moment in
    let second : SFits w64 c.args.second = c.ranges.second in
    both_found c.args.direction (g.A.Recurring.runs c.args.self.now.first) (g.B.Recurring.runs c.args.self.now.second) (moment c.args.start.now).zone
    c.args.second moment c.seek_job-first.result c.seek_job-other.result c.both.result (simp to_z-of_z at c.seek_job-first.ensures.found)
    (simp to_z-of_z at c.seek_job-other.ensures.found)
    c.both.ensures

pub returns-clause-unknown : goal.returns-clause-unknown
returns-clause-unknown g c =
    let moment = g.T.CronDateTime.moment in
    let second : SFits w64 c.args.second = c.ranges.second in
    both_unknown c.args.direction (g.A.Recurring.runs c.args.self.now.first) (g.B.Recurring.runs c.args.self.now.second) (moment c.args.start.now).zone
    c.args.second moment g.T.CronDateTime.can_lack_memory (moment c.args.start.now) c.seek_job-first.result c.seek_job-other.result c.both.result
    c.seek_job-first.ensures.unknown c.seek_job-other.ensures.unknown c.both.ensures
