use Rattle.std.proofs.Common.{rules, ◌<◌, ◌^◌, SFits, w64}
use Rattle.std.proofs.lemmas.Int.{to_z-of_z}
use Rattle.croner_jobs.proofs.Multiples.{since_of}
use Rattle.croner_jobs.proofs.interval.Interval.passed.Goals as goal

pub returns : goal.returns
returns c =
    let small : c.args.self.seconds < 2 ^ 32 = search rules in
    let first : SFits w64 c.args.self.first = search rules in
    let second : SFits w64 c.args.second = c.ranges.second in
    since_of c.args.self.first c.args.second c.args.self.seconds c.abs_diff.result c.from.result (simp to_z-of_z at c.abs_diff.ensures) c.from.ensures
    c.args.self.positive small c.requires
