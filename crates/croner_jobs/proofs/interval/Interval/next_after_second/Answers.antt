use Rattle.std.proofs.Common.{rules, arith, ◌<◌, ◌^◌, SFits, w64}
use Rattle.std.proofs.lemmas.Int.{ints, to_z-of_z}
use Rattle.croner_jobs.proofs.Multiples.{after_is}
use Rattle.croner_jobs.proofs.interval.Interval.next_after_second.Goals as goal

pub returns : goal.returns
returns c =
    let first : SFits w64 c.args.self.first = search rules in
    let second : SFits w64 c.args.second = c.ranges.second in
    let small : c.args.self.seconds < 2 ^ 32 = search rules in
    let since = simp to_z-of_z at c.passed.ensures in
    after_is c.args.self.first c.args.self.seconds c.args.second c.passed.result since _ (omega (arith, ints, since.low, since.high, c.requires))
