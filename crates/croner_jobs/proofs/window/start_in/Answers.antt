use Rattle.std.proofs.Common.{arith, SFits, w64}
use Rattle.std.proofs.lemmas.Int.{ints}
use Rattle.croner_jobs.proofs.Windows.{before_first}
use Rattle.croner_jobs.proofs.window.start_in.Goals as goal

pub returns-then-second-first : goal.returns-then-second-first
returns-then-second-first c =
    let first : SFits w64 c.args.first = c.ranges.first in
    let last : SFits w64 c.args.last = c.ranges.last in
    let second : SFits w64 c.args.second = c.ranges.second in
    before_first c.args.direction c.in-Forward.is c.args.first c.args.last c.args.second _ (omega (arith, ints, c.requires)) (omega (arith, ints, c.if-second-first.true))
    (omega (arith, ints, c.if-last-first.false))
