use Rattle.std.proofs.Common.{rules, arith, SFits, w64}
use Rattle.std.proofs.lemmas.Int.{ints, to_z-of_z}
use Rattle.croner_jobs.proofs.Windows.{none_starts, settled_found, settled_refused}
use Rattle.croner_jobs.proofs.window.search_in.Goals as goal

pub seek-requires : goal.seek-requires
seek-requires g c =
    let fits : SFits w64 c.in-Some.second = search rules in
    let start : SFits w64 c.second.result = search rules in
    let first : SFits w64 c.args.first = c.ranges.first in
    let last : SFits w64 c.args.last = c.ranges.last in
    let starts = simp to_z-of_z at c.in-Some.ensures in
    simp to_z-of_z (omega (arith, ints, c.requires.low, starts.low), omega (arith, ints, c.requires.high, starts.high))

pub returns-in-Some-clause-found : goal.returns-in-Some-clause-found
returns-in-Some-clause-found g c =
    let moment = g.T.CronDateTime.moment in
    let fits : SFits w64 c.in-Some.second = search rules in
    let start : SFits w64 c.second.result = search rules in
    let first : SFits w64 c.args.first = c.ranges.first in
    let last : SFits w64 c.args.last = c.ranges.last in
    settled_found c.args.direction (g.S.Seek.sought c.args.job.now) (moment c.args.start.now) c.args.first c.args.last c.second.result c.in-Some.second
    c.second.ensures c.requires.low c.requires.high (simp to_z-of_z at c.in-Some.ensures) moment g.T.CronDateTime.can_lack_memory c.seek.result
    c.settle.result (simp to_z-of_z at c.seek.ensures.found) (simp to_z-of_z at c.settle.ensures)

pub returns-in-Some-clause-refused : goal.returns-in-Some-clause-refused
returns-in-Some-clause-refused g c =
    let moment = g.T.CronDateTime.moment in
    let fits : SFits w64 c.in-Some.second = search rules in
    let start : SFits w64 c.second.result = search rules in
    let first : SFits w64 c.args.first = c.ranges.first in
    let last : SFits w64 c.args.last = c.ranges.last in
    settled_refused c.args.direction (g.S.Seek.sought c.args.job.now) (moment c.args.start.now) c.args.first c.args.last c.second.result c.in-Some.second
    c.second.ensures c.requires.low c.requires.high (simp to_z-of_z at c.in-Some.ensures) moment g.T.CronDateTime.can_lack_memory c.seek.result
    c.settle.result (simp to_z-of_z at c.seek.ensures.found) c.seek.ensures.unknown (simp to_z-of_z at c.settle.ensures)

pub returns-in-None-clause-refused : goal.returns-in-None-clause-refused
returns-in-None-clause-refused g c =
    let start : SFits w64 c.second.result = search rules in
    let first : SFits w64 c.args.first = c.ranges.first in
    let last : SFits w64 c.args.last = c.ranges.last in
    none_starts g.T.CronDateTime.can_lack_memory c.args.direction (g.S.Seek.sought c.args.job.now) (g.T.CronDateTime.moment c.args.start.now) c.args.first
    c.args.last c.second.result c.second.ensures (simp to_z-of_z at c.in-None.ensures)
