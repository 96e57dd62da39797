use Rattle.std.proofs.Common.{refl, Err, FitsSigned, w64}
use Rattle.std.proofs.lemmas.Int.{to_z-of_z}
use Rattle.croner.specs.Views.{job_of}
use Rattle.croner_c.proofs.Times.{outside, match_on}
use Rattle.croner_c.proofs.search.is_scheduled_on_table.Goals as goal

pub returns-in-Ok : goal.returns-in-Ok
returns-in-Ok c =
    let f : FitsSigned w64 c.args.second = c.ranges.second in
    let e = simp to_z-of_z at c.in-Ok.ensures in
    match_on c.args.clock.now (job_of c.args.job.now) c.in-Ok.time c.args.second c.is_scheduled_at.result e.0 e.1 c.is_scheduled_at.ensures

pub returns-in-Err : goal.returns-in-Err
returns-in-Err c =
    let f : FitsSigned w64 c.args.second = c.ranges.second in
    let e = simp to_z-of_z at c.in-Err.ensures in
    (Err c.in-Err.reason, outside c.args.clock.now c.args.second c.in-Err.reason c.requires.table.calm e.0 e.1, refl)
