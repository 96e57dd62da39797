use Rattle.std.proofs.Common.{arith}
use Rattle.croner.proofs.zone.ErrorsKept.{error_kept}
use Rattle.croner.proofs.zone.GapSides.{side_found, side_refused}
use Rattle.croner.proofs.search.gap.SideSearch.side.Goals as goal

pub returns-clause-value : goal.returns-clause-value
returns-clause-value g c =
    let t = c.loop-around-test.false in
    side_found g.T.CronDateTime.moment g.T.CronDateTime.can_lack_memory c.args.self.now.direction (g.T.CronDateTime.moment c.args.self.now.time.now).zone c.args.self.now.skipped c.requires.in_gap c.args.limit c.loop-around.around _ c.loop-around.invariant (omega arith) c.in_ok-side.was

pub returns-in_err-side-clause-err : goal.returns-in_err-side-clause-err
returns-in_err-side-clause-err g c =
    error_kept c.from_residual.result c.in_err-side.field-0.0 _ c.from_residual.ensures.1 (side_refused g.T.CronDateTime.moment g.T.CronDateTime.can_lack_memory c.args.self.now.direction (g.T.CronDateTime.moment c.args.self.now.time.now).zone c.args.self.now.skipped c.requires.in_gap c.loop-around.around _ c.loop-around.invariant c.in_err-side.was)
