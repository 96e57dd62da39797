use Rattle.std.proofs.Common.{arith, pos, w32}
use Rattle.std.proofs.lemmas.Int.{ints, to_z-of_z}
use Rattle.croncheck_runs.proofs.TableRows.{table_fits}
use Rattle.croncheck_runs.proofs.Skipped.{added, room, all_added}
use Rattle.croncheck_runs.proofs.clock.skipped.skipped_in.Goals as goal

pub overflow_add-skipped : goal.overflow_add-skipped
overflow_add-skipped c =
    let cs = c.changes-listed.result.now in
    let n = c.loop-change.change-index in
    let fits = room c.args.table.now _ cs n c.loop-change.skipped (pos 0, pos 0) c.loop-change-test.true c.loop-change.invariant in
    grind (arith, ints, to_z-of_z, fits)

pub loop-change-preserved : goal.loop-change-preserved
loop-change-preserved c =
    let cs = c.changes-listed.result.now in
    let n = c.loop-change.change-index in
    let row = table_fits c.args.table.now cs n (pos 0, pos 0) c.changes-listed.ensures c.loop-change-test.true in
    added _ _ cs n c.loop-change.skipped _ _ (pos 0, pos 0) c.loop-change-test.true c.loop-change.invariant
    (grind (arith, ints, to_z-of_z, row)) (to_z-of_z w32 _ row.1)

pub returns-clause-bound : goal.returns-clause-bound
returns-clause-bound c =
    (all_added c.args.table.now _ c.changes-listed.result.now c.loop-change.change-index c.loop-change.skipped
    (omega (arith, c.loop-change-test.false)) c.loop-change.invariant).1
