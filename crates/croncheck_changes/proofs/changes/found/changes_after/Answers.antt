use Rattle.std.proofs.Common.{◌∙◌, ap, arith, pos, w32, w64}
use Rattle.std.proofs.lemmas.Int.{ints, to_z-of_z}
use Rattle.croner_base.specs.declared.time.table.ClockTable.{ClockTable}
use Rattle.croncheck_runs.proofs.TableRows.{table_fits}
use Rattle.croncheck_changes.proofs.ListedChanges.{one_read, all_read}
use Rattle.croncheck_changes.proofs.changes.found.changes_after.Goals as goal

pub loop-change-preserved : goal.loop-change-preserved
loop-change-preserved c =
    let cs = c.changes-listed.result.now in
    let n = c.loop-change.change-index in
    let same = c.changes-listed.ensures ∙ ap (λ (u : ClockTable). u.changes.items) c.table-table.ensures in
    let row = table_fits c.args.start.table.now cs n (pos 0, pos 0) same c.loop-change-test.true in
    one_read c.args.start.second _ _ cs n _ _ _ c.loop-change.changes.items _ _ c.loop-change-test.true
    (omega (arith, ints, c.loop-change.auto.offset-fits, c.loop-change.offset-is)) (to_z-of_z w64 _ row.0) (to_z-of_z w32 _ row.1) (to_z-of_z w32 _ row.1)
    c.in_ok-push_watched.ensures c.loop-change.invariant

pub returns : goal.returns
returns c =
    all_read c.args.start _ c.loop-change.changes.items c.changes-listed.result.now c.loop-change.change-index (omega (arith, c.loop-change-test.false)) c.loop-change.invariant
