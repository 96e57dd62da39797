use Rattle.std.proofs.Common.{◌∙◌, ◌++◌, ℤ, pos, ap, sym, arith, get_or, length, List}
use Rattle.std.proofs.lemmas.List.{take_all}
use Rattle.croner_base.specs.TableZone.{table_zone}
use Rattle.croner_base.specs.Zone.{Zone}
use Rattle.cronplan.specs.declared.changes.ClockChange.{ClockChange}
use Rattle.cronplan.specs.Changes.{change_in, changes_in}
use Rattle.cronplan.proofs.DayCells.{changes_more}
use Rattle.cronplan.proofs.changes.changes_in.Goals as goal

pub loop-change-preserved : goal.loop-change-preserved
loop-change-preserved c =
    let z : Zone = table_zone c.args.table.now in
    let items = c.args.table.now.changes.items in
    let i = c.loop-change.change-index in
    let size = ap (λ (xs : List (ℤ × ℤ)). length xs) c.changes-change-items.ensures in
    c.in_ok-push_change.ensures
    ∙ ap (λ (xs : List (ℤ × ℤ)). c.loop-change.changes.items ++ change_in z c.args.span (get_or xs i (pos 0, pos 0)).0) c.changes-change-items.ensures
    ∙ ap (λ (xs : List ClockChange). xs ++ change_in z c.args.span (get_or items i (pos 0, pos 0)).0) c.loop-change.invariant
    ∙ sym (changes_more z c.args.span items i (pos 0, pos 0) (omega (arith, size, c.loop-change-test.true)))

pub returns : goal.returns
returns c =
    let size = ap (λ (xs : List (ℤ × ℤ)). length xs) c.changes-change-items.ensures in
    c.loop-change.invariant ∙ ap (changes_in (table_zone c.args.table.now) c.args.span) (take_all c.loop-change.change-index c.args.table.now.changes.items (omega (arith, size, c.loop-change-test.false)))
