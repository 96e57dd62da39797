use Rattle.std.proofs.Common.{◌∙◌, ap, [], ◌++◌, FitsSigned, w64, arith, to_z-of_z}
use Rattle.std.proofs.lemmas.Int.{ints}
use Rattle.croner_base.specs.ZoneTable.{window_changes}
use Rattle.croner_base.proofs.zones.ZoneRepeats.{joined_part}
use Rattle.croner_base.proofs.time.table.of_zone.changes_in.Goals as goal

pub returns-clause-value : goal.returns-clause-value
returns-clause-value c =
    let tz = c.args.zone in
    let f : FitsSigned w64 c.args.first = c.ranges.first in
    let g : FitsSigned w64 c.args.last = c.ranges.last in
    let order = simp to_z-of_z at c.in_ok-repeated.ensures.order in
    let r : FitsSigned w64 c.in_ok-repeated.repeated = omega (arith, ints, order, f, g) in
    let ruled = simp to_z-of_z at c.in_ok-repeated.ensures.items in
    let asked = simp to_z-of_z at c.in_ok-add_asked.ensures in
    asked ∙ ap (λ l. l ++ window_changes tz c.in_ok-repeated.repeated c.args.last) (ruled ∙ ap (λ l. l ++ window_changes tz c.args.first c.in_ok-repeated.repeated) c.new-changes.ensures.items)
    ∙ joined_part tz c.args.first c.in_ok-repeated.repeated c.args.last [] order.0 order.1
