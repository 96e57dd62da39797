use Rattle.std.proofs.Common.{◌∙◌, sym, add-one, ◌<◌, length, arith, rules, pos, ◌-ℤ◌, FitsSigned, w64}
use Rattle.std.proofs.lemmas.Int.{ints, to_z-of_z}
use Rattle.croner_base.specs.Table.{offset_limit}
use Rattle.croner_base.proofs.tables.TableReadings.{resolved_around, resolved_last}
use Rattle.croner_base.proofs.time.table.TableTime.resolution_of.Goals as goal

pub returns-then-passed-len-clause-value : goal.returns-then-passed-len-clause-value
returns-then-passed-len-clause-value c =
    let t = c.args.self.now.table.now in
    let w : FitsSigned w64 c.args.wall = c.ranges.wall in
    let d : FitsSigned w64 (c.args.wall -ℤ pos offset_limit) = omega (arith, ints) in
    let e : FitsSigned w64 (c.args.wall -ℤ pos offset_limit -ℤ pos 1) = omega (arith, ints) in
    let count = simp to_z-of_z at c.changes_until-passed.ensures.count in
    let last = resolved_last t.first_offset t.changes.items c.args.wall c.changes_until-passed.result count (omega (arith, t.changes.ok.0, c.if-passed-len.true, c.len.ensures)) in
    let old = simp to_z-of_z at c.by_offset_past-by_old.ensures.second in
    rw old (sym last)

pub returns-clause-value : goal.returns-clause-value
returns-clause-value c =
    let t = c.args.self.now.table.now in
    let w : FitsSigned w64 c.args.wall = c.ranges.wall in
    let d : FitsSigned w64 (c.args.wall -ℤ pos offset_limit) = omega (arith, ints) in
    let e : FitsSigned w64 (c.args.wall -ℤ pos offset_limit -ℤ pos 1) = omega (arith, ints) in
    let change : FitsSigned w64 c.instant_of.result = search rules in
    let count = simp to_z-of_z at c.changes_until-passed.ensures.count in
    let lt : c.changes_until-passed.result < length t.changes.items = omega (arith, t.changes.ok.0, c.if-passed-len.false, c.len.ensures, c.changes_until-passed.ensures.bound) in
    let old = simp to_z-of_z at c.by_offset_past-by_old.ensures.second in
    let new = simp to_z-of_z at c.by_offset_past-by_new.ensures.second in
    let found = simp to_z-of_z at c.resolution_near_change.ensures.value in
    found ∙ rw (old, new, c.instant_of.ensures, add-one) (sym (resolved_around t.first_offset t.changes.items c.args.wall c.changes_until-passed.result count lt))

pub returns-clause-table : goal.returns-clause-table
returns-clause-table c = c.resolution_near_change.ensures.table c.args.self.now.table.now c.by_offset_past-by_old.ensures.table c.by_offset_past-by_new.ensures.table
