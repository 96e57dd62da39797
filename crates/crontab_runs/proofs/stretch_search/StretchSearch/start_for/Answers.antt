use Rattle.std.proofs.Common.{arith, rules, pos, ◌-ℤ◌, ◌*ℤ◌, ◌<ℤ◌, ◌≤ℤ◌, w64, FitsSigned}
use Rattle.std.proofs.lemmas.Int.{ints, to_z-of_z}
use Rattle.croner_base.proofs.tables.TableTests.{le_of}
use Rattle.crontab_runs.specs.Private.Found.{IsNearestFrom}
use Rattle.crontab_runs.proofs.PartStarts.{product_fits, second_fits, offset_fits, end_fits, none_before_least, none_past_end, found_after_begin}
use Rattle.crontab_runs.proofs.stretch_search.StretchSearch.start_for.Goals as goal

pub overflow_mul-second : goal.overflow_mul-second
overflow_mul-second c =
    let k : FitsSigned w64 c.args.minute = c.ranges.minute in
    let near : IsNearestFrom c.args.self.now c.args.minute = c.requires in
    simp to_z-of_z (product_fits c.args.self.now c.args.minute near)

pub overflow_sub-second : goal.overflow_sub-second
overflow_sub-second c =
    let p = c.args.self.now in
    let k : FitsSigned w64 c.args.minute = c.ranges.minute in
    let near : IsNearestFrom p c.args.minute = c.requires in
    let product : FitsSigned w64 (c.args.minute *ℤ pos 60) = product_fits p c.args.minute near in
    let offset : FitsSigned w64 p.stretch.offset = offset_fits p in
    simp to_z-of_z (second_fits p c.args.minute near)

pub returns-then-minute-least_minute : goal.returns-then-minute-least_minute
returns-then-minute-least_minute c =
    let p = c.args.self.now in
    let k : FitsSigned w64 c.args.minute = c.ranges.minute in
    let least : FitsSigned w64 c.least_minute.result = search rules in
    let near : IsNearestFrom p c.args.minute = c.requires in
    let t = simp to_z-of_z at c.if-minute-least_minute.true in
    let less : c.args.minute <ℤ c.least_minute.result = grind (arith, ints, t) in
    none_before_least p c.args.minute near (omega (arith, ints, less, c.least_minute.ensures))

pub returns-then-second-self : goal.returns-then-second-self
returns-then-second-self c =
    let p = c.args.self.now in
    let k : FitsSigned w64 c.args.minute = c.ranges.minute in
    let near : IsNearestFrom p c.args.minute = c.requires in
    let product : FitsSigned w64 (c.args.minute *ℤ pos 60) = product_fits p c.args.minute near in
    let offset : FitsSigned w64 p.stretch.offset = offset_fits p in
    let second : FitsSigned w64 (c.args.minute *ℤ pos 60 -ℤ p.stretch.offset) = second_fits p c.args.minute near in
    let end : FitsSigned w64 p.stretch.end = end_fits p in
    let t = simp to_z-of_z at c.if-second-self.true in
    let past : p.stretch.end ≤ℤ (c.args.minute *ℤ pos 60 -ℤ p.stretch.offset) = le_of _ _ t in
    none_past_end p c.args.minute near past

pub returns : goal.returns
returns c =
    let p = c.args.self.now in
    let k : FitsSigned w64 c.args.minute = c.ranges.minute in
    let least : FitsSigned w64 c.least_minute.result = search rules in
    let near : IsNearestFrom p c.args.minute = c.requires in
    let product : FitsSigned w64 (c.args.minute *ℤ pos 60) = product_fits p c.args.minute near in
    let offset : FitsSigned w64 p.stretch.offset = offset_fits p in
    let second : FitsSigned w64 (c.args.minute *ℤ pos 60 -ℤ p.stretch.offset) = second_fits p c.args.minute near in
    let t = simp to_z-of_z at c.if-minute-least_minute.false in
    let u = simp to_z-of_z at c.if-second-self.false in
    let above : c.least_minute.result ≤ℤ c.args.minute = grind (arith, ints, t) in
    let high : (c.args.minute *ℤ pos 60 -ℤ p.stretch.offset) <ℤ p.stretch.end = grind (arith, ints, u) in
    simp to_z-of_z (found_after_begin p c.args.minute near (omega (arith, ints, above, c.least_minute.ensures)) high)
