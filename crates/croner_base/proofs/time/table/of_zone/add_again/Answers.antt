use Rattle.std.proofs.Common.{◌∙◌, ◌-◌, ◌+ℤ◌, pos, FitsSigned, w32, w64, arith, rules, to_z-of_z, drop, map, take}
use Rattle.std.proofs.lemmas.Int.{ints}
use Rattle.croner_base.specs.Private.ZoneSteps.{again}
use Rattle.croner_base.specs.ZonedZone.{last_timestamp}
use Rattle.croner_base.proofs.zones.ZoneRepeats.{copied_until, copied_more}
use Rattle.croner_base.proofs.time.table.of_zone.add_again.Goals as goal

pub overflow_add-second : goal.overflow_add-second
overflow_add-second c =
    let old = c.args.changes.now.items in
    let first = c.len.result - c.args.count in
    let place = c.loop-place.place in
    let x = c.index.result.now in
    let f : FitsSigned w64 x.0 = search rules in
    let held = rw (← c.len.ensures) at c.requires.held in
    let size = c.args.changes.now.ok.0 in
    let late = copied_until old c.loop-place.changes.items (map again (take (place - first) (drop first old))) first place x last_timestamp c.loop-place.auto.place
    (omega (arith, c.loop-place-test.true, c.len.ensures, c.requires.some, size)) c.loop-place.invariant c.index.ensures held in
    omega (arith, ints, f, late)

pub loop-place-preserved : goal.loop-place-preserved
loop-place-preserved c =
    let old = c.args.changes.now.items in
    let first = c.len.result - c.args.count in
    let place = c.loop-place.place in
    let now = c.loop-place.changes.items in
    let x = c.index.result.now in
    let f : FitsSigned w64 x.0 = search rules in
    let g : FitsSigned w32 x.1 = search rules in
    let size = c.args.changes.now.ok.0 in
    let held = rw (← c.len.ensures) at c.requires.held in
    let late = copied_until old now (map again (take (place - first) (drop first old))) first place x last_timestamp c.loop-place.auto.place
    (omega (arith, c.loop-place-test.true, c.len.ensures, c.requires.some, size)) c.loop-place.invariant c.index.ensures held in
    let h : FitsSigned w64 (x.0 +ℤ pos 12622780800) = omega (arith, ints, f, late) in
    let items = simp to_z-of_z at c.in_ok-push.ensures.items in
    items ∙ copied_more old now first place x c.loop-place.auto.place (omega (arith, c.loop-place-test.true, c.len.ensures, c.requires.some, size)) c.loop-place.invariant c.index.ensures
