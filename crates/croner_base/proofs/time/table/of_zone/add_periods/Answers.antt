use Rattle.std.proofs.Common.{◌≡◌, ◌∙◌, sym, ap, subst, ◌≤ℤ◌, ◌<ℤ◌, ◌+ℤ◌, ◌-ℤ◌, ◌-◌, ◌++◌, ℤ, pos, FitsSigned, w64, arith, to_z, to_z-of_z, length, map, vec_len}
use Rattle.std.proofs.lemmas.Int.{ints}
use Rattle.std.proofs.lemmas.List.Elements.{All-weaker}
use Rattle.std.specs.List.{All}
use Rattle.jiff_core.proofs.SignedLemmas.{signed_arith}
use Rattle.croner_base.specs.Private.ZoneSteps.{again, period, repeated_until}
use Rattle.croner_base.specs.ZonedZone.{last_timestamp}
use Rattle.croner_base.specs.ZoneTable.{window_changes}
use Rattle.croner_base.proofs.tables.TableTests.{le_of}
use Rattle.croner_base.proofs.zones.ZoneRepeats.{joined_part, last_part, part_count, period_count, period_more, window_until}
use Rattle.croner_base.proofs.time.table.of_zone.add_periods.Goals as goal

pub loop-end-init : goal.loop-end-init
loop-end-init c =
    let tz = c.args.zone in
    let first = c.args.first in
    let old = c.args.changes.now.items in
    let f : FitsSigned w64 first = c.ranges.first in
    let g : FitsSigned w64 c.args.last = c.ranges.last in
    let h : FitsSigned w64 (first +ℤ pos 12622780800) = omega (arith, ints, c.requires.one, g, f) in
    let at = simp to_z-of_z at c.in_ok-add_asked.ensures in
    let back : (first +ℤ pos period) -ℤ pos period ≡ first = omega (arith, signed_arith) in
    let joined = joined_part tz first ((first +ℤ pos period) -ℤ pos period) (first +ℤ pos period) old (omega (arith, signed_arith)) (omega (arith, signed_arith)) in
    let counted = part_count old (window_changes tz first (first +ℤ pos period)) c.add_asked.new.changes.items c.len.result c.len-before.result at
    (c.len.ensures ∙ c.add_asked.new.changes.ok.0) (c.len-before.ensures ∙ c.args.changes.now.ok.0) in
    simp to_z-of_z (record {
      from = omega (arith, signed_arith);
      until = c.requires.one;
      items = at ∙ sym joined;
      count = counted ∙ ap (λ (i : ℤ). length (window_changes tz i (first +ℤ pos period))) (sym back);
    })

pub add_again-requires-clause-held : goal.add_again-requires-clause-held
add_again-requires-clause-held c =
    let tz = c.args.zone in
    let f : FitsSigned w64 c.args.first = c.ranges.first in
    let g : FitsSigned w64 c.args.last = c.ranges.last in
    let i = simp to_z-of_z at c.loop-end.invariant in
    let end : ℤ = to_z w64 c.loop-end.end-bits in
    let front = c.args.changes.now.items ++ window_changes tz c.args.first (end -ℤ pos period) in
    let part = window_changes tz (end -ℤ pos period) end in
    let last = last_part front part c.loop-end.changes.items (vec_len c.loop-end.changes) (c.len.result - c.len-before.result) i.items c.loop-end.changes.ok.0 i.count in
    let held : All (λ (x : ℤ × ℤ). x.0 ≤ℤ last_timestamp) part = All-weaker (λ (x : ℤ × ℤ). x.0 ≤ℤ end) (λ (x : ℤ × ℤ). x.0 ≤ℤ last_timestamp) (λ x le. omega (arith, signed_arith, le, i.until, c.requires.window.held_last)) part
    (window_until tz (end -ℤ pos period) end (omega (arith, signed_arith))) in
    subst (All (λ (x : ℤ × ℤ). x.0 ≤ℤ last_timestamp)) (sym last) held

pub loop-end-preserved : goal.loop-end-preserved
loop-end-preserved c =
    let tz = c.args.zone in
    let first = c.args.first in
    let f : FitsSigned w64 first = c.ranges.first in
    let g : FitsSigned w64 c.args.last = c.ranges.last in
    let i = simp to_z-of_z at c.loop-end.invariant in
    let end : ℤ = to_z w64 c.loop-end.end-bits in
    let e : FitsSigned w64 end = omega (arith, ints, i.until, i.from, f, g) in
    let d : FitsSigned w64 (c.args.last -ℤ end) = omega (arith, ints, i.until, i.from, f, g, c.requires.window.held_first, c.requires.window.held_last) in
    let t = simp to_z-of_z at c.loop-end-test.true in
    let more : (pos 12622780800) ≤ℤ (c.args.last -ℤ end) = le_of (pos 12622780800) (c.args.last -ℤ end) t in
    let h : FitsSigned w64 (end +ℤ pos 12622780800) = omega (arith, ints, i.until, i.from, f, g, more) in
    let until : (end +ℤ pos period) <ℤ repeated_until = omega (arith, signed_arith, more, c.requires.until) in
    let front = c.args.changes.now.items ++ window_changes tz first (end -ℤ pos period) in
    let part = window_changes tz (end -ℤ pos period) end in
    let last = last_part front part c.loop-end.changes.items (vec_len c.loop-end.changes) (c.len.result - c.len-before.result) i.items c.loop-end.changes.ok.0 i.count in
    let and_more : c.add_again.new.changes.items ≡ c.loop-end.changes.items ++ map again part = c.in_ok-add_again.ensures ∙ ap (λ l. c.loop-end.changes.items ++ map again l) last in
    let back : (end +ℤ pos period) -ℤ pos period ≡ end = omega (arith, signed_arith) in
    let old = c.args.changes.now.items in
    let items = period_more tz first end old c.loop-end.changes.items c.add_again.new.changes.items c.requires.repeats i.from until i.items and_more in
    let count = i.count ∙ sym (period_count tz first end c.requires.repeats i.from until) in
    simp to_z-of_z (record {
      from = omega (arith, signed_arith, i.from);
      until = omega (arith, signed_arith, more);
      items = items ∙ ap (λ (b : ℤ). (old ++ window_changes tz first b) ++ window_changes tz b (end +ℤ pos period)) (sym back);
      count = count ∙ ap (λ (b : ℤ). length (window_changes tz b (end +ℤ pos period))) (sym back);
    })

pub returns-clause-items : goal.returns-clause-items
returns-clause-items c =
    let f : FitsSigned w64 c.args.first = c.ranges.first in
    let g : FitsSigned w64 c.args.last = c.ranges.last in
    let i = simp to_z-of_z at c.loop-end.invariant in
    let end : ℤ = to_z w64 c.loop-end.end-bits in
    i.items ∙ joined_part c.args.zone c.args.first (end -ℤ pos period) end c.args.changes.now.items (omega (arith, signed_arith, i.from)) (omega (arith, signed_arith))
