use Rattle.std.proofs.Common.{◌≡◌, ◌∙◌, ◌+ℤ◌, ◌*ℤ◌, ℕ, ℤ, pos, ap, arith, length, w64, to_z, of_z}
use Rattle.std.proofs.lemmas.Int.{ints, to_z-of_z}
use Rattle.cronplan.specs.declared.days.HourCell.{HourCell}
use Rattle.cronplan.specs.Days.{cell_of}
use Rattle.cronplan.proofs.DayCells.{each_more}
use Rattle.cronplan.proofs.days.hours_on.Goals as goal

pub loop-hour-preserved : goal.loop-hour-preserved
loop-hour-preserved c = record {
  count = omega (arith, ints, c.loop-hour.invariant.count, c.in_ok-push.ensures.len);
  bound = omega (arith, ints, c.loop-hour-test.true);
  each = λ starts counted. each_more (λ (k : ℕ) (cell : HourCell). cell ≡ cell_of starts c.args.counted.now.changes.items c.args.counted.now.shown (to_z w64 (of_z w64 c.args.date) *ℤ pos 24 +ℤ pos k))
      c.loop-hour.cells.items c.push.new.self.items c.cell_at.result c.in_ok-push.ensures.items (c.loop-hour.invariant.each starts counted)
      (c.cell_at.ensures starts counted ∙ ap (cell_of starts c.args.counted.now.changes.items c.args.counted.now.shown) (omega (arith, ints, c.loop-hour.invariant.count, c.requires.low, c.requires.high, c.loop-hour-test.true)));
}

pub returns : goal.returns
returns c = λ starts counted.
    let count : length c.loop-hour.cells.items ≡ 24 = omega (arith, ints, c.loop-hour.invariant.count, c.loop-hour.invariant.bound, c.loop-hour-test.false) in
    let same : to_z w64 (of_z w64 c.args.date) ≡ c.args.date = to_z-of_z w64 c.args.date c.ranges.date in (
      count,
      λ hour d h. c.loop-hour.invariant.each starts counted hour d (omega (arith, count, h))
          ∙ ap (λ (i : ℤ). cell_of starts c.args.counted.now.changes.items c.args.counted.now.shown (i *ℤ pos 24 +ℤ pos hour)) same,
    )
