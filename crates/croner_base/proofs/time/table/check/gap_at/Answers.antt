use Rattle.std.proofs.Common.{rules, ◌≡◌, ◌∙◌, sym, arith, unsigned_abs, ◌-ℤ◌, FitsSigned, w32}
use Rattle.std.proofs.lemmas.Int.{ints, to_z-of_z}
use Rattle.croner_base.specs.Table as Spec
use Rattle.croner_base.proofs.tables.TableTests.{lt_test, step_parts}
use Rattle.croner_base.proofs.time.table.check.gap_at.Goals as goal

pub overflow_cast-result : goal.overflow_cast-result
overflow_cast-result c =
    let s = step_parts c.args.before c.args.change.1 c.requires.step in
    omega (arith, ints)

pub returns-then-before-after-clause-value : goal.returns-then-before-after-clause-value
returns-then-before-after-clause-value c =
    let s = step_parts c.args.before c.args.change.1 c.requires.step in
    let g : FitsSigned w32 c.args.before = c.ranges.before in
    let h : FitsSigned w32 c.args.change.1 = search rules in
    let d : FitsSigned w32 (c.args.change.1 -ℤ c.args.before) = omega (arith, ints) in
    let e = sym (simp to_z-of_z at c.is_met.ensures) ∙ c.if-is_met.true in
    let lt = lt_test c.args.before c.args.change.1 (omega (arith, ints)) in
    let gap : unsigned_abs (c.args.change.1 -ℤ c.args.before) ≡ Spec.gap_at c.args.before c.args.change = rw (e, lt) in
    simp to_z-of_z gap
