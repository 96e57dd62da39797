use Rattle.std.proofs.Common.{rules, ◌∙◌, sym, refl, arith, pos, ◌+ℤ◌, FitsSigned, w32, w64}
use Rattle.std.proofs.lemmas.Int.{ints, to_z-of_z}
use Rattle.croner_base.specs.Limits.{apart_limit}
use Rattle.croner_base.proofs.time.table.check.Tally.tally_with.Goals as goal

pub invariant_of-result-clause-offset_in : goal.invariant_of-result-clause-offset_in
invariant_of-result-clause-offset_in c =
    let g : FitsSigned w32 c.args.change.1 = search rules in
    let within = simp to_z-of_z at c.is_offset.ensures in
    simp to_z-of_z (sym within ∙ c.if-not-is_offset.false)

pub returns-clause-some : goal.returns-clause-some
returns-clause-some c =
    let f : FitsSigned w64 c.args.change.0 = search rules in
    let g : FitsSigned w32 c.args.change.1 = search rules in
    let h : FitsSigned w32 c.args.self.offset = search rules in
    let within = simp to_z-of_z at c.is_offset.ensures in
    let moved = simp to_z-of_z at c.is_step.ensures in
    let met = simp to_z-of_z at c.met_at.ensures.value in
    let gap = simp to_z-of_z at c.gap_at.ensures.value in (
      λ _. record {
        late_enough = omega (arith, ints);
        early_enough = omega (arith, ints);
        offset_in = sym within ∙ c.if-not-is_offset.false;
        step = sym moved ∙ c.if-not-is_step.false;
        few = rw (← met) c.if-met-gt-MOST_CHANGES.false;
        few_seconds = rw (← gap) c.if-gap_seconds-gt-MOST_GAP_SECONDS.false;
      },
      λ _. refl,
    )

pub returns-clause-value : goal.returns-clause-value
returns-clause-value c =
    let f : FitsSigned w64 c.args.change.0 = search rules in
    let g : FitsSigned w32 c.args.change.1 = search rules in
    let h : FitsSigned w32 c.args.self.offset = search rules in
    let met = simp to_z-of_z at c.met_at.ensures.value in
    let gap = simp to_z-of_z at c.gap_at.ensures.value in
    let apart : FitsSigned w64 (c.args.change.0 +ℤ pos apart_limit) = omega (arith, ints) in
    let next : FitsSigned w64 (c.args.change.0 +ℤ pos apart_limit +ℤ pos 1) = omega (arith, ints) in
    simp to_z-of_z (rw (met, gap))
