use Rattle.std.proofs.Common.{◌≡◌, ◌∙◌, subst, sym, rules, arith, ℤ, ◌≤ℤ◌, ◌<ℤ◌, w64, to_z, of_z, FitsSigned}
use Rattle.std.proofs.lemmas.Int.{ints, to_z-of_z}
use Rattle.crontab_runs.specs.declared.stretch_search.StretchSearch.{StretchSearch}
use Rattle.crontab_runs.specs.Private.Steps.{SameFrom}
use Rattle.crontab_runs.proofs.SearchSteps.{step_found, step_on, step_over}
use Rattle.crontab_runs.proofs.job.CrontabJob.step.Goals as goal

pub returns-in-Some : goal.returns-in-Some
returns-in-Some c =
    let from : FitsSigned w64 c.args.from = c.ranges.from in
    let first : FitsSigned w64 c.first_in.result = search rules in
    let s = c.args.stretch in
    let x : ℤ = to_z w64 (of_z w64 c.first_in.result) in
    let at : x ≡ c.first_in.result = to_z-of_z w64 c.first_in.result first in
    let low : s.begin ≤ℤ x = omega (arith, ints, at, c.first_in.ensures.low) in
    let high : x <ℤ s.end = omega (arith, ints, at, c.first_in.ensures.high) in
    let p : StretchSearch = record { job = c.args.self; stretch = s; from = x; direction = c.args.direction; low = low; high = high } in
    let own : SameFrom c.args.direction s c.args.from c.first_in.result = simp to_z-of_z at c.first_in.ensures.same in
    let same : SameFrom c.args.direction s c.args.from x = subst (λ (y : ℤ). SameFrom c.args.direction s c.args.from y) (sym at) own in
    step_found p c.args.from same c.in-Some.start c.in-Some.ensures

pub returns-then-goes_on : goal.returns-then-goes_on
returns-then-goes_on c =
    let from : FitsSigned w64 c.args.from = c.ranges.from in
    let first : FitsSigned w64 c.first_in.result = search rules in
    let s = c.args.stretch in
    let x : ℤ = to_z w64 (of_z w64 c.first_in.result) in
    let at : x ≡ c.first_in.result = to_z-of_z w64 c.first_in.result first in
    let low : s.begin ≤ℤ x = omega (arith, ints, at, c.first_in.ensures.low) in
    let high : x <ℤ s.end = omega (arith, ints, at, c.first_in.ensures.high) in
    let p : StretchSearch = record { job = c.args.self; stretch = s; from = x; direction = c.args.direction; low = low; high = high } in
    let own : SameFrom c.args.direction s c.args.from c.first_in.result = simp to_z-of_z at c.first_in.ensures.same in
    let same : SameFrom c.args.direction s c.args.from x = subst (λ (y : ℤ). SameFrom c.args.direction s c.args.from y) (sym at) own in
    (step_on p c.args.from same c.in-None.ensures (c.goes_on.ensures.0 c.if-goes_on.true), c.known_from-minutes.ensures.known, c.known_from-minutes.ensures.direction ∙ c.requires.same)

pub returns-else-goes_on : goal.returns-else-goes_on
returns-else-goes_on c =
    let from : FitsSigned w64 c.args.from = c.ranges.from in
    let first : FitsSigned w64 c.first_in.result = search rules in
    let s = c.args.stretch in
    let x : ℤ = to_z w64 (of_z w64 c.first_in.result) in
    let at : x ≡ c.first_in.result = to_z-of_z w64 c.first_in.result first in
    let low : s.begin ≤ℤ x = omega (arith, ints, at, c.first_in.ensures.low) in
    let high : x <ℤ s.end = omega (arith, ints, at, c.first_in.ensures.high) in
    let p : StretchSearch = record { job = c.args.self; stretch = s; from = x; direction = c.args.direction; low = low; high = high } in
    let own : SameFrom c.args.direction s c.args.from c.first_in.result = simp to_z-of_z at c.first_in.ensures.same in
    let same : SameFrom c.args.direction s c.args.from x = subst (λ (y : ℤ). SameFrom c.args.direction s c.args.from y) (sym at) own in
    step_over p c.args.from same c.in-None.ensures (λ w. let t = c.goes_on.ensures.1 w in let f = c.if-goes_on.false in cc)
