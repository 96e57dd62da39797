use Rattle.std.proofs.Common.{arith, refl, pos, ◌+ℤ◌, ◌*ℤ◌, ◌≤ℤ◌, w64, FitsSigned, rules}
use Rattle.std.proofs.lemmas.Int.{ints, to_z-of_z, int_min_is}
use Rattle.croner_base.specs.Limits.{first_searched}
use Rattle.crontab_runs.proofs.NearestNamed.{start_backward}
use Rattle.crontab_runs.proofs.minutes.search_start.Goals as goal

pub returns-else-from-lt-FIRST_MINUTE : goal.returns-else-from-lt-FIRST_MINUTE
returns-else-from-lt-FIRST_MINUTE c =
    let from : FitsSigned w64 c.args.from = c.ranges.from in
    let min : FitsSigned w64 c.min.result = search rules in
    let a = simp to_z-of_z at c.min.ensures.value in
    let low : first_searched ≤ℤ (c.args.from *ℤ pos 60) = grind (arith, ints, to_z-of_z, c.if-from-lt-FIRST_MINUTE.false) in
    let m = int_min_is c.args.from (pos 1_594_151_999) in
    let product : FitsSigned w64 (c.min.result *ℤ pos 60) = omega (arith, ints, low, a, m) in
    let sum : FitsSigned w64 (c.min.result *ℤ pos 60 +ℤ pos 59) = omega (arith, ints, low, a, m) in
    simp to_z-of_z (start_backward c.args.direction c.args.from c.min.result (pos 1_594_151_999) c.in-Backward.is low refl a)
