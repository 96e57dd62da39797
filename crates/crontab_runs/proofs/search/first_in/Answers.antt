use Rattle.std.proofs.Common.{◌≡◌, rules, pos, ◌-ℤ◌, w64, FitsSigned}
use Rattle.std.proofs.lemmas.Int.{to_z-of_z}
use Rattle.std.specs.Int.{int_max, int_min}
use Rattle.crontab_runs.proofs.SearchSteps.{same_forward, same_backward, low_backward, end_small}
use Rattle.crontab_runs.proofs.search.first_in.Goals as goal

pub returns-in-Forward-clause-same : goal.returns-in-Forward-clause-same
returns-in-Forward-clause-same c =
    let s = c.args.stretch.now in
    let from : FitsSigned w64 c.args.from = c.ranges.from in
    let begin : FitsSigned w64 s.begin = (end_small s).1 in
    let answer : FitsSigned w64 c.max.result = search rules in
    let v : c.max.result ≡ int_max c.args.from s.begin = simp to_z-of_z at c.max.ensures.value in
    simp to_z-of_z (same_forward c.args.direction s c.args.from c.max.result c.in-Forward.is v)

pub returns-in-Backward-clause-same : goal.returns-in-Backward-clause-same
returns-in-Backward-clause-same c =
    let s = c.args.stretch.now in
    let from : FitsSigned w64 c.args.from = c.ranges.from in
    let end : FitsSigned w64 s.end = (end_small s).0 in
    let less : FitsSigned w64 (s.end -ℤ pos 1) = (end_small s).3 in
    let answer : FitsSigned w64 c.min.result = search rules in
    let v : c.min.result ≡ int_min c.args.from (s.end -ℤ pos 1) = simp to_z-of_z at c.min.ensures.value in
    simp to_z-of_z (same_backward c.args.direction s c.args.from c.min.result c.in-Backward.is v)

pub returns-in-Backward-clause-low : goal.returns-in-Backward-clause-low
returns-in-Backward-clause-low c =
    let s = c.args.stretch.now in
    let from : FitsSigned w64 c.args.from = c.ranges.from in
    let end : FitsSigned w64 s.end = (end_small s).0 in
    let less : FitsSigned w64 (s.end -ℤ pos 1) = (end_small s).3 in
    let answer : FitsSigned w64 c.min.result = search rules in
    let v : c.min.result ≡ int_min c.args.from (s.end -ℤ pos 1) = simp to_z-of_z at c.min.ensures.value in
    simp to_z-of_z (low_backward c.args.direction s c.args.from c.min.result c.in-Backward.is c.requires v)
