use Rattle.std.proofs.Common.{◌↔◌, IsTrue, subst, sym, ℤ, pos, ◌+ℤ◌, ◌-ℤ◌, w64, FitsSigned}
use Rattle.std.proofs.lemmas.Int.{to_z-of_z}
use Rattle.croner.specs.search.Limit.{IsWithin}
use Rattle.crontab_runs.proofs.SearchSteps.{far_forward, far_backward, end_small}
use Rattle.crontab_runs.proofs.search.goes_on.Goals as goal

pub returns-in-Forward : goal.returns-in-Forward
returns-in-Forward c =
    let s = c.args.stretch.now in
    let end : FitsSigned w64 s.end = (end_small s).0 in
    let offset : FitsSigned w64 s.offset = (end_small s).2 in
    let less : FitsSigned w64 (s.end -ℤ pos 1) = (end_small s).3 in
    let wall : FitsSigned w64 (s.end -ℤ pos 1 +ℤ s.offset) = (end_small s).4 in
    let test : IsTrue c.is_within.result ↔ IsWithin c.args.direction (s.end -ℤ pos 1 +ℤ s.offset) = simp to_z-of_z at c.is_within.ensures in
    subst (λ (w : ℤ). IsTrue c.is_within.result ↔ IsWithin c.args.direction w) (sym (far_forward c.args.direction s c.in-Forward.is)) test

pub returns-in-Backward : goal.returns-in-Backward
returns-in-Backward c =
    let s = c.args.stretch.now in
    let begin : FitsSigned w64 s.begin = (end_small s).1 in
    let offset : FitsSigned w64 s.offset = (end_small s).2 in
    let wall : FitsSigned w64 (s.begin +ℤ s.offset) = (end_small s).5 in
    let test : IsTrue c.is_within-in-Backward.result ↔ IsWithin c.args.direction (s.begin +ℤ s.offset) = simp to_z-of_z at c.is_within-in-Backward.ensures in
    subst (λ (w : ℤ). IsTrue c.is_within-in-Backward.result ↔ IsWithin c.args.direction w) (sym (far_backward c.args.direction s c.in-Backward.is)) test
