use Rattle.std.proofs.Common.{◌≡◌, arith, pos, ◌+ℤ◌, ◌∙◌, subst, ℤ, w64, FitsSigned}
use Rattle.std.proofs.lemmas.Int.{ints, to_z-of_z}
use Rattle.croner.specs.Views.{job_of}
use Rattle.crontab_runs.specs.Private.Known.{AreAllFrom}
use Rattle.croner_base.proofs.tables.TableTests.{le_of, lt_of}
use Rattle.crontab_runs.proofs.NoneDue.{none_ahead, none_back}
use Rattle.crontab_runs.proofs.job.CrontabJob.names_none.Goals as goal

pub returns-in-Forward : goal.returns-in-Forward
returns-in-Forward c =
    let after : FitsSigned w64 c.args.after = c.ranges.after in
    let upto : FitsSigned w64 c.args.upto = c.ranges.upto in
    let next : FitsSigned w64 (c.args.after +ℤ pos 1) = omega (arith, ints, c.requires.low, c.requires.order, c.requires.high) in
    let first : FitsSigned w64 c.first.result = omega (arith, ints, c.first.ensures.low, c.first.ensures.high) in
    let from : c.known_from.result.from ≡ c.args.after +ℤ pos 1 = simp to_z-of_z at c.known_from.ensures.from in
    λ test.
    let t = simp to_z-of_z at test in
    none_ahead (job_of c.args.self.now.cron) c.known_from.result.direction c.args.after c.args.upto c.known_from.result.from c.first.result (c.known_from.ensures.direction ∙ c.in-Forward.is) from
    c.first.ensures.all (lt_of c.args.upto c.first.result t)

pub returns-in-Backward : goal.returns-in-Backward
returns-in-Backward c =
    let m = job_of c.args.self.now.cron in
    let k = c.known_from-in-Backward.result in
    let after : FitsSigned w64 c.args.after = c.ranges.after in
    let upto : FitsSigned w64 c.args.upto = c.ranges.upto in
    let first : FitsSigned w64 c.first-in-Backward.result = omega (arith, ints, c.first-in-Backward.ensures.low, c.first-in-Backward.ensures.high) in
    let from : k.from ≡ c.args.upto = simp to_z-of_z at c.known_from-in-Backward.ensures.from in
    let all = subst (λ (x : ℤ). AreAllFrom k.direction m x c.first-in-Backward.result) from c.first-in-Backward.ensures.all in
    λ test.
    let t = simp to_z-of_z at test in
    none_back m k.direction c.args.after c.args.upto c.first-in-Backward.result (c.known_from-in-Backward.ensures.direction ∙ c.in-Backward.is) all (le_of c.first-in-Backward.result c.args.after t)
