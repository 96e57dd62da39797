use Rattle.std.proofs.Common.{rules, arith, pos, ◌-ℤ◌, ◌*ℤ◌, ◌≤ℤ◌, w64, FitsSigned}
use Rattle.std.proofs.lemmas.Int.{ints, to_z-of_z}
use Rattle.croner.specs.Views.{job_of}
use Rattle.crontab_runs.specs.Private.Stretches.{begin_of}
use Rattle.crontab_runs.proofs.OnwardStretches.{next_is}
use Rattle.crontab_runs.proofs.job.CrontabJob.next_stretch.Goals as goal

pub returns : goal.returns
returns c =
    let k = c.args.known.now in
    let t = c.args.table.now in
    let minute = c.first-minute.ensures in
    let from : FitsSigned w64 k.from = search rules in
    let least : FitsSigned w64 c.least_after_begin.result = search rules in
    let first : FitsSigned w64 c.first-minute.result = omega (arith, ints, minute.low, minute.high) in
    let product : FitsSigned w64 (c.first-minute.result *ℤ pos 60) = omega (arith, ints, minute.low, minute.high) in
    let second : FitsSigned w64 (c.first-minute.result *ℤ pos 60 -ℤ pos 86_400) = omega (arith, ints, minute.low, minute.high) in
    let test = simp to_z-of_z at c.if-known-least_after_begin.false in
    let near : k.from ≤ℤ c.least_after_begin.result = grind (arith, ints, test) in
    let begins : begin_of t.changes.items c.changes_until.result ≤ℤ (c.first-minute.result *ℤ pos 60 -ℤ pos 86_400) = simp to_z-of_z at c.changes_until.ensures.begin in
    next_is (job_of c.args.self.now.cron) c.args.self.now.is_starred t k.direction k.from c.first-minute.result minute.all c.args.next c.requires.within c.after_changes.result c.after_changes.ensures.table
    c.after_changes.ensures.begin c.requires.forward c.changes_until.result c.max.result c.changes_until.ensures.bound (λ h. omega (arith, c.max.ensures, h)) (λ h. omega (arith, c.max.ensures, h))
    (omega (arith, ints, near, c.least_after_begin.ensures)) begins
