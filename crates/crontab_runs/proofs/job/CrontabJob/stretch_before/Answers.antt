use Rattle.std.proofs.Common.{rules, arith, pos, ◌+ℤ◌, ◌*ℤ◌, ◌≤ℤ◌, ◌<ℤ◌, w64, FitsSigned}
use Rattle.std.proofs.lemmas.Int.{ints, to_z-of_z}
use Rattle.croner.specs.Views.{job_of}
use Rattle.crontab_runs.specs.Private.Stretches.{end_of}
use Rattle.crontab_runs.specs.Views.{cron_job_of}
use Rattle.crontab_runs.proofs.BeginStarts.{shown_found}
use Rattle.crontab_runs.proofs.OnwardStretches.{before_at_once, before_is}
use Rattle.crontab_runs.proofs.job.CrontabJob.stretch_before.Goals as goal

pub returns-then-known-minute_of : goal.returns-then-known-minute_of
returns-then-known-minute_of c = before_at_once (cron_job_of c.args.self.now) c.args.table.now c.args.changes c.requires.within c.requires.some

pub returns : goal.returns
returns c =
    let k = c.args.known.now in
    let t = c.args.table.now in
    let minute = c.first-minute.ensures in
    let from : FitsSigned w64 k.from = search rules in
    let shown : FitsSigned w64 c.minute_of.result = search rules in
    let first : FitsSigned w64 c.first-minute.result = omega (arith, ints, minute.low, minute.high) in
    let sum : FitsSigned w64 (c.first-minute.result +ℤ pos 180) = omega (arith, ints, minute.low, minute.high) in
    let product : FitsSigned w64 ((c.first-minute.result +ℤ pos 180) *ℤ pos 60) = omega (arith, ints, minute.low, minute.high) in
    let second : FitsSigned w64 ((c.first-minute.result +ℤ pos 180) *ℤ pos 60 +ℤ pos 86_400) = omega (arith, ints, minute.low, minute.high) in
    let test = simp to_z-of_z at c.if-known-minute_of.false in
    let near : c.minute_of.result ≤ℤ k.from = grind (arith, ints, test) in
    let ends : ((c.first-minute.result +ℤ pos 180) *ℤ pos 60 +ℤ pos 86_400) <ℤ end_of t.changes.items c.changes_until.result = simp to_z-of_z at c.changes_until.ensures.end in
    before_is (job_of c.args.self.now.cron) c.args.self.now.is_starred t k.direction k.from c.first-minute.result minute.all c.args.changes c.requires.within c.after_changes.result c.after_changes.ensures.table
    c.after_changes.ensures.begin c.requires.backward c.requires.some c.changes_until.result c.min.result (λ h. omega (arith, c.min.ensures, h)) (λ h. omega (arith, c.min.ensures, h))
    (omega (arith, ints, near, (shown_found c.after_changes.result c.minute_of.result c.minute_of.ensures).0)) ends
