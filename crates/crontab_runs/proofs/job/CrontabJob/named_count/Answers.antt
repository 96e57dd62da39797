use Rattle.std.proofs.Common.{◌≡◌, subst, refl, arith, pos, ◌+ℤ◌, ◌-ℤ◌, ◌≤ℤ◌, ◌<ℤ◌, ℤ, [], w64, to_z, FitsSigned}
use Rattle.std.proofs.lemmas.Int.{ints, to_z-of_z}
use Rattle.croner.specs.Views.{job_of}
use Rattle.crontab_runs.specs.Starts.{NamesMinute, AreNamed}
use Rattle.crontab_runs.specs.Private.Due.{IsNamedCount}
use Rattle.crontab_runs.proofs.NamedMinutes.{none_named, one_counted, none_counted}
use Rattle.crontab_runs.proofs.job.CrontabJob.named_count.Goals as goal
use Rattle.crontab_runs.proofs.job.CrontabJob.named_count.Goals.{then-names, else-names}

pub loop-minute-init : goal.loop-minute-init
loop-minute-init c =
    let names = NamesMinute (job_of c.args.self.now.cron) in
    let after : FitsSigned w64 c.args.after = c.ranges.after in
    let upto : FitsSigned w64 c.args.upto = c.ranges.upto in
    let next : FitsSigned w64 (c.args.after +ℤ pos 1) = omega (arith, ints, c.requires.low, c.requires.order, c.requires.high) in
    let same : c.args.after ≡ c.args.after +ℤ pos 1 -ℤ pos 1 = omega (arith, ints) in
    simp to_z-of_z (record {
      counted = ([], subst (λ (u : ℤ). AreNamed names c.args.after u []) same (none_named names c.args.after), refl);
      few = omega (arith, ints);
      upto = omega (arith, ints, c.requires.order);
    })

pub loop-minute-preserved : goal.loop-minute-preserved
loop-minute-preserved c =
    let names = NamesMinute (job_of c.args.self.now.cron) in
    let m : ℤ = to_z w64 c.loop-minute.minute-bits in
    let after : FitsSigned w64 c.args.after = c.ranges.after in
    let upto : FitsSigned w64 c.args.upto = c.ranges.upto in
    let end : FitsSigned w64 (c.args.upto +ℤ pos 1) = omega (arith, ints, c.requires.low, c.requires.order, c.requires.high) in
    let i = simp to_z-of_z at c.loop-minute.invariant in
    let t = simp to_z-of_z at c.loop-minute-test.true in
    let below : m <ℤ (c.args.upto +ℤ pos 1) = grind (arith, ints, t) in
    let next : FitsSigned w64 (m +ℤ pos 1) = omega (arith, ints, below, i.few, c.requires.low, c.requires.high) in
    elim c.if-names.branch [
      | then-names w ↦ simp to_z-of_z (record {
        counted = one_counted names c.args.after m (m +ℤ pos 1) c.loop-minute.count c.if-names.count (omega (arith, ints, i.few)) refl w.count-is (c.names.ensures.0 w.if-names.true) i.counted;
        few = omega (arith, ints, i.few, w.count-is);
        upto = omega (arith, ints, below);
      })
      | else-names w ↦ simp to_z-of_z (record {
        counted = none_counted names c.args.after m (m +ℤ pos 1) c.loop-minute.count c.if-names.count refl w.count-is (λ named. let t = c.names.ensures.1 named in let f = w.if-names.false in cc) i.counted;
        few = omega (arith, ints, i.few, w.count-is);
        upto = omega (arith, ints, below);
      })
    ]

pub returns : goal.returns
returns c =
    let names = NamesMinute (job_of c.args.self.now.cron) in
    let m : ℤ = to_z w64 c.loop-minute.minute-bits in
    let after : FitsSigned w64 c.args.after = c.ranges.after in
    let upto : FitsSigned w64 c.args.upto = c.ranges.upto in
    let end : FitsSigned w64 (c.args.upto +ℤ pos 1) = omega (arith, ints, c.requires.low, c.requires.order, c.requires.high) in
    let i = simp to_z-of_z at c.loop-minute.invariant in
    let t = simp to_z-of_z at c.loop-minute-test.false in
    let past : (c.args.upto +ℤ pos 1) ≤ℤ m = grind (arith, ints, t) in
    let same : m -ℤ pos 1 ≡ c.args.upto = omega (arith, ints, past, i.upto) in
    subst (λ (u : ℤ). IsNamedCount names c.args.after u c.loop-minute.count) same i.counted
