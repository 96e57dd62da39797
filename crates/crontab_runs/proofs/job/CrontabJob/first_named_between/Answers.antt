use Rattle.std.proofs.Common.{◌≡◌, ap, sym, subst, arith, pos, ◌+ℤ◌, ◌*ℤ◌, ◌≤ℤ◌, ◌<ℤ◌, ℤ, w64, to_z, FitsSigned}
use Rattle.std.proofs.lemmas.Int.{ints, by_lt_z, to_z-of_z}
use Rattle.croner.specs.Views.{job_of}
use Rattle.crontab_runs.specs.Starts.{minute_of, NamesMinute}
use Rattle.crontab_runs.proofs.DueMinutes.{minute_is}
use Rattle.crontab_runs.proofs.job.CrontabJob.first_named_between.Goals as goal

pub returns-then-names : goal.returns-then-names
returns-then-names c =
    let names = NamesMinute (job_of c.args.self.now.cron) in
    let m : ℤ = to_z w64 c.loop-minute.minute-bits in
    let after : FitsSigned w64 c.args.after = c.ranges.after in
    let before : FitsSigned w64 c.args.before = c.ranges.before in
    let next : FitsSigned w64 (c.args.after +ℤ pos 1) = omega (arith, ints, c.requires.low, c.requires.order, c.requires.high) in
    let i = simp to_z-of_z at c.loop-minute.invariant in
    let t = simp to_z-of_z at c.loop-minute-test.true in
    let below : m <ℤ c.args.before = grind (arith, ints, t) in
    let product : FitsSigned w64 (m *ℤ pos 60) = omega (arith, ints, below, i.from, c.requires.low, c.requires.high) in
    let minute : minute_of (m *ℤ pos 60) ≡ m = minute_is (m *ℤ pos 60) m (omega (arith, ints)) (omega (arith, ints)) in
    simp to_z-of_z (record {
      begins = sym (ap (λ (x : ℤ). x *ℤ pos 60) minute);
      later = omega (arith, ints, minute, i.from);
      ahead = omega (arith, ints, minute, below);
      named = subst names (sym minute) (c.names.ensures.0 c.if-names.true);
      first = λ j low named. by_lt_z j m (λ less. absurd (i.none j low less named)) (λ more. omega (arith, ints, minute, more));
    })

pub loop-minute-preserved : goal.loop-minute-preserved
loop-minute-preserved c =
    let names = NamesMinute (job_of c.args.self.now.cron) in
    let m : ℤ = to_z w64 c.loop-minute.minute-bits in
    let after : FitsSigned w64 c.args.after = c.ranges.after in
    let before : FitsSigned w64 c.args.before = c.ranges.before in
    let first : FitsSigned w64 (c.args.after +ℤ pos 1) = omega (arith, ints, c.requires.low, c.requires.order, c.requires.high) in
    let i = simp to_z-of_z at c.loop-minute.invariant in
    let t = simp to_z-of_z at c.loop-minute-test.true in
    let below : m <ℤ c.args.before = grind (arith, ints, t) in
    let next : FitsSigned w64 (m +ℤ pos 1) = omega (arith, ints, below, i.from, c.requires.low, c.requires.high) in
    let other : names m → ⊥ = λ named. let yes = c.names.ensures.1 named in let no = c.if-names.false in cc in
    simp to_z-of_z (record {
      none = λ k low high named. by_lt_z k m (λ less. i.none k low less named)
          (λ more. let same : k ≡ m = omega (arith, ints, more, high) in other (subst names same named));
      from = omega (arith, ints, i.from);
    })

pub returns : goal.returns
returns c = λ k low high named.
    let m : ℤ = to_z w64 c.loop-minute.minute-bits in
    let after : FitsSigned w64 c.args.after = c.ranges.after in
    let before : FitsSigned w64 c.args.before = c.ranges.before in
    let i = simp to_z-of_z at c.loop-minute.invariant in
    let t = simp to_z-of_z at c.loop-minute-test.false in
    let past : c.args.before ≤ℤ m = grind (arith, ints, t) in
    i.none k low (omega (arith, ints, past, high)) named
