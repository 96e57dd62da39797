use Rattle.std.proofs.Common.{◌≡◌, ◌∙◌, sym, subst, arith, ◌≤◌, length, ℤ, ◌≤ℤ◌, w64, to_z, of_z, FitsSigned}
use Rattle.std.proofs.lemmas.Int.{ints, to_z-of_z}
use Rattle.croner_base.proofs.tables.TableTests.{instant_bounds}
use Rattle.croner_base.specs.TableZone.{table_zone}
use Rattle.croner.specs.Views.{job_of}
use Rattle.crontab_runs.specs.Starts.{Starts}
use Rattle.crontab_runs.specs.Views.{cron_job_of}
use Rattle.crontab_runs.proofs.StartBounds.{start_held}
use Rattle.crontab_runs.proofs.SearchLoops.{found_backward, over_backward, not_first, reached_before, none_before}
use Rattle.crontab_runs.proofs.job.CrontabJob.last_until.Goals as goal

pub returns-in-Found : goal.returns-in-Found
returns-in-Found c =
    let i = c.loop-step.invariant in
    let job = cron_job_of c.args.self.now in
    let none = subst (λ (b : ℤ). (j : ℤ) → j ≤ℤ c.args.until.now.second → b ≤ℤ j → Starts job (table_zone c.table-table.result.now) j → ⊥) (sym c.after_changes.ensures.end) i.none in
    found_backward job c.args.until.now c.table-table.result.now c.after_changes.result _ i.table c.after_changes.ensures.table i.second none c.in-Found.start
    (start_held (job_of c.args.self.now.cron) c.args.self.now.is_starred c.args.until.now.table.now) c.in-Found.ensures

pub returns-in-Over : goal.returns-in-Over
returns-in-Over c =
    let i = c.loop-step.invariant in
    let job = cron_job_of c.args.self.now in
    let none = subst (λ (b : ℤ). (j : ℤ) → j ≤ℤ c.args.until.now.second → b ≤ℤ j → Starts job (table_zone c.table-table.result.now) j → ⊥) (sym c.after_changes.ensures.end) i.none in
    over_backward job c.args.until.now c.table-table.result.now c.after_changes.result _ i.table c.after_changes.ensures.table i.second none c.in-Over.ensures

pub stretch_before-changes-requires-clause-some : goal.stretch_before-changes-requires-clause-some
stretch_before-changes-requires-clause-some c =
    let i = c.loop-step.invariant in
    let job = cron_job_of c.args.self.now in
    let none = subst (λ (b : ℤ). (j : ℤ) → j ≤ℤ c.args.until.now.second → b ≤ℤ j → Starts job (table_zone c.table-table.result.now) j → ⊥) (sym c.after_changes.ensures.end) i.none in
    not_first job c.args.until.now c.table-table.result.now c.after_changes.result _ i.table c.after_changes.ensures.table i.second none c.loop-step.changes (omega (arith, i.back, i.few)) c.after_changes.ensures.begin
    c.in-GoOn.ensures.0

pub stretch_before-changes-requires-clause-within : goal.stretch_before-changes-requires-clause-within
stretch_before-changes-requires-clause-within c = let i = c.loop-step.invariant in omega (arith, i.back, i.few)

pub loop-step-preserved : goal.loop-step-preserved
loop-step-preserved c =
    let i = c.loop-step.invariant in
    let job = cron_job_of c.args.self.now in
    let t = c.args.until.now in
    let s = c.after_changes.result in
    let n = c.loop-step.changes in
    let on = c.in-GoOn.ensures in
    let before = c.stretch_before-changes.ensures in
    let within : n ≤ length c.table-table.result.now.changes.items = omega (arith, i.back, i.few) in
    let none = subst (λ (b : ℤ). (j : ℤ) → j ≤ℤ t.second → b ≤ℤ j → Starts job (table_zone c.table-table.result.now) j → ⊥) (sym c.after_changes.ensures.end) i.none in
    record {
      table = i.table;
      second = i.second;
      few = i.few;
      back = omega (arith, i.back, before.on);
      reached = reached_before job t c.table-table.result.now s _ i.table c.after_changes.ensures.table i.second none n within c.after_changes.ensures.begin on.0 c.stretch_before-changes.result before i.reached;
      none = none_before job t c.table-table.result.now s _ i.table c.after_changes.ensures.table i.second none n within c.after_changes.ensures.begin on.0 c.stretch_before-changes.result before;
      known = on.1;
      backward = on.2;
    }

pub loop-step-init : goal.loop-step-init
loop-step-init c =
    let t = c.args.until.now in
    let b = instant_bounds t.second t.held in
    let v : c.second-from.result ≡ t.second = c.second-from.ensures.value in
    let fits : FitsSigned w64 c.second-from.result = omega (arith, ints, v, b) in
    let from : to_z w64 (of_z w64 c.second-from.result) ≡ t.second = to_z-of_z w64 c.second-from.result fits ∙ v in
    record {
      table = c.table-table.ensures;
      second = from;
      few = c.changes_until-count.ensures.bound;
      back = omega arith;
      reached = c.changes_until-count.ensures.begin;
      none = λ j upto ge starts. absurd (omega (arith, ints, upto, ge, c.changes_until-count.ensures.end, from));
      known = c.before_any_search-known.ensures.known (job_of c.args.self.now.cron);
      backward = c.before_any_search-known.ensures.direction;
    }
