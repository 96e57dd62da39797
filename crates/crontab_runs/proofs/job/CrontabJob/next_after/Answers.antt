use Rattle.std.proofs.Common.{◌≡◌, sym, subst, ap, arith, ◌+◌, List, length, ℤ, pos, ◌+ℤ◌, ◌<ℤ◌, w64, to_z, of_z, FitsSigned}
use Rattle.std.proofs.lemmas.Int.{ints, to_z-of_z}
use Rattle.croner_base.proofs.tables.TableTests.{instant_bounds}
use Rattle.croner_base.specs.TableZone.{table_zone}
use Rattle.croner.specs.Views.{job_of}
use Rattle.crontab_runs.specs.Starts.{Starts}
use Rattle.crontab_runs.specs.Views.{cron_job_of}
use Rattle.crontab_runs.proofs.StartBounds.{start_held}
use Rattle.crontab_runs.proofs.SearchLoops.{found_forward, over_forward, not_last, reached_next, none_next}
use Rattle.crontab_runs.proofs.job.CrontabJob.next_after.Goals as goal

pub returns-in-Found : goal.returns-in-Found
returns-in-Found c =
    let i = c.loop-step.invariant in
    let job = cron_job_of c.args.self.now in
    let none = subst (λ (b : ℤ). (j : ℤ) → c.args.after.now.second <ℤ j → j <ℤ b → Starts job (table_zone c.table-table.result.now) j → ⊥) (sym c.after_changes.ensures.begin) i.none in
    found_forward job c.args.after.now c.table-table.result.now c.after_changes.result _ i.table c.after_changes.ensures.table i.second none c.in-Found.start
    (start_held (job_of c.args.self.now.cron) c.args.self.now.is_starred c.args.after.now.table.now) c.in-Found.ensures

pub returns-in-Over : goal.returns-in-Over
returns-in-Over c =
    let i = c.loop-step.invariant in
    let job = cron_job_of c.args.self.now in
    let none = subst (λ (b : ℤ). (j : ℤ) → c.args.after.now.second <ℤ j → j <ℤ b → Starts job (table_zone c.table-table.result.now) j → ⊥) (sym c.after_changes.ensures.begin) i.none in
    over_forward job c.args.after.now c.table-table.result.now c.after_changes.result _ i.table c.after_changes.ensures.table i.second none c.in-Over.ensures

pub next_stretch-changes-requires-clause-within : goal.next_stretch-changes-requires-clause-within
next_stretch-changes-requires-clause-within c =
    let i = c.loop-step.invariant in
    let job = cron_job_of c.args.self.now in
    let none = subst (λ (b : ℤ). (j : ℤ) → c.args.after.now.second <ℤ j → j <ℤ b → Starts job (table_zone c.table-table.result.now) j → ⊥) (sym c.after_changes.ensures.begin) i.none in
    not_last job c.args.after.now c.table-table.result.now c.after_changes.result _ i.table c.after_changes.ensures.table i.second none c.loop-step.changes i.within c.after_changes.ensures.end c.in-GoOn.ensures.0

pub loop-step-preserved : goal.loop-step-preserved
loop-step-preserved c =
    let i = c.loop-step.invariant in
    let job = cron_job_of c.args.self.now in
    let t = c.args.after.now in
    let s = c.after_changes.result in
    let n = c.loop-step.changes in
    let on = c.in-GoOn.ensures in
    let next = c.next_stretch-changes.ensures in
    let none = subst (λ (b : ℤ). (j : ℤ) → t.second <ℤ j → j <ℤ b → Starts job (table_zone c.table-table.result.now) j → ⊥) (sym c.after_changes.ensures.begin) i.none in
    record {
      table = i.table;
      second = i.second;
      within = next.within;
      ahead = omega (arith, i.ahead, next.on);
      last = i.last;
      reached = reached_next job t c.table-table.result.now s _ i.table c.after_changes.ensures.table i.second none n i.within c.after_changes.ensures.end on.0 c.next_stretch-changes.result next i.reached;
      none = none_next job t c.table-table.result.now s _ i.table c.after_changes.ensures.table i.second none n i.within c.after_changes.ensures.end on.0 c.next_stretch-changes.result next;
      known = on.1;
      forward = on.2;
    }

pub loop-step-init : goal.loop-step-init
loop-step-init c =
    let t = c.args.after.now in
    let b = instant_bounds t.second t.held in
    let v : c.second-from.result ≡ t.second = c.second-from.ensures.value in
    let fits : FitsSigned w64 c.second-from.result = omega (arith, ints, v, b) in
    let sum : FitsSigned w64 (c.second-from.result +ℤ pos 1) = omega (arith, ints, v, b) in
    let from : to_z w64 (of_z w64 (to_z w64 (of_z w64 c.second-from.result) +ℤ pos 1)) ≡ t.second +ℤ pos 1 = (simp to_z-of_z (ap (λ (x : ℤ). x +ℤ pos 1) v)) in
    record {
      table = c.table-table.ensures;
      second = from;
      within = c.changes_until-changes.ensures.bound;
      ahead = omega arith;
      last = ap (λ (xs : List (ℤ × ℤ)). length xs + 1) c.changes.ensures;
      reached = c.changes_until-changes.ensures.end;
      none = λ j after lt starts. absurd (omega (arith, ints, after, lt, c.changes_until-changes.ensures.begin, from));
      known = c.before_any_search-known.ensures.known (job_of c.args.self.now.cron);
      forward = c.before_any_search-known.ensures.direction;
    }
