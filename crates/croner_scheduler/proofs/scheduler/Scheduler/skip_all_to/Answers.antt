use Rattle.std.proofs.Common.{rules, ◌≡◌, sym, ap, subst, arith, ℕ, ◌≤◌, ◌<◌, ℤ, None, Result, Ok, Err, OnErr, option_map, w64, SFits}
use Rattle.std.proofs.lemmas.Int.{to_z-of_z}
use Rattle.std.specs.Option.{IsSomeAnd}
use Rattle.croner_scheduler.proofs.Skips.{TellsUpTo, one_more, one_told, skipped_below, was_there}
use Rattle.croner_scheduler.specs.Calls.{SkipsBelow, IsToMove}
use Rattle.croner_scheduler.specs.Kept.{standing_of}
use Rattle.croner_scheduler.specs.Views.{held_of}
use Rattle.croner_scheduler.proofs.scheduler.Scheduler.skip_all_to.Goals as goal

on_err : {A E : Type 0} (P : Type 0) (r : Result A E) → P → OnErr r P
on_err P (Ok a) h = tt
on_err P (Err e) h = h

pub returns-in_err-skip-clause-refused : goal.returns-in_err-skip-clause-refused
returns-in_err-skip-clause-refused g c =
    let moment = g.T.CronDateTime.moment in
    let held = held_of moment c.args.self.now in
    let between = held_of moment c.loop-id.self in
    let held' = held_of moment c.skip_to.new.self in
    let fits : SFits w64 c.args.now = search rules in
    let none : (k : ℕ) → c.loop-id.from ≤ k → k < c.in-Some.id → between.jobs k ≡ None =
    (λ k above below. ap (option_map (standing_of moment)) (c.in-Some.ensures.between k above below)) in
    on_err _ c.from_residual.result (
      c.in-Some.id,
      subst (λ (z : ℤ). SkipsBelow c.in-Some.id z held held') (to_z-of_z w64 c.args.now fits)
          (skipped_below _ held c.loop-id.from c.in-Some.id between c.loop-id.invariant.0 c.in-Some.ensures.found.0 none held' c.in_err-skip.ensures.same),
      subst (λ (z : ℤ). IsSomeAnd (held.jobs c.in-Some.id) (IsToMove z)) (to_z-of_z w64 c.args.now fits)
          (was_there _ held c.loop-id.from c.in-Some.id between c.loop-id.invariant.0 c.in-Some.ensures.found.0 none held' c.in_err-skip.ensures.same
          (IsToMove _) c.in_err-skip.ensures.refused),
    )

pub loop-id-preserved : goal.loop-id-preserved
loop-id-preserved g c =
    let moment = g.T.CronDateTime.moment in
    let held = held_of moment c.args.self.now in
    let between = held_of moment c.loop-id.self in
    let held' = held_of moment c.skip_to.new.self in
    let none : (k : ℕ) → c.loop-id.from ≤ k → k < c.in-Some.id → between.jobs k ≡ None =
    (λ k above below. ap (option_map (standing_of moment)) (c.in-Some.ensures.between k above below)) in (
      one_more _ held c.loop-id.from c.in-Some.id between c.loop-id.invariant.0 c.in-Some.ensures.found.0 none held' c.in_ok-skip.skip c.in_ok-skip.ensures.skipped,
      subst (TellsUpTo _ held _ held') (sym c.is_stopped_or-has_stopped.ensures)
          (one_told _ held c.loop-id.from c.in-Some.id between c.loop-id.invariant.0 c.in-Some.ensures.found.0 none held' c.in_ok-skip.skip c.in_ok-skip.ensures.skipped
          c.loop-id.has_stopped c.loop-id.invariant.1 c.in_ok-skip.ensures.told),
      (omega (arith, c.loop-id.invariant.2.0, c.skip_to.ensures.no_less.0), omega (arith, c.loop-id.invariant.2.1, c.skip_to.ensures.no_less.1)),
    )
