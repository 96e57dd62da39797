use Rattle.std.proofs.Common.{refl, arith, ◌<ℤ◌, ◌≤ℤ◌, Result, Ok, Err, OnErr}
use Rattle.std.proofs.lemmas.Int.{ints}
use Rattle.croner_scheduler.specs.Views.{held_of}
use Rattle.croner_scheduler.proofs.Nearest.{none_due, awaits_due}
use Rattle.croner_scheduler.proofs.scheduler.Scheduler.give_by.Goals as goal

pub returns-then-turn-now-clause-taken : goal.returns-then-turn-now-clause-taken
returns-then-turn-now-clause-taken g c =
    let later : c.args.now <ℤ c.args.turn.second = omega (arith, ints, c.if-turn-now.true) in (
      none_due g.J.Recurring.runs (held_of g.T.CronDateTime.moment c.args.self.now) c.args.now c.args.turn c.requires.nearest later,
      record { jobs = λ id. refl; count = refl; next_id = refl },
    )

on_err : {A E : Type 0} (P : Type 0) (r : Result A E) → P → OnErr r P
on_err P (Ok a) h = tt
on_err P (Err e) h = h

pub returns-in_err-is_stopped-clause-due : goal.returns-in_err-is_stopped-clause-due
returns-in_err-is_stopped-clause-due g c =
    let le : c.args.turn.second ≤ℤ c.args.now = omega (arith, ints, c.if-turn-now.false) in
    on_err _ c.from_residual.result (awaits_due (held_of g.T.CronDateTime.moment c.args.self.now) c.args.now c.args.turn c.requires.awaited le)
