use Rattle.std.proofs.Common.{rules, ℤ, sym, subst, w64, SFits, Some}
use Rattle.std.proofs.lemmas.Int.{to_z-of_z}
use Rattle.croner_scheduler.specs.Awaited.{AwaitsFirst}
use Rattle.croner_scheduler.specs.Views.{held_of}
use Rattle.croner_scheduler.proofs.scheduler.Scheduler.next_wake_up.Goals as goal

pub returns-in-Some-clause-awaited : goal.returns-in-Some-clause-awaited
returns-in-Some-clause-awaited g c =
    let turn = c.in-Some.turn in
    let fits : SFits w64 turn.second = search rules in (
      turn.id,
      subst (λ (z : ℤ). AwaitsFirst (held_of g.T.CronDateTime.moment c.args.self.now) (Some (record { id = turn.id; second = z })))
          (sym (to_z-of_z w64 turn.second fits)) c.in-Some.ensures.awaited,
    )
