use Rattle.std.proofs.Common.{refl}
use Rattle.std.specs.BinaryHeap.{heap_items}
use Rattle.croner_scheduler.specs.Ids.{job_of}
use Rattle.croner_scheduler.specs.Views.{held_of}
use Rattle.croner_scheduler.proofs.Nearest.{nearest, awaits_first}
use Rattle.croner_scheduler.proofs.TurnHeap.{first_awaited}
use Rattle.croner_scheduler.proofs.scheduler.Scheduler.nearest_turn.Goals as goal

pub returns-clause-nearest : goal.returns-clause-nearest
returns-clause-nearest g c =
    let self = c.args.self.now in
    nearest g.J.Recurring.runs g.T.CronDateTime.moment (held_of g.T.CronDateTime.moment self) (λ id. job_of self.jobs id) (λ id. refl) self.fits
    c.first_turn.result (first_awaited (λ id. job_of self.jobs id) (heap_items self.turns) self.turns_of c.first_turn.result c.first_turn.ensures.top c.first_turn.ensures.first)

pub returns-clause-awaited : goal.returns-clause-awaited
returns-clause-awaited g c =
    let self = c.args.self.now in
    awaits_first g.T.CronDateTime.moment (held_of g.T.CronDateTime.moment self) (λ id. job_of self.jobs id) (λ id. refl)
    c.first_turn.result (first_awaited (λ id. job_of self.jobs id) (heap_items self.turns) self.turns_of c.first_turn.result c.first_turn.ensures.top c.first_turn.ensures.first)
