use Rattle.std.specs.BinaryHeap.{heap_items}
use Rattle.croner_scheduler.specs.Ids.{job_of}
use Rattle.croner_scheduler.proofs.Passed.{passed_fits}
use Rattle.croner_scheduler.proofs.TurnHeap.{passed_turns}
use Rattle.croner_scheduler.proofs.scheduler.Scheduler.move_before_next.Goals as goal

pub invariant_of-self : goal.invariant_of-self
invariant_of-self g c =
    let self = c.args.self.now in
    record {
      turns_of = passed_turns (λ k. job_of self.jobs k) (λ k. job_of c.move_before_next.new.self k) (heap_items self.turns) c.args.id c.args.position
          c.move_before_next.ensures.jobs self.turns_of;
      fits = passed_fits g.J.Recurring.runs g.T.CronDateTime.moment c.args.id c.args.position (λ k. job_of self.jobs k) (λ k. job_of c.move_before_next.new.self k)
          self.fits c.requires.whole c.requires.can c.move_before_next.ensures.jobs;
    }
