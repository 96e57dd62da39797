use Rattle.croner_scheduler.proofs.Pauses.{paused_fits}
use Rattle.croner_scheduler.specs.Ids.{job_of}
use Rattle.croner_scheduler.proofs.scheduler.Scheduler.pause.Goals as goal

pub invariant_of-self : goal.invariant_of-self
invariant_of-self g c =
    let self = c.args.self.now in
    record {
      turns_of = c.settle.ensures.turns;
      fits = paused_fits g.J.Recurring.runs g.T.CronDateTime.moment c.args.id (λ k. job_of self.jobs k) (λ k. job_of c.renew.new.self k)
          self.fits c.renew.ensures.jobs;
    }
