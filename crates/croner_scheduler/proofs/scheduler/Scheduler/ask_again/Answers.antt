use Rattle.std.proofs.Common.{rules, ◌≡◌, refl, false, sym, ap, ◌∙◌, subst, Some, IsSome, is_some, option_map, length}
use Rattle.croner_scheduler.specs.Ids.{job_of}
use Rattle.croner_scheduler.specs.Calls.{MovesTo, AsksAgain, is_asked, IsStoppedBySearch}
use Rattle.croner_scheduler.specs.Kept.{standing_of, stop_of, is_paused, Fits}
use Rattle.croner_scheduler.specs.Private.Steps.{job_with_next}
use Rattle.croner_scheduler.specs.Standing.{Held}
use Rattle.croner_scheduler.specs.Views.{held_of}
use Rattle.croner_scheduler.proofs.Puts.{fits_search, stops_where, put_fits, put_moved, changed_puts, asked_by, stands_whole, of_standing}
use Rattle.croner_scheduler.proofs.scheduler.Scheduler.ask_again.Goals as goal

pub invariant_of-self-2 : goal.invariant_of-self-2
invariant_of-self-2 g c =
    let self = c.args.self.now in
    let w = c.in-Some.waiting.now in
    let there : job_of self.jobs c.args.id ≡ Some w = search rules in
    let other = job_with_next c.in_ok-next.next w in
    let fit : Fits g.J.Recurring.runs g.T.CronDateTime.moment other = record {
      whole = stands_whole g.J.Recurring.runs g.T.CronDateTime.moment (job_of self.jobs c.args.id) w (self.fits c.args.id) there;
      next = fits_search (g.J.Recurring.runs w.job) (g.T.CronDateTime.moment w.position) c.in_ok-next.next c.in_ok-next.ensures.fits;
    } in
    let puts = changed_puts c.args.id (λ k. job_of self.jobs k) (λ k. job_of c.renew.new.self k) w there (job_with_next c.in_ok-next.next) c.renew.ensures.jobs in
    record {
      turns_of = c.await_next.ensures.turns;
      fits = put_fits g.J.Recurring.runs g.T.CronDateTime.moment c.args.id (λ k. job_of self.jobs k) (λ k. job_of c.renew.new.self k)
          self.fits w there other fit puts;
    }

pub returns-clause-asked : goal.returns-clause-asked
returns-clause-asked g c =
    let self = c.args.self.now in
    let w = c.in-Some.waiting.now in
    let there : job_of self.jobs c.args.id ≡ Some w = search rules in
    let stopped : IsSome (stop_of w.next) = search rules in
    let searched : is_paused (stop_of w.next) ≡ false = search rules in
    let other = job_with_next c.in_ok-next.next w in
    let fit : Fits g.J.Recurring.runs g.T.CronDateTime.moment other = record {
      whole = stands_whole g.J.Recurring.runs g.T.CronDateTime.moment (job_of self.jobs c.args.id) w (self.fits c.args.id) there;
      next = fits_search (g.J.Recurring.runs w.job) (g.T.CronDateTime.moment w.position) c.in_ok-next.next c.in_ok-next.ensures.fits;
    } in
    let puts = changed_puts c.args.id (λ k. job_of self.jobs k) (λ k. job_of c.renew.new.self k) w there (job_with_next c.in_ok-next.next) c.renew.ensures.jobs in
    let held = held_of g.T.CronDateTime.moment self in
    let held' : Held _ = record { jobs = λ k. option_map (standing_of g.T.CronDateTime.moment) (job_of c.renew.new.self k); count = length c.renew.new.self.entries; next_id = c.renew.new.self.next_id } in
    subst (AsksAgain c.args.id held held') (sym (ap is_asked c.again_result.ensures ∙ asked_by (is_some (stop_of c.in_ok-next.next))))
    (of_standing g.T.CronDateTime.moment (λ s. IsStoppedBySearch s × MovesTo held c.args.id s.position.instant held')
    (job_of self.jobs c.args.id) w there (
      (stopped, searched),
      put_moved g.J.Recurring.runs g.T.CronDateTime.moment c.args.id (λ k. job_of self.jobs k) (λ k. job_of c.renew.new.self k)
          self.fits w there other fit puts
          held held' (λ k. refl) (λ k. refl) c.renew.ensures.count c.renew.ensures.next_id
          (stops_where (g.J.Recurring.runs w.job) (g.T.CronDateTime.moment w.position) c.in_ok-next.next c.in_ok-next.ensures.fits) refl refl,
    ))
