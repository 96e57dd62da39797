use Rattle.std.proofs.Common.{rules, ◌≡◌, refl, ap, subst, ℤ, ◌<ℤ◌, true, None, Some, Result, Ok, Err, IfOk, IfSome, w64, SFits, option_map}
use Rattle.std.proofs.lemmas.Int.{to_z-of_z}
use Rattle.croner_base.specs.Zone.{at_instant}
use Rattle.croner_scheduler.specs.Ids.{job_of}
use Rattle.croner_scheduler.proofs.LastRuns.{due_by, not_due, takes}
use Rattle.croner_scheduler.proofs.Puts.{fits_there, of_standing}
use Rattle.croner_scheduler.specs.Calls.{IsNotDue, TakesLatest}
use Rattle.croner_scheduler.specs.Kept.{standing_of}
use Rattle.croner_scheduler.specs.Private.Latest.{due_second, FitsLast, IsLastGiven}
use Rattle.croner_scheduler.specs.Views.{held_of}
use Rattle.croner_scheduler.proofs.scheduler.Scheduler.take_latest_due.Goals as goal

pub returns-in_default-due_second-clause-taken : goal.returns-in_default-due_second-clause-taken
returns-in_default-due_second-clause-taken g c =
    let self = c.args.self.now in
    let w = c.in-Some.waiting.now in
    let there : job_of self.jobs c.args.id ≡ Some w = search rules in
    let none : due_second c.args.now w.next ≡ None = search rules in
    let fits = fits_there g.J.Recurring.runs g.T.CronDateTime.moment (job_of self.jobs c.args.id) w (self.fits c.args.id) there in (
      of_standing g.T.CronDateTime.moment (λ s. IsNotDue g.J.Recurring.runs c.args.now s × IfSome s.next (λ n. c.args.now <ℤ n)) (job_of self.jobs c.args.id) w there
          (not_due g.J.Recurring.runs g.T.CronDateTime.moment c.args.now w fits none),
      record { jobs = λ id. refl; count = refl; next_id = refl },
    )

if_ok : {A E : Type 0} (P Q : A → Type 0) (r : Result A E) → IfOk r P → ((a : A) → P a → Q a) → IfOk r Q
if_ok P Q (Ok a) h f = f a h
if_ok P Q (Err e) h f = tt

pub returns-clause-taken : goal.returns-clause-taken
returns-clause-taken g c =
    let self = c.args.self.now in
    let held = held_of g.T.CronDateTime.moment self in
    let held' = held_of g.T.CronDateTime.moment c.give_last.new.self in
    let w = c.in-Some.waiting.now in
    let known = c.in-Some-due_second.known in
    let there : job_of self.jobs c.args.id ≡ Some w = search rules in
    let run : due_second c.args.now w.next ≡ Some known = search rules in
    let due = due_by c.args.now w.next known run in
    let fits = fits_there g.J.Recurring.runs g.T.CronDateTime.moment (job_of self.jobs c.args.id) w (self.fits c.args.id) there in
    let whole : SFits w64 known = search rules in
    let now_fits : SFits w64 c.args.now = search rules in
    let at = subst (λ (z : ℤ). (g.T.CronDateTime.moment c.in-Some-at_second.until ≡ at_instant (g.T.CronDateTime.moment w.position).zone z) × ((g.T.CronDateTime.moment w.position).zone.holds z ≡ true))
    (to_z-of_z w64 c.args.now now_fits) c.in-Some-at_second.ensures in
    let last = subst (λ m. FitsLast (g.J.Recurring.runs w.job) g.T.CronDateTime.moment known m c.in_ok-last.last) at.0
    (subst (λ (z : ℤ). FitsLast (g.J.Recurring.runs w.job) g.T.CronDateTime.moment z (g.T.CronDateTime.moment c.in-Some-at_second.until) c.in_ok-last.last)
    (to_z-of_z w64 known whole) c.in_ok-last.ensures.fits) in
    if_ok (IsLastGiven g.T.CronDateTime.moment held c.args.id _ c.in_ok-last.last held') (TakesLatest g.J.Recurring.runs c.args.id c.args.now held held')
    c.give_last.result c.give_last.ensures.given
    (λ answer given. takes g.J.Recurring.runs g.T.CronDateTime.moment c.args.now w fits known due.0 due.1 held held' c.args.id
    (ap (option_map (standing_of g.T.CronDateTime.moment)) there) at.1 c.in_ok-last.last last answer
    (subst (λ (z : ℤ). IsLastGiven g.T.CronDateTime.moment held c.args.id z c.in_ok-last.last held' answer) (to_z-of_z w64 known whole) given))
