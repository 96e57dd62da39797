use Rattle.std.proofs.Common.{◌≡◌, refl, sym, ap, ◌∙◌, subst, Option, Some, None, option_map}
use Rattle.std.specs.BTreeMap.{is_at}
use Rattle.std.specs.List.Sorted.{IsStrictlySortedBy}
use Rattle.std.specs.Map.{lookup, keys_of}
use Rattle.std.specs.Option.{option_and_then}
use Rattle.std.specs.Ordering.{nat_cmp}
use Rattle.croner_base.specs.Zone.{Moment}
use Rattle.croner_scheduler.specs.Ids.{job_of}
use Rattle.croner_scheduler.proofs.StopLists.{shown_in_order, shown_at}
use Rattle.croner_scheduler.specs.Kept.{stop_of, standing_of}
use Rattle.croner_scheduler.specs.declared.waiting.Waiting.{Waiting}
use Rattle.croner_scheduler.proofs.scheduler.Scheduler.stopped.Goals as goal

of_standing : {J T : Type 0} (moment : T → Moment) (o : Option (Waiting J T))
    → option_and_then (λ w. stop_of w.next) o ≡ option_and_then (λ s. s.stop) (option_map (standing_of moment) o)
of_standing moment None = refl
of_standing moment (Some w) = refl

pub returns-clause-stops : goal.returns-clause-stops
returns-clause-stops g c id =
    shown_at (λ w. stop_of w.next) id c.iter.result (subst (λ es. IsStrictlySortedBy nat_cmp (keys_of es)) (sym c.iter.ensures.entries) c.iter.ensures.ordered)
    ∙ ap (λ es. option_and_then (λ w. stop_of w.next) (lookup (is_at (nat_cmp id)) es)) c.iter.ensures.entries
    ∙ of_standing g.T.CronDateTime.moment (job_of c.args.self.now.jobs id)

pub returns-clause-ordered : goal.returns-clause-ordered
returns-clause-ordered g c =
    shown_in_order (λ w. stop_of w.next) c.iter.result (subst (λ es. IsStrictlySortedBy nat_cmp (keys_of es)) (sym c.iter.ensures.entries) c.iter.ensures.ordered)
