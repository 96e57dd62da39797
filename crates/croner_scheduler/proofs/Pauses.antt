-- What a scheduler holds stays in order when a job is paused.
use Rattle.std.proofs.Common.{◌≡◌, sym, ap, ◌∙◌, subst, ℕ, ℤ, false, cond, Option, Some, None, IfSome, option_map}
use Rattle.std.proofs.Math.Logic.{∥∥₁_map}
use Rattle.std.specs.BTreeMap.{is_at}
use Rattle.std.specs.Ordering.{nat_cmp}
use Rattle.croner_base.specs.Zone.{Zone, Moment}
use Rattle.croner_scheduler.proofs.SameIds.{own_id, each}
use Rattle.croner_scheduler.specs.declared.waiting.Next.TheVariants.{Stopped}
use Rattle.croner_scheduler.specs.declared.waiting.Stop.TheVariants.{Paused}
use Rattle.croner_scheduler.specs.declared.waiting.Waiting.{Waiting}
use Rattle.croner_scheduler.specs.Kept.{Fits}
use Rattle.croner_scheduler.specs.Private.Steps.{jobs_with, job_with_next}

module _ {J T : Type 0} (runs : J → Zone → ℤ → Type 0) (moment : T → Moment) (id : ℕ) (jobs jobs' : ℕ → Option (Waiting J T))
    (fits : (k : ℕ) → ∥ IfSome (jobs k) (Fits runs moment) ∥₁) (pauses : (k : ℕ) → jobs' k ≡ jobs_with id (job_with_next (Stopped Paused)) k (jobs k)) where
  paused_apart : (k : ℕ) → is_at (nat_cmp id) k ≡ false → jobs' k ≡ jobs k
  paused_apart k e = pauses k ∙ ap (λ b. cond b (option_map (job_with_next (Stopped Paused)) (jobs k)) (jobs k)) e

  paused_own : jobs' id ≡ option_map (job_with_next (Stopped Paused)) (jobs id)
  paused_own = pauses id ∙ ap (λ b. cond b (option_map (job_with_next (Stopped Paused)) (jobs id)) (jobs id)) (own_id id)

  pub paused_fits : (k : ℕ) → ∥ IfSome (jobs' k) (Fits runs moment) ∥₁
  paused_fits = each id (λ k. ∥ IfSome (jobs' k) (Fits runs moment) ∥₁)
      (subst (λ o. ∥ IfSome o (Fits runs moment) ∥₁) (sym paused_own) (∥∥₁_map (fits id) (own (jobs id))))
      (λ k e. subst (λ o. ∥ IfSome o (Fits runs moment) ∥₁) (sym (paused_apart k e)) (fits k))
    where
      own : (o : Option (Waiting J T)) → IfSome o (Fits runs moment) → IfSome (option_map (job_with_next (Stopped Paused)) o) (Fits runs moment)
      own None fits = tt
      own (Some w) fits = record { whole = fits.whole; next = tt }
