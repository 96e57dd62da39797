-- What a scheduler holds stays in order when a job is put in the place of one: another job, or the same at another position or with another
-- run next.
use Rattle.std.proofs.Common.{◌≡◌, refl, sym, ap, ◌∙◌, subst, ℕ, ℤ, Bool, true, false, cond, Option, Some, IfSome, option_map}
use Rattle.std.proofs.Math.Logic.{∥∥₁_elim}
use Rattle.std.proofs.Props.{props}
use Rattle.std.proofs.lemmas.Grind.{merely}
use Rattle.std.specs.BTreeMap.{is_at}
use Rattle.std.specs.Option.{IsSomeAnd}
use Rattle.std.specs.Ordering.{nat_cmp}
use Rattle.croner_base.specs.Zone.{Zone, Moment}
use Rattle.croner_scheduler.proofs.SameIds.{own_id, other_id, each}
use Rattle.croner_scheduler.specs.declared.waiting.Next.{Next}
use Rattle.croner_scheduler.specs.declared.waiting.Next.TheVariants.{Run, Over, Stopped}
use Rattle.croner_scheduler.specs.declared.waiting.Stop.{Stop}
use Rattle.croner_scheduler.specs.declared.waiting.Stop.TheVariants.{NotLater, Refused, Paused}
use Rattle.croner_scheduler.specs.declared.waiting.Waiting.{Waiting}
use Rattle.croner_scheduler.specs.Calls.{StandsAt, is_asked, IsSameBut, MovesTo}
use Rattle.croner_scheduler.specs.Kept.{standing_of, stop_of, StopsAt, CanBeAt, FitsNext, FitsOrPaused, Fits}
use Rattle.croner_scheduler.specs.Standing.{Standing, Held}
use Rattle.croner_scheduler.specs.Private.Steps.{jobs_with, again_of}

-- where a job stops, the reason holds there
pub stops_where : (rs : Zone → ℤ → Type 0) (m : Moment) (n : Next) → FitsNext rs m n → IfSome (stop_of n) (StopsAt m)
stops_where rs m (Run i) fits = tt
stops_where rs m Over fits = tt
stops_where rs m (Stopped stop) fits = fits

-- a stop that a search makes can be there
pub can_be : (m : Moment) (stop : Stop) → StopsAt m stop → CanBeAt m stop
can_be m NotLater why = why
can_be m (Refused refusal) why = why
can_be m Paused why = absurd why

-- what a search finds next fits
pub fits_search : (rs : Zone → ℤ → Type 0) (m : Moment) (n : Next) → FitsNext rs m n → FitsOrPaused rs m n
fits_search rs m (Run i) fits = fits
fits_search rs m Over fits = fits
fits_search rs m (Stopped stop) fits = can_be m stop fits

module _ {J T : Type 0} (runs : J → Zone → ℤ → Type 0) (moment : T → Moment) (id : ℕ) (jobs jobs' : ℕ → Option (Waiting J T))
    (fits : (k : ℕ) → ∥ IfSome (jobs k) (Fits runs moment) ∥₁)
    (w : Waiting J T) (there : jobs id ≡ Some w) (other : Waiting J T) (fit : Fits runs moment other)
    (puts : (k : ℕ) → jobs' k ≡ jobs_with id (λ _. other) k (jobs k)) where
  put_apart : (k : ℕ) → is_at (nat_cmp id) k ≡ false → jobs' k ≡ jobs k
  put_apart k e = puts k ∙ ap (λ b. cond b (option_map (λ _. other) (jobs k)) (jobs k)) e

  put_own : jobs' id ≡ Some other
  put_own = puts id ∙ ap (λ b. cond b (option_map (λ _. other) (jobs id)) (jobs id)) (own_id id) ∙ ap (option_map (λ _. other)) there

  pub put_fits : (k : ℕ) → ∥ IfSome (jobs' k) (Fits runs moment) ∥₁
  put_fits = each id (λ k. ∥ IfSome (jobs' k) (Fits runs moment) ∥₁)
      (subst (λ o. ∥ IfSome o (Fits runs moment) ∥₁) (sym put_own) (merely fit))
      (λ k e. subst (λ o. ∥ IfSome o (Fits runs moment) ∥₁) (sym (put_apart k e)) (fits k))

  module _ (h h' : Held J) (is : (k : ℕ) → h.jobs k ≡ option_map (standing_of moment) (jobs k))
      (is' : (k : ℕ) → h'.jobs k ≡ option_map (standing_of moment) (jobs' k)) (count : h'.count ≡ h.count) (next_id : h'.next_id ≡ h.next_id) where
    put_rest : IsSameBut id h h'
    put_rest = record {
      others = λ k apart. is' k ∙ ap (option_map (standing_of moment)) (put_apart k (other_id id k apart)) ∙ sym (is k);
      count = count;
      next_id = next_id;
    }

    pub put_moved : IfSome (stop_of other.next) (StopsAt (moment other.position)) → other.job ≡ w.job → (moment other.position).zone ≡ (moment w.position).zone → MovesTo h id (moment other.position).instant h'
    put_moved stop job zone = record {
      moved =
          subst (λ o. IfSome o (λ s. IsSomeAnd (h'.jobs id) (StandsAt s.job s.position.zone (moment other.position).instant)))
          (sym (is id ∙ ap (option_map (standing_of moment)) there))
          (subst (λ o. IsSomeAnd o (StandsAt w.job (moment w.position).zone (moment other.position).instant))
          (sym (is' id ∙ ap (option_map (standing_of moment)) put_own)) (record {
            job_is = job;
            zone_is = zone;
            instant = refl;
            whole = fit.whole;
            stop = stop;
          }));
      rest = put_rest;
    }

-- the same job at another position, or with another run next, is put in its own place
module _ {J T : Type 0} (id : ℕ) (jobs jobs' : ℕ → Option (Waiting J T)) (w : Waiting J T) (there : jobs id ≡ Some w) (change : Waiting J T → Waiting J T)
    (changes : (k : ℕ) → jobs' k ≡ cond (is_at (nat_cmp id) k) (option_map change (jobs k)) (jobs k)) where
  pub changed_puts : (k : ℕ) → jobs' k ≡ jobs_with id (λ _. change w) k (jobs k)
  changed_puts = each id (λ k. jobs' k ≡ jobs_with id (λ _. change w) k (jobs k))
      (changes id ∙ subst (λ o. cond (is_at (nat_cmp id) id) (option_map change o) o ≡ cond (is_at (nat_cmp id) id) (option_map (λ _. change w) o) o) (sym there) refl)
      (λ k e. changes k ∙ ap (λ b. cond b (option_map change (jobs k)) (jobs k)) e ∙ sym (ap (λ b. cond b (option_map (λ _. change w) (jobs k)) (jobs k)) e))

-- a job fits where it stands
pub fits_there : {J T : Type 0} (runs : J → Zone → ℤ → Type 0) (moment : T → Moment) (o : Option (Waiting J T)) (w : Waiting J T)
    → ∥ IfSome o (Fits runs moment) ∥₁ → o ≡ Some w → ∥ Fits runs moment w ∥₁
fits_there runs moment o w fits there = subst (λ o. ∥ IfSome o (Fits runs moment) ∥₁) there fits

-- a job stands at a whole second
pub stands_whole : {J T : Type 0} (runs : J → Zone → ℤ → Type 0) (moment : T → Moment) (o : Option (Waiting J T)) (w : Waiting J T)
    → ∥ IfSome o (Fits runs moment) ∥₁ → o ≡ Some w → (moment w.position).fraction ≡ 0
stands_whole runs moment o w fits there =
    ∥∥₁_elim (subst (λ o. ∥ IfSome o (Fits runs moment) ∥₁) there fits) (hlevel props) (λ f. f.whole)

-- what holds of the standing of a job holds of that of its id
pub of_standing : {J T : Type 0} (moment : T → Moment) (P : Standing J → Type 0) (o : Option (Waiting J T)) (w : Waiting J T) → o ≡ Some w
    → P (standing_of moment w) → IsSomeAnd (option_map (standing_of moment) o) P
of_standing moment P o w there holds = subst (λ o. IsSomeAnd (option_map (standing_of moment) o) P) (sym there) holds

-- a job that was searched again
pub asked_by : (b : Bool) → is_asked (again_of b) ≡ true
asked_by true = refl
asked_by false = refl
