-- What a scheduler holds stays in order when a job is put at another position before its next run.
use Rattle.std.proofs.Common.{rules, ◌≡◌, refl, sym, ap, ◌∙◌, subst, arith, ℕ, ℤ, ◌<ℤ◌, true, false, cond, Option, None, Some, IfSome, option_map}
use Rattle.std.proofs.Math.Logic.{∥∥₁_map}
use Rattle.std.proofs.lemmas.Bool.{false≢true}
use Rattle.std.proofs.lemmas.Int.{ints}
use Rattle.std.specs.BTreeMap.{is_at}
use Rattle.std.specs.Ordering.{nat_cmp}
use Rattle.croner_base.specs.Calm.{IsCalm}
use Rattle.croner_base.specs.Zone.{Zone, Moment}
use Rattle.croner_scheduler.proofs.SameIds.{own_id, each}
use Rattle.croner_scheduler.specs.declared.waiting.Next.{Next}
use Rattle.croner_scheduler.specs.declared.waiting.Next.TheVariants.{Run, Over, Stopped}
use Rattle.croner_scheduler.specs.declared.waiting.Waiting.{Waiting}
use Rattle.croner_scheduler.specs.Kept.{FitsOrPaused, Fits}
use Rattle.croner_scheduler.specs.Private.Steps.{jobs_with, job_standing_at, is_next_after, CanStand}

module _ (rs : Zone → ℤ → Type 0) where
  -- what comes next from a moment comes next from a later one before it
  next_from : (m m' : Moment) → m'.zone ≡ m.zone → m.fraction ≡ 0 → m.instant <ℤ m'.instant → (n : Next) → is_next_after m'.instant n ≡ true
      → FitsOrPaused rs m n → FitsOrPaused rs m' n
  next_from m m' zone whole on (Run i) later fits = (
    record {
      nearest = λ calm. let is = fits.0.nearest (record { calm = subst (λ z. IsCalm z) zone calm.calm; whole = whole }) in record {
        counts = (search (rules, later), subst (λ z. rs z i) (sym zone) is.counts.1);
        nearest = λ j counted. is.nearest j (omega (arith, ints, on, counted.0), subst (λ z. rs z j) zone counted.1);
      };
      zone = refl;
      whole = refl;
    },
    search (rules, later),
    subst (λ z. z.holds i ≡ true) (sym zone) fits.2,
  )
  next_from m m' zone whole on Over later fits = absurd (false≢true later)
  next_from m m' zone whole on (Stopped stop) later fits = absurd (false≢true later)

module _ {J T : Type 0} (runs : J → Zone → ℤ → Type 0) (moment : T → Moment) (id : ℕ) (position : T) (jobs jobs' : ℕ → Option (Waiting J T))
    (fits : (k : ℕ) → ∥ IfSome (jobs k) (Fits runs moment) ∥₁) (whole : (moment position).fraction ≡ 0)
    (can : IfSome (jobs id) (CanStand moment position)) (stands : (k : ℕ) → jobs' k ≡ jobs_with id (job_standing_at position) k (jobs k)) where
  passed_apart : (k : ℕ) → is_at (nat_cmp id) k ≡ false → jobs' k ≡ jobs k
  passed_apart k e = stands k ∙ ap (λ b. cond b (option_map (job_standing_at position) (jobs k)) (jobs k)) e

  passed_own : jobs' id ≡ option_map (job_standing_at position) (jobs id)
  passed_own = stands id ∙ ap (λ b. cond b (option_map (job_standing_at position) (jobs id)) (jobs id)) (own_id id)

  pub passed_fits : (k : ℕ) → ∥ IfSome (jobs' k) (Fits runs moment) ∥₁
  passed_fits = each id (λ k. ∥ IfSome (jobs' k) (Fits runs moment) ∥₁)
      (subst (λ o. ∥ IfSome o (Fits runs moment) ∥₁) (sym passed_own) (∥∥₁_map (fits id) (own (jobs id) can)))
      (λ k e. subst (λ o. ∥ IfSome o (Fits runs moment) ∥₁) (sym (passed_apart k e)) (fits k))
    where
      own : (o : Option (Waiting J T)) → IfSome o (CanStand moment position) → IfSome o (Fits runs moment)
          → IfSome (option_map (job_standing_at position) o) (Fits runs moment)
      own None can fits = tt
      own (Some w) can fits = record {
        whole = whole;
        next = next_from (runs w.job) (moment w.position) (moment position) can.zone fits.whole can.on w.next can.later fits.next;
      }
