-- What comes next of a job is what its search answers.
use Rattle.std.proofs.Common.{rules, ◌≡◌, refl, subst, inl, inr, ℤ, ◌<ℤ◌, int_lt, Bool, true, false, IfOk, OnErr, IsTrue}
use Rattle.croner_base.specs.declared.errors.CronError.{CronError}
use Rattle.croner_base.specs.declared.errors.CronError.TheVariants.{EmptyPattern, InvalidDate, InvalidTime, TimeSearchLimitExceeded, InvalidPattern, IllegalCharacters, ComponentError, OutOfMemory}
use Rattle.croner_base.specs.declared.time.Direction.{Direction}
use Rattle.croner_base.specs.declared.time.Direction.TheVariants.{Forward}
use Rattle.croner_base.specs.Zone.{Zone, Moment}
use Rattle.croner.specs.Recurring.{IsRunFound, IsRunRefused}
use Rattle.croner.specs.search.Premises.{IsSearchable}
use Rattle.croner.specs.search.Refusal.{IsLimitOrMemory, IsRefusal}
use Rattle.croner_scheduler.specs.Kept.{FitsNext}
use Rattle.croner_scheduler.specs.Private.Steps.{next_of_run, next_of_refusal}

-- a refusal that is neither the limit nor lack of memory comes only where no search is promised
pub not_promised : (direction : Direction) (runs : Zone → ℤ → Type 0) (m : Moment) (lack : Bool) (e : CronError) → IsRunRefused lack direction runs m e
    → ¬ (e ≡ TimeSearchLimitExceeded) → ¬ (e ≡ OutOfMemory) → ¬ (IsSearchable m)
not_promised direction runs m lack e is limit memory h = apart (is.promised h)
  where
    apart : ¬ (IsLimitOrMemory lack e)
    apart (inl same) = limit same
    apart (inr same) = memory same.0

-- a backend that lacks memory can
pub lacks_memory : (lack : Bool) → IsRefusal lack OutOfMemory → IsTrue lack
lacks_memory lack (inl (inl same)) = absurd (cc)
lacks_memory lack (inl (inr both)) = both.1
lacks_memory lack (inr (inl same)) = absurd (cc)
lacks_memory lack (inr (inr same)) = absurd (cc)

module _ (runs : Zone → ℤ → Type 0) (position : Moment) where
  found_by : (found : Moment) (b : Bool) → int_lt position.instant found.instant ≡ b → found.zone.holds found.instant ≡ true → IsRunFound Forward runs position found
      → FitsNext runs position (next_of_run position.instant found.instant)
  found_by found true e held is =
      rw e (record { nearest = is.nearest; zone = refl; whole = refl }, search (rules, e), subst (λ z. z.holds found.instant ≡ true) is.zone held)
  found_by found false e held is = rw e (λ h. absurd (apart e (is.nearest h).counts.0))
    where
      apart : int_lt position.instant found.instant ≡ false → position.instant <ℤ found.instant → ⊥
      apart e lt = search (rules, e, lt)

  -- a run that was found is kept by its second, which its clock holds
  pub fits_found : (found : Moment) → found.zone.holds found.instant ≡ true → IsRunFound Forward runs position found
      → FitsNext runs position (next_of_run position.instant found.instant)
  fits_found found = found_by found (int_lt position.instant found.instant) refl

  pub fits_refused : (lack : Bool) (e : CronError) → IsRunRefused lack Forward runs position e → IfOk (next_of_refusal e) (FitsNext runs position)
  fits_refused lack EmptyPattern is = not_promised Forward runs position lack _ is (λ e. cc) (λ e. cc)
  fits_refused lack InvalidDate is = not_promised Forward runs position lack _ is (λ e. cc) (λ e. cc)
  fits_refused lack InvalidTime is = not_promised Forward runs position lack _ is (λ e. cc) (λ e. cc)
  fits_refused lack TimeSearchLimitExceeded is = λ calm. is.limit calm refl
  fits_refused lack (InvalidPattern m) is = not_promised Forward runs position lack _ is (λ e. cc) (λ e. cc)
  fits_refused lack (IllegalCharacters m) is = not_promised Forward runs position lack _ is (λ e. cc) (λ e. cc)
  fits_refused lack (ComponentError m) is = not_promised Forward runs position lack _ is (λ e. cc) (λ e. cc)
  fits_refused lack OutOfMemory is = tt

  -- and lack of memory only where the backend can lack it
  pub lacks_refused : (lack : Bool) (e : CronError) → IsRunRefused lack Forward runs position e → OnErr (next_of_refusal e) (IsTrue lack)
  lacks_refused lack EmptyPattern is = tt
  lacks_refused lack InvalidDate is = tt
  lacks_refused lack InvalidTime is = tt
  lacks_refused lack TimeSearchLimitExceeded is = tt
  lacks_refused lack (InvalidPattern m) is = tt
  lacks_refused lack (IllegalCharacters m) is = tt
  lacks_refused lack (ComponentError m) is = tt
  lacks_refused lack OutOfMemory is = lacks_memory lack is.kind
