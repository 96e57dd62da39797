-- Worked rows of the last due run of a job: which of the next run and of the run that a search backward found is given.
use Rattle.std.proofs.Common.{◌≡◌, refl, pos, Ok, None, Some}
use Rattle.croner_base.specs.Zone.{Zone, Moment, at_instant}
use Rattle.croner_base.specs.declared.errors.CronError.TheVariants.{InvalidTime, TimeSearchLimitExceeded}
use Rattle.croner_scheduler.specs.declared.latest.Last.TheVariants.{Later, Known, Refused}
use Rattle.croner_scheduler.specs.declared.waiting.Next.TheVariants.{Run, Over}
use Rattle.croner_scheduler.specs.declared.waiting.Refusal.TheVariants as refusals
use Rattle.croner_scheduler.specs.Private.Latest.{due_second, last_of_run, last_of_refusal}

-- a run at now is due, one after it isn't, and what is over has none
a_run_at_now : due_second (pos 9) (Run (pos 9)) ≡ Some (pos 9)
a_run_at_now = refl

a_run_after_now : due_second (pos 9) (Run (pos 10)) ≡ None
a_run_after_now = refl

no_run : due_second (pos 9) Over ≡ None
no_run = refl

module _ (z : Zone) where
  -- the next run is at 3 and now is 9: a run at 8 is the last one; one at 3 is the next run; one before it, or after now, comes of no calm
  -- zone
  a_later_run : last_of_run (λ m. m) (pos 3) (at_instant z (pos 9)) (at_instant z (pos 8)) ≡ Later (at_instant z (pos 8))
  a_later_run = refl

  a_run_at_now_is_later : last_of_run (λ m. m) (pos 3) (at_instant z (pos 9)) (at_instant z (pos 9)) ≡ Later (at_instant z (pos 9))
  a_run_at_now_is_later = refl

  the_next_run : last_of_run (λ m. m) (pos 3) (at_instant z (pos 9)) (at_instant z (pos 3)) ≡ Known
  the_next_run = refl

  a_run_before_the_next : last_of_run (λ m. m) (pos 3) (at_instant z (pos 9)) (at_instant z (pos 2)) ≡ Known
  a_run_before_the_next = refl

  a_run_past_now : last_of_run (λ m. m) (pos 3) (at_instant z (pos 9)) (at_instant z (pos 10)) ≡ Known
  a_run_past_now = refl

-- at the limit the next run is the last, another refusal is told
the_limit : last_of_refusal {T = Moment} TimeSearchLimitExceeded ≡ Ok Known
the_limit = refl

a_refusal : last_of_refusal {T = Moment} InvalidTime ≡ Ok (Refused refusals.InvalidTime)
a_refusal = refl
