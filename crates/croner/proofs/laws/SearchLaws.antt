-- What a search answers, put together clause by clause.
use Rattle.std.proofs.Common.{◌≡◌, ℤ, Bool, Result, Ok, Err, IfOk, IfErr, sym, subst, ap, ◌∙◌, arith, inl, inr}
use Rattle.std.proofs.lemmas.Int.{ints}
use Rattle.croner_base.specs.declared.errors.CronError.{CronError}
use Rattle.croner_base.specs.declared.errors.CronError.TheVariants.{TimeSearchLimitExceeded}
use Rattle.croner_base.specs.declared.time.Direction.{Direction}
use Rattle.croner_base.specs.declared.time.Direction.TheVariants.{Forward, Backward}
use Rattle.croner_base.specs.Zone.{Zone, Moment, reading}
use Rattle.croner_pattern.specs.Meaning.{Meaning}
use Rattle.croner_pattern.specs.Schedule.{IsScheduled}
use Rattle.croner.specs.search.Limit.{IsPast, IsOutside}
use Rattle.croner.specs.search.PatternJob.{timetable_of}
use Rattle.croner.specs.search.Refusal.{IsRefusal}
use Rattle.croner.specs.search.Searches.{IsFound, IsRefused}
use Rattle.croner_pattern.specs.SearchedYears.{scheduled_searched}

-- what the clock shows at a found moment is scheduled where the start's zone says so
pub shown_scheduled : (m : Meaning) (start found : Moment) (w : ℤ) → w ≡ reading found → found.zone ≡ start.zone → IsScheduled m (start.zone.reads found.instant) → IsScheduled m w
shown_scheduled m start found w is same_zone scheduled =
    let at : Zone → ℤ = λ z. z.reads found.instant in
    subst (IsScheduled m) (sym (is ∙ ap at same_zone)) scheduled

-- a start that reads a year past those that patterns name is past the years
is_past : (direction : Direction) (inclusive : Bool) (m : Meaning) (w : ℤ) → IsOutside direction w → IsPast direction inclusive (IsScheduled m) w
is_past Forward inclusive m w outside = (
  λ within. omega (arith, ints),
  λ v ahead own. let searched = scheduled_searched m v own in elim ahead [ inl lt ↦ omega (arith, ints, searched.1) | inr (is, e) ↦ omega (arith, ints, searched.1) ],
)
is_past Backward inclusive m w outside = (
  λ within. omega (arith, ints),
  λ v ahead own. let searched = scheduled_searched m v own in elim ahead [ inl lt ↦ omega (arith, ints, searched.0) | inr (is, e) ↦ omega (arith, ints, searched.0) ],
)

module _ {T : Type 0} (moment : T → Moment) (direction : Direction) (inclusive : Bool) (m : Meaning) (start : Moment) (lack : Bool) where
  pub kind_of : (r : Result T CronError) → IfErr r (IsRefused lack direction inclusive (timetable_of m) start) → IfErr r (IsRefusal lack)
  kind_of (Ok t) refused = tt
  kind_of (Err e) refused = refused.kind

  -- such a start gets the limit
  pub limit_outside : (r : Result T CronError) → IsOutside direction (reading start) → IfOk r (λ t. IsFound direction inclusive (timetable_of m) start (moment t))
      → IfErr r (IsRefused lack direction inclusive (timetable_of m) start) → r ≡ Err TimeSearchLimitExceeded
  limit_outside (Ok t) outside found refused = absurd (found.left (is_past direction inclusive m (reading start) outside))
  limit_outside (Err e) outside found refused = ap Err (refused.past (is_past direction inclusive m (reading start) outside))
