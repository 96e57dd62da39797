-- What a search around the served seconds finds, in a calm zone whose clock is never far from UTC.
use Rattle.std.proofs.Common.{◌≡◌, refl, sym, subst, ◌∙◌, ◌⊎◌, Bool, true, false, ℤ, ◌+ℤ◌, arith, inl, inr, Option, Some, None, Result, Ok, Err, IfOk, IfErr}
use Rattle.std.proofs.lemmas.Bool.{false≢true}
use Rattle.std.proofs.lemmas.Int.{ints}
use Rattle.croner.specs.Calm.{IsCalm, IsInReach}
use Rattle.croner.specs.Recurring.{CountsFrom, IsRunFound, IsRunRefused}
use Rattle.croner.specs.Zone.{Zone, Moment, at_instant}
use Rattle.croner.specs.search.Limit.{InSpan}
use Rattle.croner.specs.search.Premises.{IsSearchable}
use Rattle.croner_base.specs.declared.errors.CronError.{CronError}
use Rattle.croner_base.specs.declared.errors.CronError.TheVariants.{EmptyPattern, InvalidDate, InvalidTime, TimeSearchLimitExceeded, InvalidPattern, IllegalCharacters, ComponentError, OutOfMemory}
use Rattle.croner_base.specs.declared.time.Direction.{Direction}
use Rattle.croner_base.specs.declared.time.Direction.TheVariants.{Forward, Backward}
use Rattle.croner_jobs.specs.Served.{IsNearUtc}
use Rattle.croner_jobs.specs.Private.Sought.{IsAround, IsSought, IsUnheld, IsUnknown, IsFoundOrNone, IsRefusedOtherwise, is_limit_error}

-- what is not the limit
pub not_limit : (e : CronError) → is_limit_error e ≡ false → e ≡ TimeSearchLimitExceeded → ⊥
not_limit e other same =
    let P : CronError → Type 0 = λ x. is_limit_error x ≡ false in
    let there : true ≡ false = subst P same other in
    false≢true (sym there)

pub limit_is : (e : CronError) → is_limit_error e ≡ true → e ≡ TimeSearchLimitExceeded
limit_is TimeSearchLimitExceeded is = refl
limit_is EmptyPattern is = absurd (false≢true is)
limit_is InvalidDate is = absurd (false≢true is)
limit_is InvalidTime is = absurd (false≢true is)
limit_is (InvalidPattern m) is = absurd (false≢true is)
limit_is (IllegalCharacters m) is = absurd (false≢true is)
limit_is (ComponentError m) is = absurd (false≢true is)
limit_is OutOfMemory is = absurd (false≢true is)

-- around the served seconds the clock shows years that are searched
reads_in_reach : (z : Zone) → IsNearUtc z → (i : ℤ) → IsAround i → IsInReach (z.reads i)
reads_in_reach z utc i around = (omega (arith, ints, utc i, around), omega (arith, ints, utc i, around))

pub in_span : (direction : Direction) (z : Zone) → IsNearUtc z → (i : ℤ) → IsAround i → InSpan direction z.reads i
in_span Forward z utc i around = λ j on. omega (arith, ints, utc j, around, on)
in_span Backward z utc i around = λ j on. omega (arith, ints, utc j, around, on)

module _ (start : Moment) (utc : IsNearUtc start.zone) (s : ℤ) (around : IsAround s) where
  pub searchable_around : IsSearchable start → IsSearchable (at_instant start.zone s)
  searchable_around p = record {
    starts = record { calm = p.starts.calm; whole = refl };
    held = record {
      years = p.held.years;
      year_instants = p.held.year_instants;
      near = λ c near. p.held.years c (omega (arith, ints, utc s, around, near), omega (arith, ints, utc s, around, near));
      near_instants = λ j near. p.held.year_instants j (omega (arith, ints, utc j, around, near), omega (arith, ints, utc j, around, near));
    };
  }

  held_around : IsSearchable start → start.zone.holds s ≡ true
  held_around p = p.held.year_instants s (reads_in_reach start.zone utc s around)

  -- a second that isn't held
  pub unheld_around : (lack : Bool) → start.zone.holds s ≡ false → IsUnknown lack start InvalidTime
  unheld_around lack unheld = record {
    promised = λ p. absurd (false≢true (sym unheld ∙ held_around p));
    kind = inr (inr refl);
    other = refl;
  }

  module _ {T : Type 0} (moment : T → Moment) (direction : Direction) (runs : Zone → ℤ → Type 0) (from : Moment) (at : from ≡ at_instant start.zone s) where
    sought_found : (t : T) → IsRunFound direction runs from (moment t) → IsSought moment IsAround direction runs start.zone s (Some t)
    sought_found t found =
        let P : Moment → Type 0 = λ m. IsRunFound direction runs m (moment t) in
        let there = subst P at found in (
          there.zone,
          there.whole,
          λ calm.
              let near = there.nearest (record { calm = calm; whole = refl }) in
              record { counts = near.counts; nearest = λ i among counts. near.nearest i counts },
        )

    sought_none : (lack : Bool) → IsRunRefused lack direction runs from TimeSearchLimitExceeded
        → (calm : IsCalm start.zone) (i : ℤ) → IsAround i → CountsFrom direction (runs start.zone) s i → ⊥
    sought_none lack refused calm i among counts =
        let P : Moment → Type 0 = λ m. IsRunRefused lack direction runs m TimeSearchLimitExceeded in
        (subst P at refused).limit (record { calm = calm; whole = refl }) refl i (in_span direction start.zone utc i among) counts

    sought_unknown : (lack : Bool) (e : CronError) → IsRefusedOtherwise lack direction runs from e → IsUnknown lack start e
    sought_unknown lack e refused =
        let P : Moment → Type 0 = λ m. IsRunRefused lack direction runs m e in
        let there = subst P at refused.0 in
        record {
          promised = λ p. elim (there.promised (searchable_around p)) [ inl limit ↦ absurd (not_limit e refused.1 limit) | inr lacks ↦ lacks ];
          kind = there.kind;
          other = refused.1;
        }

    -- the same of what a call answers
    pub ok_sought : (lack : Bool) (r : Result (Option T) CronError) → IfOk r (IsFoundOrNone moment lack direction runs from)
        → IfOk r (IsSought moment IsAround direction runs start.zone s)
    ok_sought lack (Ok (Some t)) is = sought_found t is
    ok_sought lack (Ok None) is = sought_none lack is
    ok_sought lack (Err e) is = tt

    pub err_unknown : (lack : Bool) (r : Result (Option T) CronError) → IfErr r (IsRefusedOtherwise lack direction runs from) → IfErr r (IsUnknown lack start)
    err_unknown lack (Ok o) is = tt
    err_unknown lack (Err e) is = sought_unknown lack e is

-- a served second that isn't held
pub unheld_served : (start : Moment) → IsNearUtc start.zone → (i : ℤ) (lack : Bool) (e : CronError) → IsUnheld start.zone i e → IsUnknown lack start e
unheld_served start utc i lack e is = record {
  promised = λ p. absurd (false≢true (sym is.unheld ∙ held_around start utc i (omega (arith, ints, is.served), omega (arith, ints, is.served)) p));
  kind = inr (inr is.error);
  other = rw is.error refl;
}

pub err_unheld : (start : Moment) → IsNearUtc start.zone → (i : ℤ) (lack : Bool) {T : Type 0} (r : Result (Option T) CronError) → IfErr r (IsUnheld start.zone i)
    → IfErr r (IsUnknown lack start)
err_unheld start utc i lack (Ok o) is = tt
err_unheld start utc i lack (Err e) is = unheld_served start utc i lack e is
