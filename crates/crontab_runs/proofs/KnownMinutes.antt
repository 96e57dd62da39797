-- What is known of the minutes that a job names.
use Rattle.std.proofs.Common.{◌≡◌, subst, refl, arith, ℤ, pos, neg_ℤ, ◌*ℤ◌, ◌≤ℤ◌, ◌<ℤ◌, Option, Some, None, MatchOption, IfSome}
use Rattle.std.proofs.lemmas.Int.{ints, by_lt_z}
use Rattle.croner_base.specs.declared.time.Direction.{Direction}
use Rattle.croner_base.specs.declared.time.Direction.TheVariants.{Forward, Backward}
use Rattle.croner_pattern.specs.Directions.{Reaches}
use Rattle.croner_pattern.specs.Meaning.{Meaning}
use Rattle.croner.specs.search.Limit.{year_2, year_5000}
use Rattle.crontab_runs.specs.declared.minutes.NearestMinute.{NearestMinute}
use Rattle.crontab_runs.specs.Private.Known.{IsKnown, Serves, AreAllFrom, far_minutes}
use Rattle.crontab_runs.specs.Private.Nearest.{NoneNamed, IsNearestNamed, first_past}
use Rattle.crontab_runs.specs.Starts.{minute_of}
use Rattle.crontab_runs.proofs.DueMinutes.{minute_bounds}
use Rattle.crontab_runs.proofs.PartStarts.{named_bounds}

-- no pattern names a minute beyond all years
pub none_beyond_all : (direction : Direction) (from : ℤ) (m : Meaning) → ((k : ℤ) → neg_ℤ (pos far_minutes) <ℤ k → k <ℤ pos far_minutes → Reaches direction from k → ⊥) → NoneNamed direction m from
none_beyond_all direction from m far = λ k on within named. let b = named_bounds m k named in far k (omega (arith, ints, b)) (omega (arith, ints, b)) on

pub past_forward : (direction : Direction) → direction ≡ Forward → (k : ℤ) → neg_ℤ (pos far_minutes) <ℤ k → k <ℤ pos far_minutes → Reaches direction (pos far_minutes) k → ⊥
past_forward direction e k low high on = let here : Reaches Forward (pos far_minutes) k = subst (λ (d : Direction). Reaches d (pos far_minutes) k) e on in omega (arith, ints, here, high)

pub past_backward : (direction : Direction) → direction ≡ Backward → (k : ℤ) → neg_ℤ (pos far_minutes) <ℤ k → k <ℤ pos far_minutes → Reaches direction (neg_ℤ (pos far_minutes)) k → ⊥
past_backward direction e k low high on =
    let here : Reaches Backward (neg_ℤ (pos far_minutes)) k = subst (λ (d : Direction). Reaches d (neg_ℤ (pos far_minutes)) k) e on in omega (arith, ints, here, low)

-- ---- from another minute on

served_by : (m : Meaning) (direction : Direction) (old from : ℤ) (r : Option ℤ) → MatchOption r (NoneNamed direction m old) (IsNearestNamed direction m old)
    → Reaches direction old from → IfSome r (λ minute. Reaches direction from minute) → MatchOption r (NoneNamed direction m from) (IsNearestNamed direction m from)
served_by m direction old from None none on upto = λ k reaches within named. none k (omega (arith, ints, on, reaches)) within named
served_by m direction old from (Some minute) near on upto = record {
  counts = (upto, near.counts.1);
  nearest = λ j (reaches, named). near.nearest j (omega (arith, ints, on, reaches), named);
}

pub served : (m : Meaning) (k : NearestMinute) (from : ℤ) → IsKnown m k → Serves k from → MatchOption k.nearest (NoneNamed k.direction m from) (IsNearestNamed k.direction m from)
served m k from known serves = served_by m k.direction k.from from k.nearest known serves.0 serves.1

-- ---- the first minute that may be named

pub nearest_known : (m : Meaning) (k : NearestMinute) (minute : ℤ) → IsKnown m k → k.nearest ≡ Some minute → IsNearestNamed k.direction m k.from minute
nearest_known m k minute known e = subst (λ (r : Option ℤ). MatchOption r (NoneNamed k.direction m k.from) (IsNearestNamed k.direction m k.from)) e known

pub none_known : (m : Meaning) (k : NearestMinute) → IsKnown m k → k.nearest ≡ None → NoneNamed k.direction m k.from
none_known m k known e = subst (λ (r : Option ℤ). MatchOption r (NoneNamed k.direction m k.from) (IsNearestNamed k.direction m k.from)) e known

pub all_from_nearest : (m : Meaning) (direction : Direction) (from minute : ℤ) → IsNearestNamed direction m from minute → AreAllFrom direction m from minute
all_from_nearest m direction from minute near = λ k on named. near.nearest k (on, named)

pub all_past : (m : Meaning) (direction : Direction) (from : ℤ) → NoneNamed direction m from → AreAllFrom direction m from (first_past direction)
all_past m Forward from none k on named = by_lt_z k (minute_of year_5000)
    (λ lt. absurd (none k on (omega (arith, ints, minute_bounds year_5000, lt)) named))
    (λ le. omega (arith, ints, le))
all_past m Backward from none k on named =
    let whole : minute_of year_2 *ℤ pos 60 ≡ year_2 = refl in
    by_lt_z k (minute_of year_2)
    (λ lt. omega (arith, ints, lt))
    (λ le. absurd (none k on (omega (arith, ints, whole, le)) named))

pub nearest_small : (m : Meaning) (direction : Direction) (from minute : ℤ) → IsNearestNamed direction m from minute → (neg_ℤ (pos far_minutes) ≤ℤ minute) × (minute ≤ℤ pos far_minutes)
nearest_small m direction from minute near = let b = named_bounds m minute near.counts.1 in (omega (arith, ints, b), omega (arith, ints, b))
