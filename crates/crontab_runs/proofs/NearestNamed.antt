-- The nearest named minute by the nearest scheduled second.
use Rattle.std.proofs.Common.{◌≡◌, ◌↔◌, ◌⊎◌, inl, inr, sym, subst, refl, arith, Bool, true, false, ℤ, pos, ◌+ℤ◌, ◌*ℤ◌, ◌≤ℤ◌, Option, MatchOption, IfSome, Some, None}
use Rattle.std.proofs.lemmas.Int.{ints, by_lt_z, int_min_is}
use Rattle.std.specs.Int.{int_min}
use Rattle.croner_base.specs.declared.time.Direction.{Direction}
use Rattle.croner_base.specs.declared.time.Direction.TheVariants.{Forward, Backward}
use Rattle.croner_base.specs.declared.time.civil.CivilDateTime.{CivilDateTime}
use Rattle.croner_base.specs.Civil.{wall_second}
use Rattle.croner_base.specs.Limits.{first_searched, last_searched}
use Rattle.croner_pattern.specs.Directions.{Reaches}
use Rattle.croner_pattern.specs.Meaning.{Meaning}
use Rattle.croner_pattern.specs.NextSecond.{FindsNearest, IsNearest, IsOpen, IsOnSchedule}
use Rattle.croner_pattern.specs.Schedule.{IsScheduled, is_fixed_time}
use Rattle.croner_pattern.specs.SearchedYears.{scheduled_searched}
use Rattle.croner_pattern.specs.Shapes.{has_field_shapes}
use Rattle.croner.specs.search.Limit.{IsWithin}
use Rattle.croner.specs.Private.search.Schedule.{NextScheduled, NoneScheduled, IsCovered}
use Rattle.croner.proofs.zone.Ahead.{reaches_unless, reaches-same}
use Rattle.croner.proofs.zone.WallSeconds.{search_answer}
use Rattle.crontab_runs.specs.Starts.{minute_of, NamesMinute}
use Rattle.crontab_runs.specs.Private.Nearest.{NoneNamed, IsNearestNamed, IsBeyond, IsSearchStart}
use Rattle.crontab_runs.proofs.DueMinutes.{minute_bounds, minute_rises}

-- minutes go on as their seconds do
pub minutes_reach : (direction : Direction) (v w : ℤ) → Reaches direction v w → Reaches direction (minute_of v) (minute_of w)
minutes_reach Forward v w h = minute_rises v w h
minutes_reach Backward v w h = omega (arith, ints, minute_rises w v (omega (arith, ints)))

-- the second of a minute within the span is covered
covered : (direction : Direction) (fixed : Bool) (v k : ℤ) → minute_of v ≡ k → IsWithin direction (k *ℤ pos 60) → IsCovered direction fixed v
covered Forward fixed v k e h = omega (arith, ints, minute_bounds v, e)
covered Backward false v k e h = omega (arith, ints, minute_bounds v, e)
covered Backward true v k e h = omega (arith, ints, minute_bounds v, e)

named_none : (m : Meaning) (direction : Direction) (from w : ℤ) → IsSearchStart direction from w → NoneScheduled direction (is_fixed_time m) (IsScheduled m) w → NoneNamed direction m from
named_none m direction from w start none = λ k on within (v, at, is).
    none v (start.meets v (scheduled_searched m v is) (subst (Reaches direction from) (sym at) on)) (covered direction (is_fixed_time m) v k at within) is

named_found : (m : Meaning) (direction : Direction) (from w f : ℤ) → IsSearchStart direction from w → NextScheduled direction (IsScheduled m) w f → IsNearestNamed direction m from (minute_of f)
named_found m direction from w f start next = record {
  counts = (start.others f next.on, (f, refl, next.is));
  nearest = λ j (on, (v, at, is)).
      let meets = start.meets v (scheduled_searched m v is) (subst (Reaches direction from) (sym at) on) in
      subst (Reaches direction (minute_of f)) at (minutes_reach direction f v (reaches_unless direction f v (λ before. next.none v meets before is)));
}

-- what the civil search answers, by minutes
pub named_answer : (m : Meaning) (direction : Direction) (from w : ℤ) (c : CivilDateTime) (r : Option CivilDateTime) → has_field_shapes m ≡ true → wall_second c ≡ w
    → IsSearchStart direction from w → FindsNearest wall_second (IsOpen m direction c) direction (wall_second c) r
    → IfSome r (IsNearest wall_second (IsOnSchedule m) direction (wall_second c))
    → MatchOption r (NoneNamed direction m from) (λ f. IsNearestNamed direction m from (minute_of (wall_second f)))
named_answer m direction from w c None shapes at start reached nearest =
    named_none m direction from w start (subst (NoneScheduled direction (is_fixed_time m) (IsScheduled m)) at (search_answer m direction c None shapes reached nearest))
named_answer m direction from w c (Some f) shapes at start reached nearest =
    named_found m direction from w (wall_second f) start
    (subst (λ (x : ℤ). NextScheduled direction (IsScheduled m) x (wall_second f)) at (search_answer m direction c (Some f) shapes reached nearest))

-- where there is no minute on
pub named_beyond : (m : Meaning) (direction : Direction) (from : ℤ) → IsBeyond direction from → NoneNamed direction m from
named_beyond m direction from beyond = λ k on within (v, at, is). beyond v (scheduled_searched m v is) (subst (Reaches direction from) (sym at) on)

-- backward the search goes from the last second of a minute
start_from_last : (from x : ℤ) → first_searched ≤ℤ (from *ℤ pos 60) → x ≤ℤ from → (x *ℤ pos 60) ≤ℤ last_searched → ((x ≡ from) ⊎ (last_searched ≡ x *ℤ pos 60 +ℤ pos 59))
    → IsSearchStart Backward from (x *ℤ pos 60 +ℤ pos 59)
start_from_last from x low on high either = record {
  searched = (elim either [ inl e ↦ omega (arith, ints) | inr e ↦ omega (arith, ints) ], omega (arith, ints));
  meets = λ v searched h. elim either [ inl e ↦ omega (arith, ints, minute_bounds v, searched) | inr e ↦ omega (arith, ints, minute_bounds v, searched) ];
  others = λ v h. omega (arith, ints, minute_bounds v);
}

pub start_backward : (direction : Direction) (from x last : ℤ) → direction ≡ Backward → first_searched ≤ℤ (from *ℤ pos 60) → last *ℤ pos 60 +ℤ pos 59 ≡ last_searched → x ≡ int_min from last
    → IsSearchStart direction from (x *ℤ pos 60 +ℤ pos 59)
start_backward direction from x last e low ends is =
    let m = int_min_is from last in
    subst (λ (d : Direction). IsSearchStart d from (x *ℤ pos 60 +ℤ pos 59)) (sym e)
    (start_from_last from x low (omega (arith, ints)) (omega (arith, ints)) (by_lt_z from last (λ lt. inl (omega (arith, ints))) (λ le. inr (omega (arith, ints)))))

same_place : (direction : Direction) (a b : ℤ) → Reaches direction a b → Reaches direction b a → a ≡ b
same_place Forward a b h k = omega (arith, ints)
same_place Backward a b h k = omega (arith, ints)

-- a minute is named where it is the nearest from itself on
pub named_if_nearest : (m : Meaning) (direction : Direction) (k n : ℤ) → IsNearestNamed direction m k n → (n ≡ k) ↔ NamesMinute m k
named_if_nearest m direction k n near = ((λ e. subst (NamesMinute m) e near.counts.1), λ named. same_place direction n k (near.nearest k (reaches-same direction k, named)) near.counts.0)

pub not_named : (m : Meaning) (direction : Direction) (k : ℤ) → NoneNamed direction m k → IsWithin direction (k *ℤ pos 60) → NamesMinute m k → ⊥
not_named m direction k none within named = none k (reaches-same direction k) within named
