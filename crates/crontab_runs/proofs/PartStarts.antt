-- The search in a stretch, as the code has it.
use Rattle.std.proofs.Common.{◌≡◌, ◌↔◌, ◌⊎◌, inl, inr, ◌∙◌, sym, subst, ap, refl, arith, Bool, true, false, ◌<◌, ℕ, ℤ, pos, neg_ℤ, ◌+ℤ◌, ◌-ℤ◌, ◌*ℤ◌, ◌≤ℤ◌, ◌<ℤ◌, Option, Some, None, MatchOption, w64, to_z, of_z, FitsSigned, lit<}
use Rattle.std.proofs.lemmas.Int.{ints, to_z-of_z, int_max_is, by_lt_z}
use Rattle.std.specs.Int.{int_max}
use Rattle.croner_base.specs.declared.time.Direction.{Direction}
use Rattle.croner_base.specs.declared.time.Direction.TheVariants.{Forward, Backward}
use Rattle.croner_base.specs.Limits.{first_searched, last_searched}
use Rattle.croner_pattern.specs.Directions.{Reaches}
use Rattle.croner_pattern.specs.Meaning.{Meaning}
use Rattle.croner_pattern.specs.SearchedYears.{scheduled_searched}
use Rattle.croner.specs.Views.{job_of}
use Rattle.croner.specs.search.Limit.{IsWithin}
use Rattle.croner.specs.search.Runs.{NearestWhere}
use Rattle.croner.proofs.zone.Ahead.{reaches-same}
use Rattle.crontab_runs.specs.declared.job.Start.{Start}
use Rattle.crontab_runs.specs.declared.stretch_search.StretchSearch.{StretchSearch}
use Rattle.crontab_runs.specs.declared.stretch.Stretch.{Stretch}
use Rattle.crontab_runs.specs.Starts.{minute_of, NamesMinute, StartsTimes, Starts}
use Rattle.crontab_runs.specs.Private.Due.{AreStarts}
use Rattle.crontab_runs.specs.Private.Found.{job_in, zone_in, least_in, AfterBegin, Within, NoneOf, IsFoundOf, NoneAtBegin, IsFoundAtBegin, NoneAtBeginWithin, IsFoundAtBeginWithin, IsNearestFrom}
use Rattle.crontab_runs.specs.Private.Nearest.{NoneNamed}
use Rattle.crontab_runs.specs.Private.Parts.{least_minute, minute_from}
use Rattle.crontab_runs.specs.Private.Stretches.{far}
use Rattle.crontab_runs.proofs.BeginStarts.{shown_bounds, minute_small, shown_found, minute_found}
use Rattle.crontab_runs.proofs.DueMinutes.{minute_bounds}
use Rattle.crontab_runs.proofs.InsideStarts.{none_inside, nearest_inside, nothing_inside}

-- a named minute lies in the searched years
pub named_bounds : (m : Meaning) (k : ℤ) → NamesMinute m k → (first_searched ≤ℤ (k *ℤ pos 60 +ℤ pos 59)) × ((k *ℤ pos 60) ≤ℤ last_searched)
named_bounds m k (w, at, is) = let s = scheduled_searched m w is in (omega (arith, ints, minute_bounds w, at, s), omega (arith, ints, minute_bounds w, at, s))

pub one_more_minute : (a m : ℤ) → to_z w64 (of_z w64 a) ≡ m → neg_ℤ (pos far) ≤ℤ m → m ≤ℤ pos far → FitsSigned w64 (to_z w64 (of_z w64 a) +ℤ pos 1) × (to_z w64 (of_z w64 (to_z w64 (of_z w64 a) +ℤ pos 1)) ≡ m +ℤ pos 1)
one_more_minute a m at low high =
    let sum : FitsSigned w64 (m +ℤ pos 1) = omega (arith, ints) in
    (subst (λ (x : ℤ). FitsSigned w64 (x +ℤ pos 1)) (sym at) sum, ap (λ (x : ℤ). to_z w64 (of_z w64 (x +ℤ pos 1))) at ∙ to_z-of_z w64 (m +ℤ pos 1) sum)

-- the least minute, by its parts
pub least_starred : (starred : Bool) (begin o before : ℤ) → starred ≡ true → least_minute starred begin o before ≡ minute_of (begin +ℤ o) +ℤ pos 1
least_starred starred begin o before e = rw e refl

pub least_starless : (starred : Bool) (begin o before : ℤ) → starred ≡ false → least_minute starred begin o before ≡ int_max (minute_of (begin +ℤ o) +ℤ pos 1) (minute_of before +ℤ pos 1)
least_starless starred begin o before e = rw e refl

module _ (p : StretchSearch) where
  abbrev t : Stretch
  t = p.stretch

  pub begin_minute : (a : ℤ) → a ≡ minute_of (to_z w64 (of_z w64 (to_z w64 (of_z w64 t.begin) +ℤ to_z w64 (of_z w64 t.offset))))
      → FitsSigned w64 (to_z w64 (of_z w64 a) +ℤ pos 1) × (to_z w64 (of_z w64 (to_z w64 (of_z w64 a) +ℤ pos 1)) ≡ minute_of (t.begin +ℤ t.offset) +ℤ pos 1)
  begin_minute a e =
      let b = minute_small (zone_in p) t.begin t.end t.offset t.before t.fits in
      one_more_minute a (minute_of (t.begin +ℤ t.offset)) (minute_found t a e).1 (omega (arith, ints, b)) (omega (arith, ints, b))

  pub shown_minute : (a : ℤ) → a ≡ minute_of (to_z w64 (of_z w64 t.before))
      → FitsSigned w64 (to_z w64 (of_z w64 a) +ℤ pos 1) × (to_z w64 (of_z w64 (to_z w64 (of_z w64 a) +ℤ pos 1)) ≡ minute_of t.before +ℤ pos 1)
  shown_minute a e =
      let b = shown_bounds (zone_in p) t.begin t.end t.offset t.before t.fits in
      one_more_minute a (minute_of t.before) (shown_found t a e).1 (omega (arith, ints, b)) (omega (arith, ints, b))

  pub least_small : (neg_ℤ (pos far) ≤ℤ least_in p) × (least_in p ≤ℤ (pos far +ℤ pos 1))
  least_small = least_bounds p.job.now.is_starred
    where
      least_bounds : (starred : Bool) → (neg_ℤ (pos far) ≤ℤ least_minute starred t.begin t.offset t.before) × (least_minute starred t.begin t.offset t.before ≤ℤ (pos far +ℤ pos 1))
      least_bounds true = let a = minute_small (zone_in p) t.begin t.end t.offset t.before t.fits in (omega (arith, ints, a), omega (arith, ints, a))
      least_bounds false =
          let a = minute_small (zone_in p) t.begin t.end t.offset t.before t.fits in
          let b = shown_bounds (zone_in p) t.begin t.end t.offset t.before t.fits in
          let m = int_max_is (minute_of (t.begin +ℤ t.offset) +ℤ pos 1) (minute_of t.before +ℤ pos 1) in
          (omega (arith, ints, a, b, m), omega (arith, ints, a, b, m))

  pub from_fits : FitsSigned w64 p.from
  from_fits = omega (arith, ints, t.fits.begin_low, t.fits.end_high, p.low, p.high)

  pub offset_fits : FitsSigned w64 t.offset
  offset_fits = omega (arith, ints, t.fits.offset_low, t.fits.offset_high)

  pub end_fits : FitsSigned w64 t.end
  end_fits = omega (arith, ints, t.fits.begin_low, t.fits.order, t.fits.end_high)

  pub begin_fits : FitsSigned w64 t.begin
  begin_fits = omega (arith, ints, t.fits.begin_low, t.fits.order, t.fits.end_high)

  pub begin_wall_fits : FitsSigned w64 (t.begin +ℤ t.offset)
  begin_wall_fits = omega (arith, ints, t.fits.begin_low, t.fits.order, t.fits.end_high, t.fits.offset_low, t.fits.offset_high)

  pub wall_fits : FitsSigned w64 (p.from +ℤ t.offset)
  wall_fits = omega (arith, ints, t.fits.begin_low, t.fits.end_high, p.low, p.high, t.fits.offset_low, t.fits.offset_high)

  pub wall_late_fits : FitsSigned w64 (p.from +ℤ t.offset +ℤ pos 59)
  wall_late_fits = omega (arith, ints, t.fits.begin_low, t.fits.end_high, p.low, p.high, t.fits.offset_low, t.fits.offset_high)

-- the minute from which one is sought, by the direction
pub from_forward : (direction : Direction) (w l : ℤ) → direction ≡ Forward → minute_from direction w l ≡ int_max (minute_of (w +ℤ pos 59)) l
from_forward direction w l e = ap (λ (d : Direction). minute_from d w l) e

pub from_backward : (direction : Direction) (w l : ℤ) → direction ≡ Backward → minute_from direction w l ≡ minute_of w
from_backward direction w l e = ap (λ (d : Direction). minute_from d w l) e

module _ (p : StretchSearch) (k : ℤ) (near : IsNearestFrom p k) where
  found_bounds : (first_searched ≤ℤ (k *ℤ pos 60 +ℤ pos 59)) × ((k *ℤ pos 60) ≤ℤ last_searched)
  found_bounds = named_bounds (job_of p.job.now.cron) k near.counts.1

  pub minute_fits : FitsSigned w64 k
  minute_fits = omega (arith, ints, found_bounds)

  pub product_fits : FitsSigned w64 (k *ℤ pos 60)
  product_fits = omega (arith, ints, found_bounds)

  pub second_fits : FitsSigned w64 (k *ℤ pos 60 -ℤ p.stretch.offset)
  second_fits = omega (arith, ints, found_bounds, p.stretch.fits.offset_low, p.stretch.fits.offset_high)

  pub none_before_least : k <ℤ least_in p → NoneOf p (AfterBegin p)
  none_before_least h =
      nothing_inside (zone_in p) p.stretch.begin p.stretch.end p.stretch.offset p.stretch.before p.stretch.fits (job_of p.job.now.cron) p.job.now.is_starred p.direction p.from k near p.high (inl h)

  pub none_past_end : p.stretch.end ≤ℤ (k *ℤ pos 60 -ℤ p.stretch.offset) → NoneOf p (AfterBegin p)
  none_past_end h =
      nothing_inside (zone_in p) p.stretch.begin p.stretch.end p.stretch.offset p.stretch.before p.stretch.fits (job_of p.job.now.cron) p.job.now.is_starred p.direction p.from k near p.high (inr h)

  pub found_after_begin : least_in p ≤ℤ k → (k *ℤ pos 60 -ℤ p.stretch.offset) <ℤ p.stretch.end → IsFoundOf p (AfterBegin p) (record { second = k *ℤ pos 60 -ℤ p.stretch.offset; count = 1 })
  found_after_begin above high =
      let found = nearest_inside (zone_in p) p.stretch.begin p.stretch.end p.stretch.offset p.stretch.before p.stretch.fits (job_of p.job.now.cron) p.job.now.is_starred p.direction p.from k near above high in
      (found.0, record { some = lit< tt; times = found.1 })

-- where no minute is named
pub none_after_begin : (p : StretchSearch) → NoneNamed p.direction (job_of p.job.now.cron) (minute_from p.direction (p.from +ℤ p.stretch.offset) (least_in p)) → NoneOf p (AfterBegin p)
none_after_begin p none =
    none_inside (zone_in p) p.stretch.begin p.stretch.end p.stretch.offset p.stretch.before p.stretch.fits (job_of p.job.now.cron) p.job.now.is_starred p.direction p.from none

-- ---- the first second of the stretch

-- where something is started there, and the search reaches it
pub found_at_begin : (p : StretchSearch) (count : ℕ) → Reaches p.direction p.from p.stretch.begin → AreStarts (job_in p) (zone_in p) p.stretch.begin count → (count ≡ 0 → ⊥)
    → IsFoundAtBegin p (record { second = p.stretch.begin; count = count })
found_at_begin p count on starts some = let more : 0 < count = omega (arith, some) in record { at = refl; on = on; some = more; times = starts.times more }

pub none_at_begin : (p : StretchSearch) (count : ℕ) → AreStarts (job_in p) (zone_in p) p.stretch.begin count → count ≡ 0 → NoneAtBegin p
none_at_begin p count starts zero = λ on. starts.none zero

pub backward_reaches : (direction : Direction) (from begin : ℤ) → direction ≡ Backward → begin ≤ℤ from → Reaches direction from begin
backward_reaches direction from begin e low = subst (λ (d : Direction). Reaches d from begin) (sym e) (back from begin low)
  where
    back : (from begin : ℤ) → begin ≤ℤ from → Reaches Backward from begin
    back from begin low = omega (arith, ints)

pub forward_reaches : (direction : Direction) (from begin : ℤ) → direction ≡ Forward → (from ≤ℤ begin) ↔ Reaches direction from begin
forward_reaches direction from begin e = subst (λ (d : Direction). (from ≤ℤ begin) ↔ Reaches d from begin) (sym e) (on from begin)
  where
    on : (from begin : ℤ) → (from ≤ℤ begin) ↔ Reaches Forward from begin
    on from begin = ((λ h. omega (arith, ints)), λ h. omega (arith, ints))

-- ---- both together

module _ (p : StretchSearch) where
  in_or_at : (i : ℤ) → Within p i → AfterBegin p i ⊎ (i ≡ p.stretch.begin)
  in_or_at i (low, high, on) = by_lt_z p.stretch.begin i (λ lt. inl (lt, high, on)) (λ le. inr (omega (arith, ints)))

  after_in : (i : ℤ) → AfterBegin p i → Within p i
  after_in i (low, high, on) = (omega (arith, ints), high, on)

  at_in : Reaches p.direction p.from p.stretch.begin → Within p p.stretch.begin
  at_in on = (omega (arith, ints), p.stretch.fits.order, on)

  -- the first second is found
  pub found_first : (s : Start) → ((j : ℤ) → AfterBegin p j → Starts (job_in p) (zone_in p) j → Reaches p.direction p.stretch.begin j) → IsFoundAtBegin p s → IsFoundOf p (Within p) s
  found_first s later found =
      let here : Starts (job_in p) (zone_in p) p.stretch.begin = (s.count, found.some, found.times) in (
        subst (λ (i : ℤ). NearestWhere p.direction (λ j. Within p j × Starts (job_in p) (zone_in p) j) i) (sym found.at) (record {
          counts = (at_in found.on, here);
          nearest = λ j (within, starts). elim (in_or_at j within) [
            | inl after ↦ later j after starts
            | inr same ↦ subst (Reaches p.direction p.stretch.begin) (sym same) (reaches-same p.direction p.stretch.begin)
          ];
        }),
        record { some = found.some; times = subst (λ (i : ℤ). StartsTimes (job_in p) (zone_in p) i s.count) (sym found.at) found.times },
      )

  -- another second is
  pub found_later : (s : Start) → (Starts (job_in p) (zone_in p) p.stretch.begin → Reaches p.direction p.from p.stretch.begin → Reaches p.direction s.second p.stretch.begin)
      → IsFoundOf p (AfterBegin p) s → IsFoundOf p (Within p) s
  found_later s first (near, is) = (
    record {
      counts = (after_in s.second near.counts.0, near.counts.1);
      nearest = λ j (within, starts). elim (in_or_at j within) [
        | inl after ↦ near.nearest j (after, starts)
        | inr same ↦ subst (Reaches p.direction s.second) (sym same) (first (subst (Starts (job_in p) (zone_in p)) same starts) (subst (Reaches p.direction p.from) same within.2))
      ];
    },
    is,
  )

  -- nothing is
  pub none_found : NoneOf p (AfterBegin p) → (IsWithin p.direction ((zone_in p).reads p.stretch.begin) → NoneAtBegin p) → NoneOf p (Within p)
  none_found later first = λ i within inside starts. elim (in_or_at i within) [
    | inl after ↦ later i after inside starts
    | inr same ↦ first (subst (λ (j : ℤ). IsWithin p.direction ((zone_in p).reads j)) same inside) (subst (Reaches p.direction p.from) same within.2) (subst (Starts (job_in p) (zone_in p)) same starts)
  ]

  reads_begin : (zone_in p).reads p.stretch.begin ≡ p.stretch.begin +ℤ p.stretch.offset
  reads_begin = p.stretch.fits.steady p.stretch.begin (omega (arith, ints)) p.stretch.fits.order

  -- forward the first second comes before what is after it
  pub first_forward : p.direction ≡ Forward → (s : Start) → IsFoundAtBegin p s → IsFoundOf p (Within p) s
  first_forward e s found = found_first s (λ j later starts. (forward_reaches p.direction p.stretch.begin j e).0 (omega (arith, ints, later.0))) found

  pub later_forward : (r : Option Start) → NoneAtBegin p → MatchOption r (NoneOf p (AfterBegin p)) (IsFoundOf p (AfterBegin p)) → MatchOption r (NoneOf p (Within p)) (IsFoundOf p (Within p))
  later_forward None first later = none_found later (λ _. first)
  later_forward (Some s) first found = found_later s (λ starts on. absurd (first on starts)) found

  -- and backward after it
  pub later_backward : p.direction ≡ Backward → (s : Start) → IsFoundOf p (AfterBegin p) s → IsFoundOf p (Within p) s
  later_backward e s found = found_later s (λ _ _. backward_reaches p.direction s.second p.stretch.begin e (omega (arith, ints, found.0.counts.0.0))) found

  all_within : p.direction ≡ Backward → (j : ℤ) → IsWithin p.direction (p.stretch.begin +ℤ p.stretch.offset) → AfterBegin p j → IsWithin p.direction ((zone_in p).reads j)
  all_within e j w later =
      let at = p.stretch.fits.steady j (omega (arith, ints, later.0)) later.1 in
      let from : IsWithin Backward (p.stretch.begin +ℤ p.stretch.offset) = subst (λ (d : Direction). IsWithin d (p.stretch.begin +ℤ p.stretch.offset)) e w in
      let here : IsWithin Backward ((zone_in p).reads j) = omega (arith, ints, from, at, later.0) in
      subst (λ (d : Direction). IsWithin d ((zone_in p).reads j)) (sym e) here

  pub first_backward : p.direction ≡ Backward → (r : Option Start) → NoneOf p (AfterBegin p) → MatchOption r (NoneAtBeginWithin p) (IsFoundAtBeginWithin p)
      → MatchOption r (NoneOf p (Within p)) (IsFoundOf p (Within p))
  first_backward e None later first = none_found later (λ w. first (subst (IsWithin p.direction) reads_begin w))
  first_backward e (Some s) later found = found_first s (λ j after starts. absurd (later j after (all_within e j found.0 after) starts)) found.1

  pub within_answer : (r : Option Start) → IsWithin p.direction (p.stretch.begin +ℤ p.stretch.offset) → MatchOption r (NoneAtBegin p) (IsFoundAtBegin p)
      → MatchOption r (NoneAtBeginWithin p) (IsFoundAtBeginWithin p)
  within_answer None w none = λ _. none
  within_answer (Some s) w found = (w, found)
