-- Steps of a search over the stretches of a clock.
use Rattle.std.proofs.Common.{◌≡◌, sym, subst, ap, arith, ℤ, pos, ◌+ℤ◌, ◌-ℤ◌, ◌≤ℤ◌, ◌<ℤ◌, w64, FitsSigned}
use Rattle.std.proofs.lemmas.Int.{ints, int_max_is, int_min_is, by_lt_z}
use Rattle.std.specs.Int.{int_max, int_min}
use Rattle.croner_base.specs.declared.time.Direction.{Direction}
use Rattle.croner_base.specs.declared.time.Direction.TheVariants.{Forward, Backward}
use Rattle.croner.specs.search.Limit.{IsWithin, InSpan}
use Rattle.croner.proofs.zone.Ahead.{reaches-same}
use Rattle.crontab_runs.specs.declared.job.Start.{Start}
use Rattle.crontab_runs.specs.declared.stretch_search.StretchSearch.{StretchSearch}
use Rattle.crontab_runs.specs.declared.stretch.Stretch.{Stretch}
use Rattle.crontab_runs.specs.Searches.{IsStartOf}
use Rattle.crontab_runs.specs.Starts.{Starts}
use Rattle.crontab_runs.specs.Private.Found.{job_in, zone_in, Within, NoneOf, IsFoundOf}
use Rattle.crontab_runs.specs.Private.Parts.{IsNearestStart}
use Rattle.crontab_runs.specs.Private.Steps.{ComesTo, SameFrom, far_wall, InStretch, FromStretch, GoesOn}

-- ---- from which second of the stretch the search goes

same_later : (s : Stretch) (from x : ℤ) → x ≡ int_max from s.begin → SameFrom Forward s from x
same_later s from x e i low high = let m = int_max_is from s.begin in ((λ h. omega (arith, ints, m, e, h)), λ h. omega (arith, ints, m, e, h, low))

same_earlier : (s : Stretch) (from x : ℤ) → x ≡ int_min from (s.end -ℤ pos 1) → SameFrom Backward s from x
same_earlier s from x e i low high = let m = int_min_is from (s.end -ℤ pos 1) in ((λ h. omega (arith, ints, m, e, h)), λ h. omega (arith, ints, m, e, h, high))

pub same_forward : (direction : Direction) (s : Stretch) (from x : ℤ) → direction ≡ Forward → x ≡ int_max from s.begin → SameFrom direction s from x
same_forward direction s from x e is = subst (λ (d : Direction). SameFrom d s from x) (sym e) (same_later s from x is)

pub same_backward : (direction : Direction) (s : Stretch) (from x : ℤ) → direction ≡ Backward → x ≡ int_min from (s.end -ℤ pos 1) → SameFrom direction s from x
same_backward direction s from x e is = subst (λ (d : Direction). SameFrom d s from x) (sym e) (same_earlier s from x is)

pub low_backward : (direction : Direction) (s : Stretch) (from x : ℤ) → direction ≡ Backward → ComesTo direction s from → x ≡ int_min from (s.end -ℤ pos 1) → s.begin ≤ℤ x
low_backward direction s from x e comes is =
    let here : s.begin ≤ℤ from = subst (λ (d : Direction). ComesTo d s from) e comes in
    omega (arith, ints, int_min_is from (s.end -ℤ pos 1), is, here, s.fits.order)

pub end_small : (s : Stretch) → FitsSigned w64 s.end × FitsSigned w64 s.begin × FitsSigned w64 s.offset × FitsSigned w64 (s.end -ℤ pos 1)
    × FitsSigned w64 (s.end -ℤ pos 1 +ℤ s.offset) × FitsSigned w64 (s.begin +ℤ s.offset)
end_small s =
    let f = s.fits in (
      omega (arith, ints, f.begin_low, f.order, f.end_high),
      omega (arith, ints, f.begin_low, f.order, f.end_high),
      omega (arith, ints, f.offset_low, f.offset_high),
      omega (arith, ints, f.begin_low, f.order, f.end_high),
      omega (arith, ints, f.begin_low, f.order, f.end_high, f.offset_low, f.offset_high),
      omega (arith, ints, f.begin_low, f.order, f.end_high, f.offset_low, f.offset_high),
    )

-- whether the searched years go on beyond it
pub far_forward : (direction : Direction) (s : Stretch) → direction ≡ Forward → far_wall direction s ≡ s.end -ℤ pos 1 +ℤ s.offset
far_forward direction s e = ap (λ (d : Direction). far_wall d s) e

pub far_backward : (direction : Direction) (s : Stretch) → direction ≡ Backward → far_wall direction s ≡ s.begin +ℤ s.offset
far_backward direction s e = ap (λ (d : Direction). far_wall d s) e

-- ---- what the search in the stretch finds

module _ (p : StretchSearch) (from : ℤ) (same : SameFrom p.direction p.stretch from p.from) where
  in_within : (i : ℤ) → InStretch p.direction p.stretch from i → Within p i
  in_within i (low, high, on) = (low, high, (same i low high).1 on)

  within_in : (i : ℤ) → Within p i → InStretch p.direction p.stretch from i
  within_in i (low, high, on) = (low, high, (same i low high).0 on)

  pub step_found : (s : Start) → IsFoundOf p (Within p) s
      → IsNearestStart p.direction (job_in p) (zone_in p) (InStretch p.direction p.stretch from) s.second × IsStartOf (job_in p) (zone_in p) s
  step_found s (near, is) = (
    record {
      counts = (within_in s.second near.counts.0, near.counts.1);
      nearest = λ j (inside, starts). near.nearest j (in_within j inside, starts);
    },
    is,
  )

  -- all instants of the stretch show less than its last in the direction
  all_searched : (direction : Direction) → (i : ℤ) → p.stretch.begin ≤ℤ i → i <ℤ p.stretch.end → IsWithin direction (far_wall direction p.stretch) → IsWithin direction ((zone_in p).reads i)
  all_searched Forward i low high w = omega (arith, ints, p.stretch.fits.steady i low high, w)
  all_searched Backward i low high w = omega (arith, ints, p.stretch.fits.steady i low high, w)

  pub step_on : NoneOf p (Within p) → IsWithin p.direction (far_wall p.direction p.stretch) → GoesOn p.direction (job_in p) p.stretch from
  step_on none w = record {
    none = λ i inside starts. none i (in_within i inside) (all_searched p.direction i inside.0 inside.1 w) starts;
    within = w;
  }

  -- the last instant of the stretch, and all beyond it, lie outside of the span
  past_span : (direction : Direction) (i : ℤ) → FromStretch direction p.stretch from i → InSpan direction (zone_in p).reads i → (IsWithin direction (far_wall direction p.stretch) → ⊥)
      → InStretch direction p.stretch from i
  past_span Forward i (low, on) span out = by_lt_z i p.stretch.end (λ lt. (low, lt, on))
      (λ le.
      let last : ℤ = p.stretch.end -ℤ pos 1 in
      let reads = p.stretch.fits.steady last (omega (arith, ints, p.stretch.fits.order)) (omega (arith, ints)) in
      absurd (out (subst (IsWithin Forward) reads (span last (omega (arith, ints))))))
  past_span Backward i (high, on) span out = by_lt_z i p.stretch.begin
      (λ lt.
      let reads = p.stretch.fits.steady p.stretch.begin (omega (arith, ints)) p.stretch.fits.order in
      absurd (out (subst (IsWithin Backward) reads (span p.stretch.begin (omega (arith, ints))))))
      (λ le. (le, high, on))

  own_within : (direction : Direction) (i : ℤ) → InSpan direction (zone_in p).reads i → IsWithin direction ((zone_in p).reads i)
  own_within direction i span = span i (reaches-same direction i)

  pub step_over : NoneOf p (Within p) → (IsWithin p.direction (far_wall p.direction p.stretch) → ⊥)
      → (i : ℤ) → FromStretch p.direction p.stretch from i → InSpan p.direction (zone_in p).reads i → Starts (job_in p) (zone_in p) i → ⊥
  step_over none out = λ i on span starts. none i (in_within i (past_span p.direction i on span out)) (own_within p.direction i span) starts
