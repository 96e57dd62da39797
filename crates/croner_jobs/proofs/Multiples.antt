-- The seconds of an interval.
use Rattle.std.proofs.Common.{◌≡◌, ap, sym, subst, ◌∙◌, ℕ, ◌+◌, ◌*◌, ◌/◌, ◌%◌, ◌<◌, ◌≤◌, ◌^◌, unsigned_abs, to_z, w64, ℤ, pos, ◌+ℤ◌, ◌-ℤ◌, ◌<ℤ◌, ◌≤ℤ◌, arith, inl, inr, Option, Some, None, Result, Ok, Err, IfOk}
use Rattle.std.proofs.lemmas.Bool.{cases_lt}
use Rattle.std.proofs.lemmas.Int.{ints, to_z_pos}
use Rattle.std.proofs.Math.Nat.{mul-le-mul_right}
use Rattle.croner.specs.Recurring.{CountsFrom}
use Rattle.croner.specs.Zone.{Zone, Moment}
use Rattle.croner.specs.search.Runs.{Reaches}
use Rattle.croner_base.specs.declared.errors.CronError.{CronError}
use Rattle.croner_base.specs.declared.time.Direction.{Direction}
use Rattle.croner_base.specs.declared.time.Direction.TheVariants.{Forward, Backward}
use Rattle.croner_jobs.specs.Runs.{IsNth}
use Rattle.croner_jobs.specs.Served.{IsIn, IsServed, first_served, last_served}
use Rattle.croner_jobs.specs.Private.Multiples.{IsSince, IsMultiple, multiples}
use Rattle.croner_jobs.specs.Private.Sought.{IsSought, IsNearestOf, IsThere}

-- one multiple comes after another only by a whole interval
a_whole_on : (p n q : ℕ) → q * p < n * p → q * p + p ≤ n * p
a_whole_on p n q lt = elim (cases_lt q n) [
  | inl more ↦ omega (arith, mul-le-mul_right {m = q + 1} {n = n} p (omega (arith, more)))
  | inr le ↦ absurd (omega (arith, lt, mul-le-mul_right p le))
]

-- how far a second lies after the last of an interval's
since_is : (first s : ℤ) (p : ℕ) → 0 < p → first ≤ℤ s → IsSince first p s (pos (unsigned_abs (s -ℤ first) % p))
since_is first s p some le = record {
  nth = (unsigned_abs (s -ℤ first) / p, omega (arith, ints));
  low = omega (arith, ints);
  high = omega (arith, ints);
}

pub since_of : (first s : ℤ) (p d q : ℕ) → d ≡ unsigned_abs (s -ℤ first) → q ≡ p → 0 < p → p < 2 ^ 32 → first ≤ℤ s
    → IsSince first p s (to_z w64 (d % q))
since_of first s p d q d-is q-is some small le =
    let P : ℤ → Type 0 = IsSince first p s in
    let less : d % q < 2 ^ 63 = omega arith in
    let same : pos (unsigned_abs (s -ℤ first) % p) ≡ pos (d % q) = ap (λ n. pos (n % p)) (sym d-is) ∙ ap (λ n. pos (d % n)) (sym q-is) in
    subst P (same ∙ sym (to_z_pos w64 (d % q) less)) (since_is first s p some le)

module _ (first : ℤ) (p : ℕ) (s since : ℤ) (h : IsSince first p s since) where
  next_is : (i : ℤ) → IsNth first p i → s <ℤ i → (s +ℤ (pos p -ℤ since)) ≤ℤ i
  next_is i nth lt =
      let on = a_whole_on p nth.0 h.nth.0 (omega (arith, ints, h.nth.1, h.low, nth.1, lt)) in
      omega (arith, ints, on, h.nth.1, nth.1)

  last_is : (i : ℤ) → IsNth first p i → i ≤ℤ s → i ≤ℤ (s -ℤ since)
  last_is i nth le = elim (cases_lt (h.nth.0 * p) (nth.0 * p)) [
    | inl later ↦ absurd (omega (arith, ints, a_whole_on p nth.0 h.nth.0 later, h.nth.1, nth.1, h.high, le))
    | inr no_later ↦ omega (arith, ints, no_later, h.nth.1, nth.1)
  ]

  pub after_is : (c : ℤ) → c ≡ s +ℤ (pos p -ℤ since) → IsMultiple Forward first p s (Some c)
  after_is c is = record {
    counts = (omega (arith, ints, h.high, is), (h.nth.0 + 1, omega (arith, ints, h.nth.1, is)));
    nearest = λ i counts. omega (arith, ints, is, next_is i counts.1 counts.0);
  }

  pub until_is : (c : ℤ) → c ≡ s -ℤ since → IsMultiple Backward first p s (Some c)
  until_is c is = record {
    counts = (omega (arith, ints, h.low, is), (h.nth.0, omega (arith, ints, h.nth.1, is)));
    nearest = λ i counts. omega (arith, ints, is, last_is i counts.1 counts.0);
  }

-- before the first second that one is the next, and none is the last
pub first_after : (first s : ℤ) (p : ℕ) → s <ℤ first → IsMultiple Forward first p s (Some first)
first_after first s p lt = record {
  counts = (lt, (0, omega (arith, ints)));
  nearest = λ i counts. omega (arith, ints, counts.1.1);
}

pub none_until : (first s : ℤ) (p : ℕ) → s <ℤ first → IsMultiple Backward first p s None
none_until first s p lt = λ i counts. omega (arith, ints, lt, counts.0, counts.1.1)

-- ---- as what is sought

-- one that isn't served lies beyond those that are
out_of_reach : (direction : Direction) (first : ℤ) (p : ℕ) (s c i : ℤ) → IsIn (first_served -ℤ pos 1) last_served s
    → CountsFrom direction (IsNth first p) s c → (IsServed c → ⊥) → IsServed i → Reaches direction c i → ⊥
out_of_reach Forward first p s c i around counts out served on = out (omega (arith, ints, around, counts.0), omega (arith, ints, on, served))
out_of_reach Backward first p s c i around counts out served on = out (omega (arith, ints, on, served), omega (arith, ints, around, counts.0))

module _ {T : Type 0} (moment : T → Moment) (direction : Direction) (z : Zone) (first : ℤ) (p : ℕ) (s : ℤ) where
  pub multiple_there : (c : ℤ) → IsMultiple direction first p s (Some c) → (t : T) → IsThere moment z c (Some t)
      → IsSought moment IsServed direction (multiples first p) z s (Some t)
  multiple_there c is t there =
      let P : ℤ → Type 0 = λ f. IsNearestOf IsServed direction (IsNth first p) s f in
      let same : (moment t).instant ≡ c = ap (λ m. m.instant) there.0 in (
        ap (λ m. m.zone) there.0,
        ap (λ m. m.fraction) there.0,
        λ calm. subst P (sym same) (record { counts = is.counts; nearest = λ i served counts. is.nearest i counts }),
      )

  pub multiple_out : (c : ℤ) → IsIn (first_served -ℤ pos 1) last_served s → IsMultiple direction first p s (Some c) → (IsServed c → ⊥)
      → IsSought moment IsServed direction (multiples first p) z s None
  multiple_out c around is out = λ calm i served counts. out_of_reach direction first p s c i around is.counts out served (is.nearest i counts)

  pub multiple_none : IsMultiple direction first p s None → IsSought moment IsServed direction (multiples first p) z s None
  multiple_none none = λ calm i served counts. none i counts

  pub ok_there : (c : ℤ) → IsIn (first_served -ℤ pos 1) last_served s → IsMultiple direction first p s (Some c) → (r : Result (Option T) CronError)
      → IfOk r (IsThere moment z c) → IfOk r (IsSought moment IsServed direction (multiples first p) z s)
  ok_there c around is (Ok (Some t)) there = multiple_there c is t there
  ok_there c around is (Ok None) out = multiple_out c around is out
  ok_there c around is (Err e) there = tt
