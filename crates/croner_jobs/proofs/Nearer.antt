-- What is found of fewer seconds, and of two jobs.
use Rattle.std.proofs.Common.{◌≡◌, sym, subst, ℤ, pos, ◌-ℤ◌, arith, inl, inr, Bool, Option, Some, None, Result, Ok, Err, IfOk, IfErr}
use Rattle.std.proofs.lemmas.Int.{ints}
use Rattle.croner.specs.Recurring.{CountsFrom}
use Rattle.croner.specs.Zone.{Zone, Moment}
use Rattle.croner.specs.search.Runs.{Reaches}
use Rattle.croner_base.specs.declared.errors.CronError.{CronError}
use Rattle.croner_base.specs.declared.time.Direction.{Direction}
use Rattle.croner.proofs.zone.Ahead.{reaches-trans}
use Rattle.croner_jobs.specs.Served.{IsIn, IsServed, first_served, last_served}
use Rattle.croner_jobs.specs.Private.Sought.{IsAround, IsSought, IsNearer, IsOfBoth, IsUnknown, in_either}
use Rattle.croner_jobs.proofs.Windows.{from_of, run_of, counts_of}

pub around_served : (i : ℤ) → IsServed i → IsAround i
around_served i served = (omega (arith, ints, served), omega (arith, ints, served))

pub around_start : (s : ℤ) → IsIn (first_served -ℤ pos 1) last_served s → IsAround s
around_start s is = (omega (arith, ints, is), omega (arith, ints, is))

-- what is the nearest of more seconds is the nearest of fewer
pub sought_served : {T : Type 0} (moment : T → Moment) (direction : Direction) (runs : Zone → ℤ → Type 0) (z : Zone) (s : ℤ) (r : Option T)
    → IsSought moment IsAround direction runs z s r → IsSought moment IsServed direction runs z s r
sought_served moment direction runs z s (Some t) sought = (
  sought.0,
  sought.1,
  λ calm. record {
    counts = (sought.2 calm).counts;
    nearest = λ i served counts. (sought.2 calm).nearest i (around_served i served) counts;
  },
)
sought_served moment direction runs z s None none = λ calm i served counts. none calm i (around_served i served) counts

pub ok_served : {T : Type 0} (moment : T → Moment) (direction : Direction) (runs : Zone → ℤ → Type 0) (z : Zone) (s : ℤ) (r : Result (Option T) CronError)
    → IfOk r (IsSought moment IsAround direction runs z s) → IfOk r (IsSought moment IsServed direction runs z s)
ok_served moment direction runs z s (Ok o) sought = sought_served moment direction runs z s o sought
ok_served moment direction runs z s (Err e) sought = tt

module _ (direction : Direction) (a b : Zone → ℤ → Type 0) (z : Zone) (s : ℤ) where
  in_first : (i : ℤ) → CountsFrom direction (a z) s i → CountsFrom direction (in_either a b z) s i
  in_first i counts = counts_of direction (in_either a b z) s i (from_of direction (a z) s i counts) (inl (run_of direction (a z) s i counts))

  in_second : (i : ℤ) → CountsFrom direction (b z) s i → CountsFrom direction (in_either a b z) s i
  in_second i counts = counts_of direction (in_either a b z) s i (from_of direction (b z) s i counts) (inr (run_of direction (b z) s i counts))

  -- what counts of both counts of one
  by_one : {Q : Type 0} (i : ℤ) → CountsFrom direction (in_either a b z) s i → (CountsFrom direction (a z) s i → Q) → (CountsFrom direction (b z) s i → Q) → Q
  by_one i counts of_a of_b =
      let from = from_of direction (in_either a b z) s i counts in
      elim (run_of direction (in_either a b z) s i counts) [
        | inl run ↦ of_a (counts_of direction (a z) s i from run)
        | inr run ↦ of_b (counts_of direction (b z) s i from run)
      ]

  module _ {T : Type 0} (moment : T → Moment) where
    both_first : (x y : T) → IsSought moment IsAround direction a z s (Some x) → IsSought moment IsAround direction b z s (Some y)
        → Reaches direction (moment x).instant (moment y).instant → IsSought moment IsServed direction (in_either a b) z s (Some x)
    both_first x y p q on = (
      p.0,
      p.1,
      λ calm. record {
        counts = in_first (moment x).instant (p.2 calm).counts;
        nearest = λ i served counts.
            by_one i counts (λ c. (p.2 calm).nearest i (around_served i served) c)
            (λ c. reaches-trans direction (moment x).instant (moment y).instant i on ((q.2 calm).nearest i (around_served i served) c));
      },
    )

    both_second : (x y : T) → IsSought moment IsAround direction a z s (Some x) → IsSought moment IsAround direction b z s (Some y)
        → Reaches direction (moment y).instant (moment x).instant → IsSought moment IsServed direction (in_either a b) z s (Some y)
    both_second x y p q on = (
      q.0,
      q.1,
      λ calm. record {
        counts = in_second (moment y).instant (q.2 calm).counts;
        nearest = λ i served counts.
            by_one i counts
            (λ c. reaches-trans direction (moment y).instant (moment x).instant i on ((p.2 calm).nearest i (around_served i served) c))
            (λ c. (q.2 calm).nearest i (around_served i served) c);
      },
    )

    first_alone : (x : T) → IsSought moment IsAround direction a z s (Some x) → IsSought moment IsAround direction b z s None
        → IsSought moment IsServed direction (in_either a b) z s (Some x)
    first_alone x p none = (
      p.0,
      p.1,
      λ calm. record {
        counts = in_first (moment x).instant (p.2 calm).counts;
        nearest = λ i served counts.
            by_one i counts (λ c. (p.2 calm).nearest i (around_served i served) c) (λ c. absurd (none calm i (around_served i served) c));
      },
    )

    second_alone : (y : T) → IsSought moment IsAround direction a z s None → IsSought moment IsAround direction b z s (Some y)
        → IsSought moment IsServed direction (in_either a b) z s (Some y)
    second_alone y none q = (
      q.0,
      q.1,
      λ calm. record {
        counts = in_second (moment y).instant (q.2 calm).counts;
        nearest = λ i served counts.
            by_one i counts (λ c. absurd (none calm i (around_served i served) c)) (λ c. (q.2 calm).nearest i (around_served i served) c);
      },
    )

    -- the nearer one of what is found of two jobs is found of both
    pub nearer_sought : (x y r : Option T) → IsSought moment IsAround direction a z s x → IsSought moment IsAround direction b z s y
        → IsNearer moment direction x y r → IsSought moment IsServed direction (in_either a b) z s r
    nearer_sought (Some x) (Some y) r p q (inl near) =
        let P : Option T → Type 0 = λ o. IsSought moment IsServed direction (in_either a b) z s o in
        subst P (sym near.0) (both_first x y p q near.1)
    nearer_sought (Some x) (Some y) r p q (inr near) =
        let P : Option T → Type 0 = λ o. IsSought moment IsServed direction (in_either a b) z s o in
        subst P (sym near.0) (both_second x y p q near.1)
    nearer_sought (Some x) None r p q same =
        let P : Option T → Type 0 = λ o. IsSought moment IsServed direction (in_either a b) z s o in
        subst P (sym same) (first_alone x p q)
    nearer_sought None (Some y) r p q same =
        let P : Option T → Type 0 = λ o. IsSought moment IsServed direction (in_either a b) z s o in
        subst P (sym same) (second_alone y p q)
    nearer_sought None None r p q same =
        let P : Option T → Type 0 = λ o. IsSought moment IsServed direction (in_either a b) z s o in
        subst P (sym same) (λ calm i served counts.
        by_one i counts (λ c. absurd (p calm i (around_served i served) c)) (λ c. absurd (q calm i (around_served i served) c)))

    -- the same of what the calls answer
    pub both_found : (p q r : Result (Option T) CronError) → IfOk p (IsSought moment IsAround direction a z s) → IfOk q (IsSought moment IsAround direction b z s)
        → IsOfBoth moment direction p q r → IfOk r (IsSought moment IsServed direction (in_either a b) z s)
    both_found (Ok x) (Ok y) (Ok r) p q near = nearer_sought x y r p q near
    both_found (Ok x) (Ok y) (Err e) p q near = absurd near
    both_found (Ok x) (Err e) r p q same =
        let P : Result (Option T) CronError → Type 0 = λ o. IfOk o (IsSought moment IsServed direction (in_either a b) z s) in
        subst P (sym same) tt
    both_found (Err e) y r p q same =
        let P : Result (Option T) CronError → Type 0 = λ o. IfOk o (IsSought moment IsServed direction (in_either a b) z s) in
        subst P (sym same) tt

    pub both_unknown : (lack : Bool) (start : Moment) (p q r : Result (Option T) CronError) → IfErr p (IsUnknown lack start) → IfErr q (IsUnknown lack start)
        → IsOfBoth moment direction p q r → IfErr r (IsUnknown lack start)
    both_unknown lack start (Ok x) (Ok y) (Ok r) p q near = tt
    both_unknown lack start (Ok x) (Ok y) (Err e) p q near = absurd near
    both_unknown lack start (Ok x) (Err e) r p q same =
        let P : Result (Option T) CronError → Type 0 = λ o. IfErr o (IsUnknown lack start) in
        subst P (sym same) q
    both_unknown lack start (Err e) y r p q same =
        let P : Result (Option T) CronError → Type 0 = λ o. IfErr o (IsUnknown lack start) in
        subst P (sym same) p
