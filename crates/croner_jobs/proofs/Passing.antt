-- From a run of a job on to the nearest one on a date that is kept.
use Rattle.std.proofs.Common.{◌≡◌, refl, sym, subst, ◌∙◌, ℤ, pos, neg_ℤ, ◌+ℤ◌, ◌-ℤ◌, ◌<ℤ◌, ◌≤ℤ◌, unsigned_abs, ◌<◌, ◌^◌, Bool, false, IsTrue, ◌↔◌, arith, inl, inr, Option, Some, None, Result, Ok, Err, IfOk}
use Rattle.std.proofs.lemmas.Bool.{false≢true}
use Rattle.std.proofs.lemmas.Int.{ints}
use Rattle.croner.specs.Calm.{IsCalm}
use Rattle.croner.specs.Recurring.{CountsFrom}
use Rattle.croner.specs.Zone.{Zone, Moment}
use Rattle.croner.specs.search.Runs.{Precedes, Reaches}
use Rattle.croner_base.specs.declared.errors.CronError.{CronError}
use Rattle.croner_base.specs.declared.errors.CronError.TheVariants.{InvalidTime}
use Rattle.croner.proofs.zone.Ahead.{Direction, Forward, Backward, along, reaches-same, reaches-trans, precedes-reaches, same_or_ahead}
use Rattle.croner_jobs.specs.declared.dates.Dates.{Dates}
use Rattle.croner_jobs.specs.Dates.{IsKept}
use Rattle.croner_jobs.specs.Runs.{on_dates}
use Rattle.croner_jobs.specs.Served.{IsServed}
use Rattle.croner_jobs.specs.Private.Passed.{IsBeyond, IsFirstOn, IsPassedTo}
use Rattle.croner_jobs.specs.Private.Sought.{IsAround, IsFrom, IsPast, IsSought, IsUnknown}
use Rattle.croner_jobs.proofs.Nearer.{around_served}
use Rattle.croner_jobs.proofs.Windows.{from_of, run_of, counts_of}

-- ---- the next run beyond a second

module _ {T : Type 0} (moment : T → Moment) (direction : Direction) (runs : Zone → ℤ → Type 0) (z : Zone) (s t : ℤ) (past : IsPast direction s t) where
  pub beyond_of : (r : Option T) → IsSought moment IsAround direction runs z t r → IsBeyond moment direction runs z s r
  beyond_of (Some run) sought = (
    sought.0,
    sought.1,
    λ calm.
        let near = sought.2 calm in
        let f : ℤ = (moment run).instant in
        record {
          past = past.on f (from_of direction (runs z) t f near.counts);
          run = run_of direction (runs z) t f near.counts;
          nearest = λ i served on is. near.nearest i (around_served i served) (counts_of direction (runs z) t i (past.all i served on) is);
        },
  )
  beyond_of None none =
      λ calm i served on is. none calm i (around_served i served) (counts_of direction (runs z) t i (past.all i served on) is)

  pub ok_beyond : (r : Result (Option T) CronError) → IfOk r (IsSought moment IsAround direction runs z t) → IfOk r (IsBeyond moment direction runs z s)
  ok_beyond (Ok o) sought = beyond_of o sought
  ok_beyond (Err e) sought = tt

pub none_beyond : {T : Type 0} (moment : T → Moment) (direction : Direction) (runs : Zone → ℤ → Type 0) (z : Zone) (s : ℤ)
    → ((i : ℤ) → IsServed i → Precedes direction s i → ⊥) → IsBeyond moment direction runs z s None
none_beyond moment direction runs z s none = λ calm i served on is. none i served on

-- ---- from a run on

-- all kept runs from the first one up to the one that is stood at were passed over
pub record Passes (direction : Direction) (runs : Zone → ℤ → Type 0) (dates : Dates) (z : Zone) (first : ℤ) (run : Moment) : Type 0 where
  pub zone : run.zone ≡ z
  pub whole : run.fraction ≡ 0
  pub is_run : IsCalm z → runs z first → runs z run.instant
  pub on : IsCalm z → runs z first → Reaches direction first run.instant
  pub nearest : IsCalm z → runs z first → (i : ℤ) → IsServed i → Reaches direction first i → on_dates dates runs z i → Reaches direction run.instant i

module _ (direction : Direction) (runs : Zone → ℤ → Type 0) (dates : Dates) (z : Zone) where
  pub begins : (m : Moment) → m.zone ≡ z → m.fraction ≡ 0 → Passes direction runs dates z m.instant m
  begins m zone whole = record {
    zone = zone;
    whole = whole;
    is_run = λ calm run. run;
    on = λ calm run. reaches-same direction m.instant;
    nearest = λ calm run i served on is. on;
  }

  module _ (first : ℤ) (run : Moment) (p : Passes direction runs dates z first run) where
    kept_here : IsKept dates (run.zone.reads run.instant) → IsKept dates (z.reads run.instant)
    kept_here kept = let P : Zone → Type 0 = λ x. IsKept dates (x.reads run.instant) in subst P p.zone kept

    module _ {T : Type 0} (moment : T → Moment) where
      pub ends : (t : T) → moment t ≡ run → IsKept dates (run.zone.reads run.instant) → IsPassedTo moment direction runs dates z first (Some t)
      ends t same kept =
          let P : Moment → Type 0 = λ m. (m.zone ≡ z) × (m.fraction ≡ 0) × (IsCalm z → runs z first → IsFirstOn direction (on_dates dates runs z) first m.instant) in
          subst P (sym same) (
            p.zone,
            p.whole,
            λ calm is. record {
              on = p.on calm is;
              run = (p.is_run calm is, kept_here kept);
              nearest = p.nearest calm is;
            },
          )

      module _ (out : IsKept dates (run.zone.reads run.instant) → ⊥) where
        -- what is kept from the first run on lies beyond it
        ahead : IsCalm z → runs z first → (i : ℤ) → IsServed i → Reaches direction first i → on_dates dates runs z i → Precedes direction run.instant i
        ahead calm is i served on kept =
            let P : ℤ → Type 0 = λ x. IsKept dates (z.reads x) in
            let Q : Zone → Type 0 = λ x. IsKept dates (x.reads run.instant) in
            elim (same_or_ahead direction run.instant i (p.nearest calm is i served on kept)) [
              | inl same ↦ absurd (out (subst Q (sym p.zone) (subst P (sym same) kept.1)))
              | inr far ↦ far
            ]

        pub goes_on : (next : T) → IsBeyond moment direction runs z run.instant (Some next) → Passes direction runs dates z first (moment next)
        goes_on next found = record {
          zone = found.0;
          whole = found.1;
          is_run = λ calm is. (found.2 calm).run;
          on = λ calm is.
              reaches-trans direction first run.instant (moment next).instant (p.on calm is)
              (precedes-reaches direction run.instant (moment next).instant (found.2 calm).past);
          nearest = λ calm is i served on kept. (found.2 calm).nearest i served (ahead calm is i served on kept) kept.0;
        }

        pub ends_none : IsBeyond moment direction runs z run.instant None → IsPassedTo moment direction runs dates z first None
        ends_none none = λ calm is i served on kept. none calm i served (ahead calm is i served on kept) kept.0

-- a next run that isn't later doesn't come in a calm zone
pub turns : {T : Type 0} (moment : T → Moment) (direction : Direction) (runs : Zone → ℤ → Type 0) (lack : Bool) (start : Moment) (s : ℤ) (next : T)
    → IsBeyond moment direction runs start.zone s (Some next) → (Precedes direction s (moment next).instant → ⊥) → IsUnknown lack start InvalidTime
turns moment direction runs lack start s next found not_on = record {
  promised = λ p. absurd (not_on (found.2 p.starts.calm).past);
  kind = inr (inr refl);
  other = refl;
}

-- ---- from a second on

from_on : (direction : Direction) (s f i : ℤ) → IsFrom direction s f → Reaches direction f i → IsFrom direction s i
from_on Forward s f i from on = omega (arith, ints, from, on)
from_on Backward s f i from on = omega (arith, ints, from, on)

module _ {T : Type 0} (moment : T → Moment) (direction : Direction) (runs : Zone → ℤ → Type 0) (dates : Dates) (z : Zone) (s : ℤ) where
  -- what counts of the kept runs counts of all
  weaker : (i : ℤ) → CountsFrom direction (on_dates dates runs z) s i → CountsFrom direction (runs z) s i
  weaker i counts =
      counts_of direction (runs z) s i (from_of direction (on_dates dates runs z) s i counts) (run_of direction (on_dates dates runs z) s i counts).0

  module _ (first : T) (sought : IsSought moment IsAround direction runs z s (Some first)) where
    pub passed_sought : (r : Option T) → IsPassedTo moment direction runs dates z (moment first).instant r
        → IsSought moment IsServed direction (on_dates dates runs) z s r
    passed_sought (Some t) passed = (
      passed.0,
      passed.1,
      λ calm.
          let near = sought.2 calm in
          let there = passed.2 calm (run_of direction (runs z) s (moment first).instant near.counts) in
          record {
            counts = counts_of direction (on_dates dates runs z) s (moment t).instant
                (from_on direction s (moment first).instant (moment t).instant (from_of direction (runs z) s (moment first).instant near.counts) there.on)
                there.run;
            nearest = λ i served counts.
                there.nearest i served (near.nearest i (around_served i served) (weaker i counts)) (run_of direction (on_dates dates runs z) s i counts);
          },
    )
    passed_sought None none =
        λ calm i served counts.
        let near = sought.2 calm in
        none calm (run_of direction (runs z) s (moment first).instant near.counts) i served
        (near.nearest i (around_served i served) (weaker i counts)) (run_of direction (on_dates dates runs z) s i counts)

    pub ok_passed : (r : Result (Option T) CronError) → IfOk r (IsPassedTo moment direction runs dates z (moment first).instant)
        → IfOk r (IsSought moment IsServed direction (on_dates dates runs) z s)
    ok_passed (Ok o) passed = passed_sought o passed
    ok_passed (Err e) passed = tt

  pub none_kept : IsSought moment IsAround direction runs z s None → IsSought moment IsServed direction (on_dates dates runs) z s None
  none_kept none = λ calm i served counts. none calm i (around_served i served) (weaker i counts)

-- ---- the test of a step, and how far it is to the last second

on_there : (direction : Direction) (a b s t : ℤ) → s ≡ a → t ≡ b → Precedes direction a b → Precedes direction s t
on_there direction a b s t e f on =
    let P : ℤ → Type 0 = λ i. Precedes direction i b in
    let Q : ℤ → Type 0 = λ i. Precedes direction s i in
    subst Q (sym f) (subst P (sym e) on)

pub not_on : (direction : Direction) (a b s t : ℤ) → s ≡ a → t ≡ b → (r : Bool) → (IsTrue r ↔ Precedes direction s t) → r ≡ false
    → Precedes direction a b → ⊥
not_on direction a b s t e f r test failed on = false≢true (sym failed ∙ test.1 (on_there direction a b s t e f on))

falls_by : (direction : Direction) (s t : ℤ) → neg_ℤ (pos (2 ^ 63)) ≤ℤ t → t <ℤ pos (2 ^ 63) → Precedes direction s t
    → unsigned_abs (pos (2 ^ 63) -ℤ along direction t) < unsigned_abs (pos (2 ^ 63) -ℤ along direction s)
falls_by Forward s t low high on = omega (arith, ints, on)
falls_by Backward s t low high on = omega (arith, ints, on)

pub falls : (direction : Direction) (a b s t : ℤ) → s ≡ a → t ≡ b → neg_ℤ (pos (2 ^ 63)) ≤ℤ t → t <ℤ pos (2 ^ 63) → Precedes direction s t
    → unsigned_abs (pos (2 ^ 63) -ℤ along direction b) < unsigned_abs (pos (2 ^ 63) -ℤ along direction a)
falls direction a b s t e f low high on =
    let P : ℤ → Type 0 = λ i. unsigned_abs (pos (2 ^ 63) -ℤ along direction i) < unsigned_abs (pos (2 ^ 63) -ℤ along direction a) in
    let Q : ℤ → Type 0 = λ i. unsigned_abs (pos (2 ^ 63) -ℤ along direction t) < unsigned_abs (pos (2 ^ 63) -ℤ along direction i) in
    subst P f (subst Q e (falls_by direction s t low high on))
