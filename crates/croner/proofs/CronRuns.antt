-- The runs of a pattern as those of what recurs: what its searches find, and why they are refused.
use Rattle.std.proofs.Common.{refl, ℤ, Bool, true, false, sym, subst, arith, inl, inr, ◌≤ℤ◌, Result, Ok, Err, IfOk, IfErr}
use Rattle.std.proofs.lemmas.Bool.{false≢true}
use Rattle.std.proofs.lemmas.Int.{ints}
use Rattle.croner_base.specs.declared.errors.CronError.{CronError}
use Rattle.croner_base.specs.declared.time.Direction.{Direction}
use Rattle.croner_base.specs.declared.time.Direction.TheVariants.{Forward, Backward}
use Rattle.croner_base.specs.Zone.{Zone, Moment}
use Rattle.croner_pattern.specs.Meaning.{Meaning}
use Rattle.croner.proofs.zone.Ahead.{same_or_ahead}
use Rattle.croner.specs.Recurring.{runs_of, CountsFrom, IsRunFound, IsRunRefused}
use Rattle.croner.specs.search.PatternJob.{timetable_of}
use Rattle.croner.specs.search.Runs.{Job, Run, Counts}
use Rattle.croner.specs.search.Searches.{IsFound, IsRefused}

after_counts : (job : Job) (s i : ℤ) → Counts Forward false job s i → CountsFrom Forward (Run job) s i
after_counts job s i counts = elim counts [ inl there ↦ there | inr there ↦ absurd (false≢true there.0) ]

counts_after : (job : Job) (s i : ℤ) → CountsFrom Forward (Run job) s i → Counts Forward false job s i
counts_after job s i there = inl there

until_counts : (job : Job) (s i : ℤ) → Counts Backward true job s i → CountsFrom Backward (Run job) s i
until_counts job s i counts = elim counts [
  | inl there ↦ (omega (arith, ints, there.0), there.1)
  | inr there ↦ (omega (arith, ints, there.1), subst (Run job) (sym there.1) there.2)
]

counts_until : (job : Job) (s i : ℤ) → CountsFrom Backward (Run job) s i → Counts Backward true job s i
counts_until job s i there =
    let le : i ≤ℤ s = there.0 in
    elim (same_or_ahead Backward s i (omega (arith, ints, le))) [
      | inl same ↦ inr (refl, sym same, subst (Run job) (sym same) there.1)
      | inr ahead ↦ inl (ahead, there.1)
    ]

-- a search whose runs count as those of a direction
module _ (direction : Direction) (inclusive : Bool) (m : Meaning) (start : Moment)
    (to : (z : Zone) (s i : ℤ) → Counts direction inclusive (record { zone = z; timetable = timetable_of m }) s i → CountsFrom direction (runs_of m z) s i)
    (back : (z : Zone) (s i : ℤ) → CountsFrom direction (runs_of m z) s i → Counts direction inclusive (record { zone = z; timetable = timetable_of m }) s i) where
  found_run : (found : Moment) → IsFound direction inclusive (timetable_of m) start found → IsRunFound direction (runs_of m) start found
  found_run found is = record {
    nearest = λ calm. record {
      counts = to start.zone start.instant found.instant (is.nearest calm).counts;
      nearest = λ j counts. (is.nearest calm).nearest j (back start.zone start.instant j counts);
    };
    zone = is.zone;
    whole = is.whole;
  }

  refused_run : (lack : Bool) (e : CronError) → IsRefused lack direction inclusive (timetable_of m) start e → IsRunRefused lack direction (runs_of m) start e
  refused_run lack e is = record {
    limit = λ calm limit i span counts. is.limit calm limit i span (back start.zone start.instant i counts);
    promised = is.promised;
    kind = is.kind;
  }

module _ {T : Type 0} (moment : T → Moment) (lack : Bool) (m : Meaning) (start : Moment) where
  pub next_found : (r : Result T CronError) → IfOk r (λ t. IsFound Forward false (timetable_of m) start (moment t))
      → IfOk r (λ t. IsRunFound Forward (runs_of m) start (moment t))
  next_found (Ok t) is = found_run Forward false m start (λ z. after_counts (record { zone = z; timetable = timetable_of m })) (λ z. counts_after (record { zone = z; timetable = timetable_of m })) (moment t) is
  next_found (Err e) is = tt

  pub next_refused : (r : Result T CronError) → IfErr r (IsRefused lack Forward false (timetable_of m) start)
      → IfErr r (IsRunRefused lack Forward (runs_of m) start)
  next_refused (Ok t) is = tt
  next_refused (Err e) is = refused_run Forward false m start (λ z. after_counts (record { zone = z; timetable = timetable_of m })) (λ z. counts_after (record { zone = z; timetable = timetable_of m })) lack e is

  pub last_found : (r : Result T CronError) → IfOk r (λ t. IsFound Backward true (timetable_of m) start (moment t))
      → IfOk r (λ t. IsRunFound Backward (runs_of m) start (moment t))
  last_found (Ok t) is = found_run Backward true m start (λ z. until_counts (record { zone = z; timetable = timetable_of m })) (λ z. counts_until (record { zone = z; timetable = timetable_of m })) (moment t) is
  last_found (Err e) is = tt

  pub last_refused : (r : Result T CronError) → IfErr r (IsRefused lack Backward true (timetable_of m) start)
      → IfErr r (IsRunRefused lack Backward (runs_of m) start)
  last_refused (Ok t) is = tt
  last_refused (Err e) is = refused_run Backward true m start (λ z. until_counts (record { zone = z; timetable = timetable_of m })) (λ z. counts_until (record { zone = z; timetable = timetable_of m })) lack e is
