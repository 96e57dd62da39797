-- The last run of a job that is due is what its search backward answers.
use Rattle.std.proofs.Common.{rules, ◌≡◌, refl, sym, ap, subst, arith, ℕ, ℤ, ◌<ℤ◌, ◌≤ℤ◌, int_lt, int_le, Bool, true, false, cond, None, Some, IfOk, IfSome, OnErr, IsTrue}
use Rattle.std.proofs.Math.Logic.{∥∥₁_elim, ∥∥₁_map}
use Rattle.std.proofs.Props.{props}
use Rattle.std.proofs.lemmas.Bool.{false≢true}
use Rattle.std.proofs.lemmas.Grind.{merely}
use Rattle.std.proofs.lemmas.Int.{ints}
use Rattle.std.specs.Option.{IsSomeAnd}
use Rattle.croner_base.specs.Calm.{IsCalm}
use Rattle.croner_base.specs.Zone.{Zone, Moment, at_instant}
use Rattle.croner_base.specs.declared.errors.CronError.{CronError}
use Rattle.croner_base.specs.declared.errors.CronError.TheVariants.{EmptyPattern, InvalidDate, InvalidTime, TimeSearchLimitExceeded, InvalidPattern, IllegalCharacters, ComponentError, OutOfMemory}
use Rattle.croner_base.specs.declared.time.Direction.TheVariants.{Backward}
use Rattle.croner.specs.Recurring.{IsRunFound, IsRunRefused}
use Rattle.croner.specs.search.Premises.{StartsCalm}
use Rattle.croner_scheduler.specs.declared.latest.Last.{Last}
use Rattle.croner_scheduler.specs.declared.latest.Last.TheVariants as lasts
use Rattle.croner_scheduler.specs.declared.latest.Latest.{Latest}
use Rattle.croner_scheduler.specs.declared.latest.Latest.TheVariants as answers
use Rattle.croner_scheduler.specs.declared.waiting.Stop.TheVariants as stops
use Rattle.croner_scheduler.specs.declared.waiting.Next.{Next}
use Rattle.croner_scheduler.specs.declared.waiting.Next.TheVariants.{Run, Over, Stopped}
use Rattle.croner_scheduler.specs.declared.waiting.Waiting.{Waiting}
use Rattle.croner_scheduler.specs.Calls.{IsNotDue, IsLastDue, TakesLatest}
use Rattle.croner_scheduler.specs.Kept.{StopsAt, FitsNext, FitsOrPaused, Fits, standing_of, stop_of, second_of}
use Rattle.croner_scheduler.specs.Private.Latest.{due_second, last_of_run, last_of_refusal, FitsLast, IsLastGiven}
use Rattle.croner_scheduler.specs.Private.Steps.{is_next_at}
use Rattle.croner_scheduler.specs.Standing.{Standing, Held}
use Rattle.croner_scheduler.proofs.Nearest.{seen_before, same_second, is_itself}
use Rattle.croner_scheduler.proofs.NextRuns.{not_promised, lacks_memory}

module _ {T : Type 0} (runs : Zone → ℤ → Type 0) (moment : T → Moment) (next : ℤ) (until : T) where
  found_by : (found : T) (b d : Bool) → int_lt next (moment found).instant ≡ b → int_le (moment found).instant (moment until).instant ≡ d
      → IsRunFound Backward runs (moment until) (moment found)
      → FitsLast runs moment next (moment until) (last_of_run moment next until found)
  found_by found true true e f is = rw e (rw f (is, search (rules, e), search (rules, f)))
  found_by found true false e f is = rw e (rw f (λ calm j counted span. absurd (apart f (is.nearest calm).counts.0)))
    where
      apart : int_le (moment found).instant (moment until).instant ≡ false → (moment found).instant ≤ℤ (moment until).instant → ⊥
      apart e le = search (rules, e, le)
  found_by found false d e f is = rw e (λ calm j counted span. near e (omega (arith, ints, (is.nearest calm).nearest j counted)))
    where
      near : {j : ℤ} → int_lt next (moment found).instant ≡ false → j ≤ℤ (moment found).instant → j ≤ℤ next
      near e le = search (rules, e, le)

  pub last_found : (found : T) → IsRunFound Backward runs (moment until) (moment found)
      → FitsLast runs moment next (moment until) (last_of_run moment next until found)
  last_found found = found_by found (int_lt next (moment found).instant) (int_le (moment found).instant (moment until).instant) refl refl

  pub last_refused : (lack : Bool) (e : CronError) → IsRunRefused lack Backward runs (moment until) e
      → IfOk (last_of_refusal {T = T} e) (FitsLast runs moment next (moment until))
  last_refused lack EmptyPattern is = not_promised Backward runs (moment until) lack _ is (λ e. cc) (λ e. cc)
  last_refused lack InvalidDate is = not_promised Backward runs (moment until) lack _ is (λ e. cc) (λ e. cc)
  last_refused lack InvalidTime is = not_promised Backward runs (moment until) lack _ is (λ e. cc) (λ e. cc)
  last_refused lack TimeSearchLimitExceeded is = λ calm j counted span. absurd (is.limit calm refl j span counted)
  last_refused lack (InvalidPattern m) is = not_promised Backward runs (moment until) lack _ is (λ e. cc) (λ e. cc)
  last_refused lack (IllegalCharacters m) is = not_promised Backward runs (moment until) lack _ is (λ e. cc) (λ e. cc)
  last_refused lack (ComponentError m) is = not_promised Backward runs (moment until) lack _ is (λ e. cc) (λ e. cc)
  last_refused lack OutOfMemory is = tt

  -- memory lacks only where the backend can lack it
  pub lacks_refused : (lack : Bool) (e : CronError) → IsRunRefused lack Backward runs (moment until) e → OnErr (last_of_refusal {T = T} e) (IsTrue lack)
  lacks_refused lack EmptyPattern is = tt
  lacks_refused lack InvalidDate is = tt
  lacks_refused lack InvalidTime is = tt
  lacks_refused lack TimeSearchLimitExceeded is = tt
  lacks_refused lack (InvalidPattern m) is = tt
  lacks_refused lack (IllegalCharacters m) is = tt
  lacks_refused lack (ComponentError m) is = tt
  lacks_refused lack OutOfMemory is = lacks_memory lack is.kind

-- ---- what is given

-- the next run that is due
pub due_by : (now : ℤ) (n : Next) (i : ℤ) → due_second now n ≡ Some i → (n ≡ Run i) × (i ≤ℤ now)
due_by now (Run j) i e = by (int_le j now) refl e
  where
    by : (b : Bool) → int_le j now ≡ b → (cond b (Some j) None) ≡ Some i → (Run j ≡ Run i) × (i ≤ℤ now)
    by true le e = (cc, search (rules, le, e))
    by false le e = absurd (cc)
due_by now Over i e = absurd (cc)
due_by now (Stopped stop) i e = absurd (cc)

module _ {J T : Type 0} (runs : J → Zone → ℤ → Type 0) (moment : T → Moment) (now : ℤ) where
  -- a job whose next run isn't due has none that is
  module _ (w : Waiting J T) (fits : ∥ Fits runs moment w ∥₁) (none : due_second now w.next ≡ None) where
    later_next : (n : Next) → due_second now n ≡ None → (i : ℤ) → is_next_at i n ≡ true → now <ℤ i
    later_next (Run j) e i at = subst (λ z. now <ℤ z) (same_second j i at) (by (int_le j now) refl e)
      where
        by : (b : Bool) → int_le j now ≡ b → cond b (Some j) None ≡ None → now <ℤ j
        by true le e = absurd (cc)
        by false le e = search (rules, le)
    later_next Over e i at = absurd (false≢true at)
    later_next (Stopped stop) e i at = absurd (false≢true at)

    later_shown : (n : Next) → ((i : ℤ) → is_next_at i n ≡ true → now <ℤ i) → IfSome (second_of n) (λ n. now <ℤ n)
    later_shown (Run j) later = later j (is_itself j)
    later_shown Over later = tt
    later_shown (Stopped stop) later = tt

    pub not_due : IsNotDue runs now (standing_of moment w) × IfSome (standing_of moment w).next (λ n. now <ℤ n)
    not_due = (
      λ goes calm j seen. ∥∥₁_elim fits (hlevel props) (λ f.
          let h = seen_before runs moment w f goes calm j seen in
          omega (arith, ints, h.2, later_next w.next none h.0 h.1)),
      later_shown w.next (later_next w.next none),
    )

  -- a job whose next run is due
  module _ (w : Waiting J T) (fits : ∥ Fits runs moment w ∥₁) (known : ℤ) (next : w.next ≡ Run known) (due : known ≤ℤ now) where
    next_fits : Fits runs moment w → FitsNext (runs w.job) (moment w.position) (Run known)
    next_fits f = subst (λ n. FitsOrPaused (runs w.job) (moment w.position) n) next f.next

    after_position : (moment w.position).instant <ℤ known
    after_position = ∥∥₁_elim fits (hlevel props) (λ f. (next_fits f).1)

    from_next : (i : ℤ) → known ≤ℤ i → IsSomeAnd (standing_of moment w).next (λ n. n ≤ℤ i)
    from_next i le = subst (λ n. IsSomeAnd (second_of n) (λ n. n ≤ℤ i)) (sym next) le

    starts : IsCalm (moment w.position).zone → StartsCalm (at_instant (moment w.position).zone now)
    starts calm = record { calm = calm; whole = refl }

    later_last : (u : T) → FitsLast (runs w.job) moment known (at_instant (moment w.position).zone now) (lasts.Later u) → IsLastDue runs now (moment u).instant (standing_of moment w)
    later_last u is = record {
      goes = ap stop_of next;
      after = omega (arith, ints, after_position, is.1);
      due = is.2;
      from = from_next (moment u).instant (omega (arith, ints, is.1));
      run = λ calm. merely (is.0.nearest (starts calm)).counts.1;
      last = λ calm j left le span. omega (arith, ints, (is.0.nearest (starts calm)).nearest j (le, left.1));
    }

    known_last : FitsLast (runs w.job) moment known (at_instant (moment w.position).zone now) lasts.Known → IsLastDue runs now known (standing_of moment w)
    known_last is = record {
      goes = ap stop_of next;
      after = after_position;
      due = due;
      from = from_next known (omega (arith, ints));
      run = λ calm. ∥∥₁_map fits (λ f. ((next_fits f).0.nearest (record { calm = calm; whole = f.whole })).counts.1);
      last = λ calm j left le span. is (starts calm) j (le, left.1) span;
    }

    module _ (h h' : Held J) (id : ℕ) (there : h.jobs id ≡ Some (standing_of moment w)) (held : (moment w.position).zone.holds now ≡ true) where
      own : (P : Standing J → Type 0) → P (standing_of moment w) → IsSomeAnd (h.jobs id) P
      own P holds = subst (λ o. IsSomeAnd o P) (sym there) holds

      pub takes : (last : Last T) → FitsLast (runs w.job) moment known (at_instant (moment w.position).zone now) last
          → (answer : Latest) → IsLastGiven moment h id known last h' answer → TakesLatest runs id now h h' answer
      takes (lasts.Later u) is (answers.Given i b) given = (own _ (subst (λ i. IsLastDue runs now i (standing_of moment w)) (sym given.0) (later_last u is), held), given.1)
      takes (lasts.Later u) is answers.NothingDue given = absurd given
      takes (lasts.Later u) is answers.NoJob given = absurd given
      takes (lasts.Later u) is answers.NotHeld given = absurd given
      takes (lasts.Later u) is (answers.Refused e) given = absurd given
      takes lasts.Known is (answers.Given i b) given = (own _ (subst (λ i. IsLastDue runs now i (standing_of moment w)) (sym given.0) (known_last is), held), given.1)
      takes lasts.Known is answers.NothingDue given = absurd given
      takes lasts.Known is answers.NoJob given = absurd given
      takes lasts.Known is answers.NotHeld given = absurd given
      takes lasts.Known is (answers.Refused e) given = absurd given
      takes (lasts.Refused e) is (answers.Given i b) given = absurd given
      takes (lasts.Refused e) is answers.NothingDue given = absurd given
      takes (lasts.Refused e) is answers.NoJob given = absurd given
      takes (lasts.Refused e) is answers.NotHeld given = absurd given
      takes (lasts.Refused e) is (answers.Refused f) given =
          (own _ ((from_next now due, held), subst (λ e. StopsAt (at_instant (moment w.position).zone now) (stops.Refused e)) (sym given.0) is), given.1)
