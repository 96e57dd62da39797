-- Runs that come later by some seconds.
use Rattle.std.proofs.Common.{◌≡◌, ap, sym, subst, ◌∙◌, ℕ, ◌≤◌, ℤ, pos, ◌+ℤ◌, ◌-ℤ◌, ◌<ℤ◌, ◌≤ℤ◌, arith, Option, Some, None, Result, Ok, Err, IfOk, IfErr, Bool}
use Rattle.std.proofs.lemmas.Int.{ints}
use Rattle.croner.specs.Recurring.{CountsFrom}
use Rattle.croner.specs.Zone.{Zone, Moment}
use Rattle.croner.specs.search.Runs.{Reaches}
use Rattle.croner_base.specs.declared.errors.CronError.{CronError}
use Rattle.croner_base.specs.declared.time.Direction.{Direction}
use Rattle.croner_base.specs.declared.time.Direction.TheVariants.{Forward, Backward}
use Rattle.croner_jobs.specs.Served.{IsIn, IsServed, IsNearUtc, first_served, last_served}
use Rattle.croner_jobs.specs.Private.Later.{later, IsLaterOf, IsUnheldLater}
use Rattle.croner_jobs.specs.Private.Sought.{IsAround, IsSought, IsNearestOf, IsThere, IsUnknown}
use Rattle.croner_jobs.proofs.Around.{unheld_served}

-- a second that is served is around the served ones when it is moved back
pub around_of : (s : ℤ) (d : ℕ) → d ≤ 86_400 → IsIn (first_served -ℤ pos 1) last_served s → IsAround (s -ℤ pos d)
around_of s d day is = (omega (arith, ints, day, is), omega (arith, ints, day, is))

-- what counts of the later runs counts of the runs, from so much earlier
back_from : (direction : Direction) (d : ℕ) (runs : Zone → ℤ → Type 0) (z : Zone) (s i : ℤ) → CountsFrom direction (later d runs z) s i
    → CountsFrom direction (runs z) (s -ℤ pos d) (i -ℤ pos d)
back_from Forward d runs z s i counts = (omega (arith, ints, counts.0), counts.1)
back_from Backward d runs z s i counts = (omega (arith, ints, counts.0), counts.1)

on_from : (direction : Direction) (d : ℕ) (runs : Zone → ℤ → Type 0) (z : Zone) (s f : ℤ) → CountsFrom direction (runs z) (s -ℤ pos d) f
    → CountsFrom direction (later d runs z) s (f +ℤ pos d)
on_from Forward d runs z s f counts =
    let P : ℤ → Type 0 = runs z in
    let same : f ≡ f +ℤ pos d -ℤ pos d = omega (arith, ints) in
    (omega (arith, ints, counts.0), subst P same counts.1)
on_from Backward d runs z s f counts =
    let P : ℤ → Type 0 = runs z in
    let same : f ≡ f +ℤ pos d -ℤ pos d = omega (arith, ints) in
    (omega (arith, ints, counts.0), subst P same counts.1)

reaches_on : (direction : Direction) (d : ℕ) (f i : ℤ) → Reaches direction f (i -ℤ pos d) → Reaches direction (f +ℤ pos d) i
reaches_on Forward d f i on = omega (arith, ints, on)
reaches_on Backward d f i on = omega (arith, ints, on)

out_of_reach : (direction : Direction) (d : ℕ) (runs : Zone → ℤ → Type 0) (z : Zone) (s c i : ℤ) → IsIn (first_served -ℤ pos 1) last_served s
    → CountsFrom direction (later d runs z) s c → (IsServed c → ⊥) → IsServed i → Reaches direction c i → ⊥
out_of_reach Forward d runs z s c i around counts out served on = out (omega (arith, ints, around, counts.0), omega (arith, ints, on, served))
out_of_reach Backward d runs z s c i around counts out served on = out (omega (arith, ints, on, served), omega (arith, ints, around, counts.0))

module _ {T : Type 0} (moment : T → Moment) (direction : Direction) (d : ℕ) (day : d ≤ 86_400) (runs : Zone → ℤ → Type 0) (z : Zone) (s : ℤ)
    (served_start : IsIn (first_served -ℤ pos 1) last_served s) where
  around_run : (i : ℤ) → IsServed i → IsAround (i -ℤ pos d)
  around_run i served = around_of i d day (omega (arith, ints, served), omega (arith, ints, served))

  pub later_there : (run : T) → IsSought moment IsAround direction runs z (s -ℤ pos d) (Some run) → (t : T)
      → IsThere moment z ((moment run).instant +ℤ pos d) (Some t) → IsSought moment IsServed direction (later d runs) z s (Some t)
  later_there run sought t there =
      let f : ℤ = (moment run).instant in
      let P : ℤ → Type 0 = λ c. IsNearestOf IsServed direction (later d runs z) s c in
      let same : (moment t).instant ≡ f +ℤ pos d = ap (λ m. m.instant) there.0 in (
        ap (λ m. m.zone) there.0,
        ap (λ m. m.fraction) there.0,
        λ calm.
            let near = sought.2 calm in
            subst P (sym same) (record {
              counts = on_from direction d runs z s f near.counts;
              nearest = λ i served counts.
                  reaches_on direction d f i (near.nearest (i -ℤ pos d) (around_run i served) (back_from direction d runs z s i counts));
            }),
      )

  pub later_out : (run : T) → IsSought moment IsAround direction runs z (s -ℤ pos d) (Some run)
      → (IsServed ((moment run).instant +ℤ pos d) → ⊥) → IsSought moment IsServed direction (later d runs) z s None
  later_out run sought out =
      λ calm i served counts.
      let f : ℤ = (moment run).instant in
      let near = sought.2 calm in
      out_of_reach direction d runs z s (f +ℤ pos d) i served_start (on_from direction d runs z s f near.counts) out served
      (reaches_on direction d f i (near.nearest (i -ℤ pos d) (around_run i served) (back_from direction d runs z s i counts)))

  pub later_none : IsSought moment IsAround direction runs z (s -ℤ pos d) None → IsSought moment IsServed direction (later d runs) z s None
  later_none none =
      λ calm i served counts. none calm (i -ℤ pos d) (around_run i served) (back_from direction d runs z s i counts)

  later_sought : (sought : Option T) → IsSought moment IsAround direction runs z (s -ℤ pos d) sought → (o : Option T) → IsLaterOf moment z d sought o
      → IsSought moment IsServed direction (later d runs) z s o
  later_sought (Some run) sought (Some t) there = later_there run sought t there
  later_sought (Some run) sought None out = later_out run sought out
  later_sought None none o same =
      let P : Option T → Type 0 = λ x. IsSought moment IsServed direction (later d runs) z s x in
      subst P (sym same) (later_none none)

  -- the same of what a call answers, from the second before
  pub ok_later : (b : ℤ) → b ≡ s -ℤ pos d → (sought : Option T) → IsSought moment IsAround direction runs z b sought → (r : Result (Option T) CronError)
      → IfOk r (IsLaterOf moment z d sought) → IfOk r (IsSought moment IsServed direction (later d runs) z s)
  ok_later b before sought is (Err e) there = tt
  ok_later b before sought is (Ok o) there =
      let P : ℤ → Type 0 = λ x. IsSought moment IsAround direction runs z x sought in
      later_sought sought (subst P before is) o there

-- a later second that isn't held
pub err_later : {T : Type 0} (moment : T → Moment) (start : Moment) → IsNearUtc start.zone → (d : ℕ) (lack : Bool) (sought : Option T)
    (r : Result (Option T) CronError) → IfErr r (IsUnheldLater moment start.zone d sought) → IfErr r (IsUnknown lack start)
err_later moment start utc d lack sought (Ok o) is = tt
err_later moment start utc d lack (Some run) (Err e) is = unheld_served start utc ((moment run).instant +ℤ pos d) lack e is
err_later moment start utc d lack None (Err e) is = absurd is
