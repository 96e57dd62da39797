-- What is found as a start is found as a run.
use Rattle.std.proofs.Common.{ap, sym, subst, ◌∙◌, ◌<◌, ℤ, ◌<ℤ◌, ◌≤ℤ◌, Bool, false, arith, inl, inr, List, [], ◌∷◌, length, Option, Some, None, MatchOption, Result, Ok, Err, IfOk, IfErr}
use Rattle.std.proofs.lemmas.Bool.{false≢true}
use Rattle.std.proofs.lemmas.Int.{ints}
use Rattle.croner_base.specs.declared.errors.CronError.{CronError}
use Rattle.croner_base.specs.declared.time.Direction.{Direction}
use Rattle.croner_base.specs.declared.time.Direction.TheVariants.{Forward, Backward}
use Rattle.croner_base.specs.declared.time.table.TableTime.{TableTime}
use Rattle.croner_base.specs.Calm.{IsInReach}
use Rattle.croner_base.specs.TableZone.{table_moment}
use Rattle.croner_base.specs.Zone.{Zone, Moment}
use Rattle.croner_pattern.specs.Meaning.{Meaning}
use Rattle.croner_pattern.specs.SearchedYears.{scheduled_searched}
use Rattle.croner.specs.Recurring.{CountsFrom, IsRunFound, IsRunRefused}
use Rattle.croner.specs.search.Runs.{NearestWhere}
use Rattle.crontab_runs.specs.declared.job.Start.{Start}
use Rattle.crontab_runs.specs.Private.Times.{IsTimeOf, HasNoTime}
use Rattle.crontab_runs.specs.Searches.{IsStartFound, NoStartLeft}
use Rattle.crontab_runs.specs.Starts.{cron_job, minute_of, NamesMinute, AreNamed, Starts}
use Rattle.crontab_runs.proofs.DueMinutes.{due_near, minute_bounds}

-- where there are minutes, the first of them is named
first_named : (names : ℤ → Type 0) (after upto : ℤ) (minutes : List ℤ) → 0 < length minutes → AreNamed names after upto minutes
    → (k : ℤ) × (after <ℤ k) × (k ≤ℤ upto) × names k
first_named names after upto [] some are = absurd (omega (arith, some))
first_named names after upto (k ∷ ks) some are = let is = are.named 0 k (omega arith) in (k, is.0, is.1, is.2)

-- what cron starts shows a second of the years that a search needs
start_reached : (m : Meaning) (starred : Bool) (z : Zone) (i : ℤ) → Starts (cron_job m starred) z i → IsInReach (z.reads i)
start_reached m starred z i starts =
    let (n, some, of_times) = starts in
    let (minutes, for, count) = of_times in
    let named = first_named (NamesMinute m) _ _ minutes (omega (arith, some, count)) for.due in
    let (w, at, scheduled) = named.3 in
    let near = due_near starred for.before (minute_of (z.reads i)) in
    let searched = scheduled_searched m w scheduled in
    let shown = minute_bounds (z.reads i) in
    let bounds = minute_bounds w in
    (omega (arith, ints, named.1, named.2, at, near, searched, shown, bounds), omega (arith, ints, named.1, named.2, at, near, searched, shown, bounds))

-- what counts is a start
is_start : (direction : Direction) (runs : ℤ → Type 0) (s i : ℤ) → CountsFrom direction runs s i → runs i
is_start Forward runs s i counted = counted.1
is_start Backward runs s i counted = counted.1

module _ (direction : Direction) (m : Meaning) (starred : Bool) (start : Moment) where
  pub run_found : (found : Option Start) (t : TableTime)
      → MatchOption found (NoStartLeft direction (cron_job m starred) start) (IsStartFound direction (cron_job m starred) start)
      → IsTimeOf start.zone found t → IsRunFound direction (Starts (cron_job m starred)) start (table_moment t)
  run_found None t none is = absurd is
  run_found (Some s) t is_found is = record {
    nearest = λ calm. subst (NearestWhere direction (CountsFrom direction (Starts (cron_job m starred) start.zone) start.instant)) (ap (λ (m : Moment). m.instant) (sym is)) is_found.nearest;
    zone = ap (λ (m : Moment). m.zone) is;
    whole = ap (λ (m : Moment). m.fraction) is;
  }

  pub run_refused : (found : Option Start) (e : CronError)
      → MatchOption found (NoStartLeft direction (cron_job m starred) start) (IsStartFound direction (cron_job m starred) start)
      → HasNoTime start.zone found e → IsRunRefused false direction (Starts (cron_job m starred)) start e
  run_refused None e none is = record {
    limit = λ calm limit. none;
    promised = λ searchable. inl is;
    kind = inl (inl is);
  }
  run_refused (Some s) e is_found is = record {
    limit = λ calm limit. absurd (cc);
    promised = λ searchable.
        let reached = start_reached m starred start.zone s.second (is_start direction _ _ s.second is_found.nearest.counts) in
        absurd (false≢true (sym is.1 ∙ searchable.held.year_instants s.second reached));
    kind = inr (inr is.0);
  }

  -- the same of what a call answers
  pub run_is_found : (found : Option Start) (r : Result TableTime CronError)
      → MatchOption found (NoStartLeft direction (cron_job m starred) start) (IsStartFound direction (cron_job m starred) start)
      → IfOk r (IsTimeOf start.zone found) → IfOk r (λ t. IsRunFound direction (Starts (cron_job m starred)) start (table_moment t))
  run_is_found found (Ok t) is_found is = run_found found t is_found is
  run_is_found found (Err e) is_found is = is

  pub run_is_refused : (found : Option Start) (r : Result TableTime CronError)
      → MatchOption found (NoStartLeft direction (cron_job m starred) start) (IsStartFound direction (cron_job m starred) start)
      → IfErr r (HasNoTime start.zone found) → IfErr r (IsRunRefused false direction (Starts (cron_job m starred)) start)
  run_is_refused found (Ok t) is_found is = is
  run_is_refused found (Err e) is_found is = run_refused found e is_found is
