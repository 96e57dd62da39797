-- Listings of the runs up to a start, the latest first: of a pattern, or of what cron starts of a crontab's job. Source: this crate's
-- documentation of `Previous`.
use Rattle.std.specs.Prelude.{◌≡◌, ◌⊎◌, ⊤, ◌≤◌, ℕ, ℤ, true, ◌≤ℤ◌, List, length, Option, Some, None}
use Rattle.std.specs.List.{All, Contains}
use Rattle.croner_base.specs.declared.time.Direction.TheVariants.{Backward}
use Rattle.croner_base.specs.declared.time.table.TableTime.{TableTime}
use Rattle.croner_base.specs.TableZone.{table_moment}
use Rattle.croner_pattern.specs.Meaning.{Meaning}
use Rattle.croner.specs.Recurring.{CountsFrom}
use Rattle.croner.specs.iterator.Listing.{Standing, new_standing, IsLeft, BeginsWhere}
use Rattle.croner.specs.laws.Neighbours.{IsWholeIn}
use Rattle.croner.specs.search.Limit.{InSpan}
use Rattle.croncheck_runs.specs.declared.past.PastClock.{PastClock}
use Rattle.croncheck_runs.specs.declared.previous.Previous.{Previous}
use Rattle.croncheck_runs.specs.declared.runs.End.{End}
use Rattle.croncheck_runs.specs.declared.runs.End.TheVariants as ends
use Rattle.croncheck_runs.specs.declared.runs.Runner.{Runner}
use Rattle.croncheck_runs.specs.declared.runs.Runner.TheVariants as runners
use Rattle.croncheck_runs.specs.declared.runs.Runs.{Runs}
use Rattle.croncheck_runs.specs.Runs.{Rest, Listed, MakesUp, seconds_of, StartsWell}
use Rattle.crontab_runs.specs.Searches.{IsStartOf}
use Rattle.crontab_runs.specs.Starts.{CronJob, cron_job, Starts}

-- so many runs are asked for up to the last second of a clock, on that clock
pub record IsAskedOf (c : PastClock) (count : ℕ) (asked : Previous) : Type 0 where
  pub table_is : asked.start.table.now ≡ c.table
  pub start_is : asked.start.second ≡ c.last
  pub from_is : asked.from ≡ c.from
  pub whole_is : asked.is_whole ≡ c.is_whole
  pub count_is : asked.count ≡ count

-- ---- what is listed

-- where such a listing begins: at the start, which counts itself
abbrev pub ends_at : Meaning → TableTime → Standing
ends_at m start = new_standing m (table_moment start) true Backward

-- the runs of a pattern up to a start
abbrev pub runs_up_to : Meaning → TableTime → Listed
runs_up_to m start = record {
  rest = record { start = table_moment start; left = IsLeft (ends_at m start) };
  times = λ i n. n ≡ 1;
  makes_up = λ i made_up. made_up ≡ None;
}

-- what cron starts of a job up to a start
abbrev pub starts_up_to : CronJob → TableTime → Listed
starts_up_to job start = record {
  rest = record { start = table_moment start; left = CountsFrom Backward (Starts job (table_moment start).zone) start.second };
  times = λ i n. IsStartOf job (table_moment start).zone (record { second = i; count = n });
  makes_up = MakesUp job (table_moment start).zone;
}

-- by what runs the line, whose times have this meaning
abbrev pub listed_up_to : Runner → Meaning → TableTime → Listed
listed_up_to runners.Croner m start = runs_up_to m start
listed_up_to (runners.Cron is_starred) m start = starts_up_to (cron_job m is_starred) start

-- each that is left and comes no earlier than a second is among the items
abbrev pub GaveFrom : (ℤ → Type 0) → ℤ → List ℤ → Type 0
GaveFrom left from items = (i : ℤ) → left i → from ≤ℤ i → Contains items i

-- each that is left in the years that are searched is among the items
abbrev pub GaveYearsBefore : Rest → List ℤ → Type 0
GaveYearsBefore rest items = (i : ℤ) → rest.left i → InSpan Backward rest.start.zone.reads i → Contains items i

-- what the end says: there are as many items as were asked; or each is among them of the years that are searched, on a clock that is followed
-- back so far; or each from which on the clock is followed, or on this clock each of those years; or the start's clock shows a year outside of
-- -9997 to 9997
abbrev pub IsEndBefore : Rest → Previous → List ℤ → End → Type 0
IsEndBefore rest asked items ends.More = length items ≡ asked.count
IsEndBefore rest asked items ends.Over = (asked.is_whole ≡ true) × GaveYearsBefore rest items
IsEndBefore rest asked items ends.Window = GaveFrom rest.left asked.from items ⊎ GaveYearsBefore rest items
IsEndBefore rest asked items ends.Cut = ⊥
IsEndBefore rest asked items (ends.Failed e) = ¬ (StartsWell rest)

-- the listing up to the start: the items are the last that are left, the latest first, none left out, each so many times, no more than are
-- asked; they lie on the start's clock, and where it is followed; and the end is so
pub record IsListedBefore (what : Listed) (asked : Previous) (r : Runs) : Type 0 where
  pub begins : BeginsWhere Backward what.rest.left (seconds_of r.items.items)
  pub times : All (λ run. what.times run.time.second run.count) r.items.items
  pub made_up : All (λ run. what.makes_up run.time.second run.made_up) r.items.items
  pub most : length r.items.items ≤ asked.count
  pub on_clock : All (λ run. IsWholeIn what.rest.start.zone (table_moment run.time)) r.items.items
  pub followed : All (λ i. asked.from ≤ℤ i) (seconds_of r.items.items)
  pub end : IsEndBefore what.rest asked (seconds_of r.items.items) r.end

-- the runs of a job before the start, where they are asked for
abbrev pub AreBefore : Option Previous → Runner → Meaning → Option Runs → Type 0
AreBefore None runner m None = ⊤
AreBefore None runner m (Some r) = ⊥
AreBefore (Some asked) runner m None = ⊥
AreBefore (Some asked) runner m (Some r) = IsListedBefore (listed_up_to runner m asked.start) asked r
