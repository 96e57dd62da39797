-- Listings of the runs of a pattern, or of cron's starts of a crontab's job, after a start. Source: this crate's documentation of `Runs`,
-- `Listing` and `End`.
use Rattle.std.specs.Prelude.{Bool, true, false, ◌≡◌, ◌⊎◌, ⊤, ◌≤◌, ℕ, ℤ, ◌<ℤ◌, ◌≤ℤ◌, List, length, Option, Some, None}
use Rattle.std.specs.List.{All, Contains}
use Rattle.croner_base.specs.declared.time.Direction.TheVariants.{Forward}
use Rattle.croner_base.specs.declared.time.table.TableTime.{TableTime}
use Rattle.croner_base.specs.Calm.{IsStart}
use Rattle.croner_base.specs.TableZone.{table_moment}
use Rattle.croner_base.specs.Zone.{Zone, Moment, reading}
use Rattle.croner_pattern.specs.Meaning.{Meaning}
use Rattle.croner.specs.Recurring.{CountsFrom}
use Rattle.croner.specs.iterator.Listing.{Standing, new_standing, instants, IsLeft, BeginsWhere}
use Rattle.croner.specs.laws.Neighbours.{IsWholeIn}
use Rattle.croner.specs.search.Limit.{InSpan}
use Rattle.croncheck_runs.specs.declared.runs.End.{End}
use Rattle.croncheck_runs.specs.declared.runs.End.TheVariants as ends
use Rattle.croncheck_runs.specs.declared.runs.Listing.{Listing}
use Rattle.croncheck_runs.specs.declared.runs.Listing.TheVariants as listings
use Rattle.croncheck_runs.specs.declared.runs.Run.{Run}
use Rattle.croncheck_runs.specs.declared.runs.Runner.{Runner}
use Rattle.croncheck_runs.specs.declared.runs.Runner.TheVariants as runners
use Rattle.croncheck_runs.specs.declared.runs.Runs.{Runs}
use Rattle.crontab_runs.specs.MadeUp.{MakesUpForNone, MakesUpFrom}
use Rattle.crontab_runs.specs.Searches.{IsStartOf}
use Rattle.crontab_runs.specs.Starts.{CronJob, cron_job, Starts}

-- where a listing begins: after the start
abbrev pub starts : Meaning → TableTime → Standing
starts m start = new_standing m (table_moment start) false Forward

-- the instants of runs
abbrev pub seconds_of : List Run → List ℤ
seconds_of items = instants (λ (run : Run). table_moment run.time) items

-- the most runs that are listed up to a second
abbrev pub most_runs : ℕ
most_runs = 100_000

-- ---- what is listed

-- the instants that are left after a start
pub record Rest : Type 1 where
  pub start : Moment
  pub left : ℤ → Type 0

-- the runs of a pattern
abbrev pub runs_after : Meaning → TableTime → Rest
runs_after m start = record { start = table_moment start; left = IsLeft (starts m start) }

-- the instants at which cron starts a job
abbrev pub starts_after : CronJob → TableTime → Rest
starts_after job start = record { start = table_moment start; left = CountsFrom Forward (Starts job (table_moment start).zone) start.second }

-- for which minute cron starts a job at an instant first, where the clock shows a later one
abbrev pub MakesUp : CronJob → Zone → ℤ → Option ℤ → Type 0
MakesUp job z i None = MakesUpForNone job z i
MakesUp job z i (Some w) = MakesUpFrom job z i w

-- what is listed: the instants that are left, how many times the job is started at each, and what is made up for there
pub record Listed : Type 1 where
  pub rest : Rest
  pub times : ℤ → ℕ → Type 0
  pub makes_up : ℤ → Option ℤ → Type 0

-- of a pattern its runs, each once
abbrev pub runs_listed : Meaning → TableTime → Listed
runs_listed m start = record { rest = runs_after m start; times = λ i n. n ≡ 1; makes_up = λ i made_up. made_up ≡ None }

-- of a crontab's job what cron starts, each once or more
abbrev pub starts_listed : CronJob → TableTime → Listed
starts_listed job start = record {
  rest = starts_after job start;
  times = λ i n. IsStartOf job (table_moment start).zone (record { second = i; count = n });
  makes_up = MakesUp job (table_moment start).zone;
}

-- by what runs the line, whose times have this meaning
abbrev pub listed_by : Runner → Meaning → TableTime → Listed
listed_by runners.Croner m start = runs_listed m start
listed_by (runners.Cron is_starred) m start = starts_listed (cron_job m is_starred) start

-- each that is left and comes no later than a second is among the items
abbrev pub GaveUntil : (ℤ → Type 0) → ℤ → List ℤ → Type 0
GaveUntil left until items = (i : ℤ) → left i → i ≤ℤ until → Contains items i

-- each that is left in the years that are searched is among the items
abbrev pub GaveYears : Rest → List ℤ → Type 0
GaveYears rest items = (i : ℤ) → rest.left i → InSpan Forward rest.start.zone.reads i → Contains items i

-- a second comes no later than the last of the clock's window, where that ends before the years that are searched do
abbrev pub IsInWindow : Option ℤ → ℤ → Type 0
IsInWindow None i = ⊤
IsInWindow (Some last) i = i ≤ℤ last

-- one is left in the window
abbrev pub LeavesOne : (ℤ → Type 0) → Option ℤ → Type 0
LeavesOne left last = (i : ℤ) × left i × IsInWindow last i

-- one is left in the window after a second
abbrev pub LeavesAfter : (ℤ → Type 0) → Option ℤ → ℤ → Type 0
LeavesAfter left last until = (i : ℤ) × left i × IsInWindow last i × (until <ℤ i)

-- the start's clock shows a year from -9997 to 9997, so that no search from it fails
abbrev pub StartsWell : Rest → Type 0
StartsWell rest = IsStart (reading rest.start)

-- ---- how a listing ends

-- more may come: there are as many items as were asked, and of none one is left; or one is left after the second, and none is left out up
-- to it
abbrev pub IsMore : (ℤ → Type 0) → Option ℤ → Listing → List ℤ → Type 0
IsMore left last (listings.Count count) items = (length items ≡ count) × (count ≡ 0 → LeavesOne left last)
IsMore left last (listings.Until until) items = GaveUntil left until items × LeavesAfter left last until

-- none is left in the years that are searched, of a clock whose window doesn't end before they do
abbrev pub IsOver : Rest → Option ℤ → List ℤ → Type 0
IsOver rest None items = GaveYears rest items
IsOver rest (Some last) items = ⊥

-- the window ends: none is left out up to its last second, or none on this clock in the years that are searched
abbrev pub IsAtWindowEnd : Rest → Option ℤ → List ℤ → Type 0
IsAtWindowEnd rest None items = ⊥
IsAtWindowEnd rest (Some last) items = GaveUntil rest.left last items ⊎ GaveYears rest items

-- the most were listed
abbrev pub IsCut : Listing → List ℤ → Type 0
IsCut (listings.Count count) items = ⊥
IsCut (listings.Until until) items = length items ≡ most_runs

-- what the end of a listing says
abbrev pub IsEnd : Rest → Option ℤ → Listing → List ℤ → End → Type 0
IsEnd rest last listing items ends.More = IsMore rest.left last listing items
IsEnd rest last listing items ends.Over = IsOver rest last items
IsEnd rest last listing items ends.Cut = IsCut listing items
IsEnd rest last listing items ends.Window = IsAtWindowEnd rest last items
IsEnd rest last listing items (ends.Failed e) = ¬ (StartsWell rest)

-- no run is left after the listing
abbrev pub is_over : End → Bool
is_over ends.More = false
is_over ends.Over = true
is_over ends.Cut = false
is_over ends.Window = false
is_over (ends.Failed e) = false

-- it ends where the clock's window does
abbrev pub is_at_end_of_window : End → Bool
is_at_end_of_window ends.More = false
is_at_end_of_window ends.Over = false
is_at_end_of_window ends.Cut = false
is_at_end_of_window ends.Window = true
is_at_end_of_window (ends.Failed e) = false

-- there are no more items than were asked, or, up to a second, than are listed at most, and none after that
abbrev pub IsAsked : Listing → List ℤ → Type 0
IsAsked (listings.Count count) items = length items ≤ count
IsAsked (listings.Until until) items = All (λ i. i ≤ℤ until) items × (length items ≤ most_runs)

-- the listing after a start, on a clock whose window ends there or not before the years that are searched: the items are the first that are
-- left, in order, none left out, each so many times, with what is made up for; they lie on the start's clock and in its window; and the end
-- is so
pub record IsListed (what : Listed) (last : Option ℤ) (listing : Listing) (r : Runs) : Type 0 where
  pub begins : BeginsWhere Forward what.rest.left (seconds_of r.items.items)
  pub times : All (λ run. what.times run.time.second run.count) r.items.items
  pub made_up : All (λ run. what.makes_up run.time.second run.made_up) r.items.items
  pub asked : IsAsked listing (seconds_of r.items.items)
  pub on_clock : All (λ run. IsWholeIn what.rest.start.zone (table_moment run.time)) r.items.items
  pub in_window : All (IsInWindow last) (seconds_of r.items.items)
  pub end : IsEnd what.rest last listing (seconds_of r.items.items) r.end
