-- How often a job starts in a span after a start. Source: this crate's documentation of `Often` and `Reach`.
use Rattle.std.specs.Prelude.{◌≡◌, ⊤, ◌≤◌, ℕ, ℤ, pos, ◌-◌, ◌+ℤ◌, ◌-ℤ◌, nat_lt, int_lt, unsigned_abs, Bool, false, List, [], ◌∷◌, ◌++◌, length, sum_by, slice_get, unwrap_or, Option, Some, None, option_map, if◌then◌else◌}
use Rattle.std.specs.List.{All, Contains}
use Rattle.std.specs.Ordering.{int_eq}
use Rattle.croner_base.specs.TableZone.{table_moment}
use Rattle.croner_base.specs.Zone.{reading}
use Rattle.cronplan.specs.Counts.{date_of}
use Rattle.croncheck_often.specs.declared.often.Often.{Often}
use Rattle.croncheck_often.specs.declared.often.Reach.{Reach}
use Rattle.croncheck_often.specs.declared.often.Reach.TheVariants as reaches
use Rattle.croncheck_runs.specs.declared.runs.End.{End}
use Rattle.croncheck_runs.specs.declared.runs.End.TheVariants as ends
use Rattle.croncheck_runs.specs.declared.runs.Listing.{Listing}
use Rattle.croncheck_runs.specs.declared.runs.Listing.TheVariants as listings
use Rattle.croncheck_runs.specs.declared.runs.Run.{Run}
use Rattle.croncheck_runs.specs.declared.runs.Runs.{Runs}
use Rattle.croncheck_runs.specs.Runs.{Listed, IsListed}

-- the end of the span after a start: the second up to which runs are listed, or that with which seven days end
abbrev pub span_end : ℤ → Listing → ℤ
span_end start (listings.Count count) = start +ℤ pos 604_800
span_end start (listings.Until until) = until

-- ---- counts

-- how many starts these runs are
abbrev pub starts_in : List Run → ℕ
starts_in runs = sum_by (λ run. run.count) runs

-- the date that the clock shows at a run, in days from 1970-01-01
abbrev pub date_of_run : Run → ℤ
date_of_run run = date_of (reading (table_moment run.time))

-- how many starts a run adds to those on a date
abbrev pub added_on : ℤ → Run → ℕ
added_on date run = if int_eq (date_of_run run) date then run.count else 0

-- how many starts there are on a date
abbrev pub starts_on : ℤ → List Run → ℕ
starts_on date runs = sum_by (added_on date) runs

-- on some date there are so many starts, and on none more
pub record IsMostADay (runs : List Run) (most : ℕ) : Type 0 where
  pub date : ℤ
  pub reached : starts_on date runs ≡ most
  pub none_more : (other : ℤ) → starts_on other runs ≤ most

-- ---- distances

-- how far the first start of a run is from the start before it, if there is one
abbrev pub from_before : Option ℤ → Run → List ℕ
from_before None run = []
from_before (Some before) run = unsigned_abs (run.time.second -ℤ before) ∷ []

-- how far the other starts of a run are from its first, if there are others: not at all
abbrev pub from_first : Run → List ℕ
from_first run = if nat_lt 1 run.count then 0 ∷ [] else []

-- how far each start of these runs is from the one before it, which is at this second for the first of them
abbrev pub distances : Option ℤ → List Run → List ℕ
distances before [] = []
distances before (run ∷ runs) = (from_before before run ++ from_first run) ++ distances (Some run.time.second) runs

-- the shortest of some distances, if there are any
abbrev pub IsShortest : List ℕ → Option ℕ → Type 0
IsShortest found None = found ≡ []
IsShortest found (Some shortest) = Contains found shortest × All (λ other. shortest ≤ other) found

-- ---- how far is counted

-- the clock's window ends before a second
abbrev pub ends_before : Option ℤ → ℤ → Bool
ends_before None until = false
ends_before (Some last) until = int_lt last until

-- how far the starts up to a second are counted, by how their listing ended on a clock with this window
abbrev pub reach_of : Option ℤ → ℤ → End → Reach
reach_of last until ends.More = reaches.Whole
reach_of last until ends.Over = reaches.Whole
reach_of last until ends.Cut = reaches.Cut
reach_of last until ends.Window = if ends_before last until then reaches.Window else reaches.Whole
reach_of last until (ends.Failed e) = reaches.Failed

-- the second of the last of these runs, and that of the start where there are none
abbrev pub last_of : ℤ → List Run → ℤ
last_of from runs = unwrap_or (option_map (λ run. run.time.second) (slice_get runs (length runs - 1))) from

-- the last second whose starts are counted
abbrev pub last_counted : Option ℤ → ℤ → ℤ → List Run → Reach → ℤ
last_counted last from until runs reaches.Whole = until
last_counted last from until runs reaches.Cut = last_of from runs
last_counted last from until runs reaches.Window = unwrap_or last until
last_counted last from until runs reaches.Failed = last_of from runs

-- what is counted of a listing of the starts after one second, up to another
pub record Counts (last : Option ℤ) (from until : ℤ) (r : Runs) (o : Often) : Type 0 where
  pub from_is : o.from ≡ from
  pub reach_is : o.reach ≡ reach_of last until r.end
  pub until_is : o.until ≡ last_counted last from until r.items.items o.reach
  pub starts_are : o.starts ≡ starts_in r.items.items
  pub most_is : IsMostADay r.items.items o.most_a_day
  pub shortest_is : IsShortest (distances None r.items.items) o.shortest

-- how often a job starts up to a second: what is counted of the listing up to there
pub record IsOften (what : Listed) (last : Option ℤ) (until : ℤ) (o : Often) : Type 0 where
  pub runs : Runs
  pub listed : IsListed what last (listings.Until until) runs
  pub counts : Counts last what.rest.start.instant until runs o

-- the same, where it is asked for
abbrev pub AreOften : Listed → Option ℤ → Option ℤ → Option Often → Type 0
AreOften what last None None = ⊤
AreOften what last None (Some o) = ⊥
AreOften what last (Some until) None = ⊥
AreOften what last (Some until) (Some o) = IsOften what last until o
