-- When the jobs of this crate run, each by the runs of the jobs that it is made of. Source: this crate's documentation.
use Rattle.std.specs.Prelude.{◌≡◌, ◌⊎◌, ℕ, ◌*◌, ℤ, pos, ◌+ℤ◌, ◌-ℤ◌}
use Rattle.croner.specs.Zone.{Zone}
use Rattle.croner_jobs.specs.Dates.{IsKept}
use Rattle.croner_jobs.specs.declared.dates.Dates.{Dates}
use Rattle.croner_jobs.specs.Served.{IsIn, IsServed}

-- i lies a whole number of intervals after the first second
abbrev pub IsNth : ℤ → ℕ → ℤ → Type 0
IsNth first seconds i = (n : ℕ) × (i ≡ first +ℤ pos (n * seconds))

-- a first second, and from then on one every so many seconds
abbrev pub interval_runs : ℤ → ℕ → Zone → ℤ → Type 0
interval_runs first seconds z i = IsNth first seconds i × IsServed i

-- the runs from a second to another, both included
abbrev pub window_runs : ℤ → ℤ → (Zone → ℤ → Type 0) → Zone → ℤ → Type 0
window_runs from until runs z i = (runs z i × IsIn from until i) × IsServed i

-- each run so many seconds later
abbrev pub later_runs : ℕ → (Zone → ℤ → Type 0) → Zone → ℤ → Type 0
later_runs seconds runs z i = runs z (i -ℤ pos seconds) × IsServed i

-- the runs of one and of the other
abbrev pub either_runs : (Zone → ℤ → Type 0) → (Zone → ℤ → Type 0) → Zone → ℤ → Type 0
either_runs first second z i = (first z i ⊎ second z i) × IsServed i

-- the runs on dates that are kept, by what the clock shows
abbrev pub on_dates : Dates → (Zone → ℤ → Type 0) → Zone → ℤ → Type 0
on_dates dates runs z i = runs z i × IsKept dates (z.reads i)

-- those of them that are served
abbrev pub kept_runs : Dates → (Zone → ℤ → Type 0) → Zone → ℤ → Type 0
kept_runs dates runs z i = on_dates dates runs z i × IsServed i
