-- The runs of a job, each later.
use Rattle.std.specs.Prelude.{◌≡◌, ℕ, ℤ, pos, ◌+ℤ◌, ◌-ℤ◌, Option, Some, None}
use Rattle.croner.specs.Zone.{Zone, Moment}
use Rattle.croner_base.specs.declared.errors.CronError.{CronError}
use Rattle.croner_jobs.specs.Private.Sought.{IsThere, IsUnheld}

-- each run so many seconds later
abbrev pub later : ℕ → (Zone → ℤ → Type 0) → Zone → ℤ → Type 0
later seconds runs z i = runs z (i -ℤ pos seconds)

-- the time so many seconds after what was found, where that is served
abbrev pub IsLaterOf : {T : Type 0} → (T → Moment) → Zone → ℕ → Option T → Option T → Type 0
IsLaterOf moment z seconds (Some run) o = IsThere moment z ((moment run).instant +ℤ pos seconds) o
IsLaterOf moment z seconds None o = o ≡ None

-- it isn't held
abbrev pub IsUnheldLater : {T : Type 0} → (T → Moment) → Zone → ℕ → Option T → CronError → Type 0
IsUnheldLater moment z seconds (Some run) e = IsUnheld z ((moment run).instant +ℤ pos seconds) e
IsUnheldLater moment z seconds None e = ⊥
