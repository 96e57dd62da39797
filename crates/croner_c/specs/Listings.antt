-- A listing of a pattern's runs from a start on, up to a second: what the call answers.
use Rattle.std.specs.Prelude.{◌≡◌, ◌⊎◌, ◌≤◌, Bool, ℕ, nat_le, ℤ, ◌≤ℤ◌, ◌<ℤ◌, int_lt, List, [], ◌∷◌, ◌++◌, length, map, Option, Some, None, Result, Err, if◌then◌else◌}
use Rattle.std.specs.List.{All, Contains}
use Rattle.croner_base.specs.Zone.{Zone}
use Rattle.croner_base.specs.declared.time.Direction.TheVariants.{Forward}
use Rattle.croner_base.specs.declared.time.table.TableTime.{TableTime}
use Rattle.croner_pattern.specs.Meaning.{Meaning}
use Rattle.croner.specs.declared.laws.listing.ListingEnd.{ListingEnd}
use Rattle.croner.specs.declared.laws.listing.ListingEnd.TheVariants as ends
use Rattle.croner.specs.iterator.Listing.{Begins}
use Rattle.croner.specs.parser.Settings.{Settings}
use Rattle.croner.specs.search.Limit.{InSpan}
use Rattle.croner.specs.search.PatternJob.{pattern_job}
use Rattle.croner.specs.search.Runs.{Job, Counts}
use Rattle.croner_c.specs.Answers.{OrLack, After, Then}
use Rattle.croner_c.specs.Clocks.{IsZoneAt}
use Rattle.croner_c.specs.Patterns.{IsPattern, asked}
use Rattle.croner_c.specs.Status.{status_of_end}
use Rattle.croner_c.specs.Written.{written}
use Rattle.croner_c.specs.declared.clock.Clock.{Clock}
use Rattle.croner_c.specs.declared.listing.Run.{Run}
use Rattle.croner_c.specs.declared.status.Reason.{Reason}
use Rattle.croner_c.specs.declared.status.Reason.TheVariants as reasons

-- the most items of a listing
abbrev pub most_items : ℕ
most_items = 1_000_000

-- the next run comes after these, and none between
abbrev pub IsNextAfter : Bool → Job → ℤ → List ℤ → ℤ → Type 0
IsNextAfter inclusive job start runs next = Begins Forward inclusive job start (runs ++ next ∷ [])

-- why a listing ends. With status 0: there is no more room, or the next run comes after the second that was asked for. Outside: that second lies
-- after the window, and so does the next run. Limit: none is left in the searched years
abbrev pub EndsBy : Bool → Job → Clock → ℤ → ℤ → ℕ → List ℤ → Option Reason → Type 0
EndsBy inclusive job c start until room runs None = (length runs ≡ room) ⊎ ((next : ℤ) × IsNextAfter inclusive job start runs next × (until <ℤ next))
EndsBy inclusive job c start until room runs (Some reasons.Outside) = (next : ℤ) × IsNextAfter inclusive job start runs next × (c.last <ℤ next) × (c.last <ℤ until)
EndsBy inclusive job c start until room runs (Some reasons.Limit) = (i : ℤ) → Counts Forward inclusive job start i → InSpan Forward job.zone.reads i → Contains runs i
EndsBy inclusive job c start until room runs (Some other) = ⊥

-- the runs from a start on: each counts, they go on in order, and none is left out up to the last; all come by the second that was asked for and by the
-- window's last one; and at most as many as there is room for
pub record ListsRuns (inclusive : Bool) (job : Job) (c : Clock) (start until : ℤ) (room : ℕ) (runs : List ℤ) (end : Option Reason) : Type 0 where
  pub begins : Begins Forward inclusive job start runs
  pub by : All (λ i. (i ≤ℤ until) × (i ≤ℤ c.last)) runs
  pub most : length runs ≤ room
  pub ended : EndsBy inclusive job c start until room runs end

-- the seconds of runs
abbrev pub seconds_of : List Run → List ℤ
seconds_of runs = map (λ r. r.second) runs

-- in a zone
abbrev pub AreRunsIn : Bool → Meaning → Clock → ℤ → ℤ → ℕ → Zone → Result (List Run × Option Reason) Reason → Type 0
AreRunsIn inclusive m c start until room z answer =
    OrLack (λ listing. ListsRuns inclusive (pattern_job m z) c start until room (seconds_of listing.0) listing.1) answer

-- on a clock
abbrev pub AreRunsOn : Bool → Meaning → Clock → ℤ → ℤ → ℕ → Result (List Run × Option Reason) Reason → Type 0
AreRunsOn inclusive m c start until room answer = After (IsZoneAt c start) (AreRunsIn inclusive m c start until room) answer

-- of a text with its settings
abbrev pub AreRunsOf : Settings → Bool → List ℕ → Clock → ℤ → ℤ → ℕ → Result (List Run × Option Reason) Reason → Type 0
AreRunsOf s inclusive text c start until room answer = After (IsPattern s text) (λ m. AreRunsOn inclusive m c start until room) answer

-- the settings and the mark of a call with so much room
abbrev pub asked_with : ℕ → ℕ → ℤ → Clock → Result (Settings × Bool) Reason
asked_with room settings mark c = if nat_le room most_items then asked settings mark c else Err reasons.BadArgument

-- of a call
abbrev pub AreRuns : List ℕ → ℕ → Clock → ℤ → ℤ → ℤ → ℕ → Result (List Run × Option Reason) Reason → Type 0
AreRuns text settings c start mark until room answer =
    Then (asked_with room settings mark c) (λ a. AreRunsOf a.0 a.1 text c start until room) answer

-- the runs are written to the front of the room, and how many they are; the status is that of the end
abbrev pub tell_runs : List Run × Option Reason → List Run × ℕ → ℤ × (List Run × ℕ)
tell_runs listing old = (status_of_end listing.1, (written listing.0 old.0, length listing.0))

-- ---- of private contracts alone

-- the last second of a listing
abbrev pub bound_of : ℤ → ℤ → ℤ
bound_of until last = if int_lt last until then last else until

-- why the next item is left out that comes after the bound
abbrev pub reason_past : ℤ → ℤ → Option Reason
reason_past until last = if int_lt last until then Some reasons.Outside else None

-- why a listing of the library ends
abbrev pub end_of : ℤ → ℤ → ListingEnd → Option Reason
end_of until last ends.Full = None
end_of until last (ends.Past i) = reason_past until last
end_of until last ends.Over = Some reasons.Limit
end_of until last ends.Refused = Some reasons.Limit

-- the run at a time
abbrev pub run_at : TableTime → Run
run_at t = record { second = t.second }
