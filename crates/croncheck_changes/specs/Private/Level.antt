-- The scheduled seconds of a pattern from a wall second on.
use Rattle.std.specs.Prelude.{◌↔◌, IsTrue, Bool, MatchBool, ℤ, pos, ◌+ℤ◌, ◌-ℤ◌, ◌<ℤ◌, ◌≤ℤ◌, int_lt, if◌then◌else◌, Option, Some, None, Result, Ok, Err}
use Rattle.croner_base.specs.declared.errors.CronError.{CronError}
use Rattle.croner_base.specs.declared.time.table.TableTime.{TableTime}
use Rattle.croner_base.specs.Limits.{first_searched}
use Rattle.croner_pattern.specs.Meaning.{Meaning}
use Rattle.croner_pattern.specs.Schedule.{IsScheduled}
use Rattle.croner.specs.search.Limit.{year_5000}
use Rattle.croncheck_changes.specs.Changes.{seconds_beside, IsDueWithin, IsDueAround, IsDueBeside}
use Rattle.croncheck_changes.specs.declared.changes.Change.{Change}
use Rattle.croncheck_changes.specs.declared.changes.Range.{Range}

-- nothing is scheduled from a wall second on, before another
abbrev pub IsNoneWithin : Meaning → ℤ → ℤ → Type 0
IsNoneWithin m from end = (w : ℤ) → from ≤ℤ w → w <ℤ end → ¬ (IsScheduled m w)

-- nothing before year 5000
abbrev pub IsNoneFrom : Meaning → ℤ → Type 0
IsNoneFrom m from = IsNoneWithin m from year_5000

-- w is the first scheduled second from a wall second on
pub record IsLeastFrom (m : Meaning) (from w : ℤ) : Type 0 where
  pub reached : from ≤ℤ w
  pub scheduled : IsScheduled m w
  pub least : (v : ℤ) → from ≤ℤ v → IsScheduled m v → w ≤ℤ v

-- and it comes before another
abbrev pub IsLeastWithin : Meaning → ℤ → ℤ → ℤ → Type 0
IsLeastWithin m from end w = IsLeastFrom m from w × (w <ℤ end)

-- whether a second is scheduled from a wall second on, before another
unfoldable pub TellsDue : Meaning → ℤ → ℤ → Bool → Type 0
TellsDue m from end is_due = MatchBool is_due (IsDueWithin m from end) (IsNoneWithin m from end)

-- and whether one is beside a range
unfoldable pub TellsDueAround : Meaning → ℤ → ℤ → Bool → Type 0
TellsDueAround m first end is_due = IsTrue is_due ↔ IsDueAround m first end

-- and whether one is beside the range of a change
unfoldable pub TellsDueBeside : Meaning → Range → Change → Bool → Type 0
TellsDueBeside m range c is_due = IsTrue is_due ↔ IsDueBeside m range c

-- the second of a run, if a search found one
abbrev pub second_found : Result TableTime CronError → Option ℤ
second_found (Ok run) = Some run.second
second_found (Err e) = None

-- a second, if it comes before another
abbrev pub if_before : Option ℤ → ℤ → Option ℤ
if_before None end = None
if_before (Some second) end = if int_lt second end then Some second else None

-- a range that has so much room on either side, in the years in which a second is looked for
pub record HasRoom (first end : ℤ) : Type 0 where
  pub first_from : first_searched ≤ℤ (first -ℤ pos seconds_beside)
  pub first_to : first ≤ℤ year_5000
  pub end_from : first_searched ≤ℤ end
  pub end_to : (end +ℤ pos seconds_beside) ≤ℤ year_5000
