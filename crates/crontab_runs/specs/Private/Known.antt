-- What a search knows of the minutes that a job names.
-- Private contracts alone cite these definitions.
use Rattle.std.specs.Prelude.{ℕ, ℤ, MatchOption, IfSome}
use Rattle.croner_base.specs.declared.time.Direction.{Direction}
use Rattle.croner_pattern.specs.Directions.{Reaches}
use Rattle.croner_pattern.specs.Meaning.{Meaning}
use Rattle.crontab_runs.specs.declared.minutes.NearestMinute.{NearestMinute}
use Rattle.crontab_runs.specs.Private.Nearest.{NoneNamed, IsNearestNamed}
use Rattle.crontab_runs.specs.Starts.{NamesMinute}

-- it is so of a pattern
abbrev pub IsKnown : Meaning → NearestMinute → Type 0
IsKnown m k = MatchOption k.nearest (NoneNamed k.direction m k.from) (IsNearestNamed k.direction m k.from)

-- it is so from another minute on, too: that one comes after, and up to the minute that was found
abbrev pub Serves : NearestMinute → ℤ → Type 0
Serves k from = Reaches k.direction k.from from × IfSome k.nearest (λ minute. Reaches k.direction from minute)

-- from one minute on those that are named begin with another, or come after it
abbrev pub AreAllFrom : Direction → Meaning → ℤ → ℤ → Type 0
AreAllFrom direction m from first = (k : ℤ) → Reaches direction from k → NamesMinute m k → Reaches direction first k

-- no pattern names a minute so far from 1970
abbrev pub far_minutes : ℕ
far_minutes = 2_000_000_000
