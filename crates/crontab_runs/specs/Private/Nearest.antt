-- The nearest minute that a pattern names, on the wall clock.
-- Private contracts alone cite these definitions.
use Rattle.std.specs.Prelude.{ℤ, pos, ◌*ℤ◌, ◌-ℤ◌}
use Rattle.croner_base.specs.declared.time.Direction.{Direction}
use Rattle.croner_base.specs.declared.time.Direction.TheVariants.{Forward, Backward}
use Rattle.croner_base.specs.Calm.{IsSearched}
use Rattle.croner_pattern.specs.Directions.{Reaches}
use Rattle.croner_pattern.specs.Meaning.{Meaning}
use Rattle.croner.specs.search.Limit.{IsWithin, year_2, year_5000}
use Rattle.croner.specs.search.Runs.{NearestWhere}
use Rattle.crontab_runs.specs.Starts.{minute_of, NamesMinute}

-- from a minute on none is named whose seconds lie before year 5000 forward, after year 1 backward
abbrev pub NoneNamed : Direction → Meaning → ℤ → Type 0
NoneNamed direction m from = (k : ℤ) → Reaches direction from k → IsWithin direction (k *ℤ pos 60) → ¬ (NamesMinute m k)

-- a named minute from one on
abbrev pub IsNamedFrom : Direction → Meaning → ℤ → ℤ → Type 0
IsNamedFrom direction m from k = Reaches direction from k × NamesMinute m k

-- k is the nearest of them
abbrev pub IsNearestNamed : Direction → Meaning → ℤ → ℤ → Type 0
IsNearestNamed direction m from k = NearestWhere direction (IsNamedFrom direction m from) k

-- the first minute of year 5000 forward, and the last of year 1 backward
abbrev pub first_past : Direction → ℤ
first_past Forward = minute_of year_5000
first_past Backward = minute_of year_2 -ℤ pos 1

-- from a minute on there is none of the years that a pattern can name
abbrev pub IsBeyond : Direction → ℤ → Type 0
IsBeyond direction from = (v : ℤ) → IsSearched v → ¬ (Reaches direction from (minute_of v))

-- a searched wall second, from which those of the minutes from one on are met, and no others
pub record IsSearchStart (direction : Direction) (from w : ℤ) : Type 0 where
  pub searched : IsSearched w
  pub meets : (v : ℤ) → IsSearched v → Reaches direction from (minute_of v) → Reaches direction w v
  pub others : (v : ℤ) → Reaches direction w v → Reaches direction from (minute_of v)
