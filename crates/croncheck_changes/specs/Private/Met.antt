-- A job's scheduled seconds in a range of a change.
use Rattle.std.specs.Prelude.{ℤ, pos, ◌+ℤ◌, ◌≤ℤ◌}
use Rattle.croner_base.specs.declared.time.table.TableTime.{TableTime}
use Rattle.croner_base.specs.Limits.{first_searched}
use Rattle.croner_base.specs.TableZone.{table_moment}
use Rattle.croner_pattern.specs.Meaning.{Meaning}
use Rattle.croner_pattern.specs.Schedule.{IsScheduled}
use Rattle.croner.specs.search.Limit.{year_5000}
use Rattle.croncheck_changes.specs.Changes.{IsJump, IsWatched, LiesIn, seconds_beside}
use Rattle.croncheck_changes.specs.declared.changes.Change.{Change}
use Rattle.croncheck_changes.specs.declared.changes.Range.{Range}

-- a change of a start's clock that is watched from there
abbrev pub IsToldOf : TableTime → Change → Type 0
IsToldOf start c = IsJump (table_moment start).zone c × IsWatched (table_moment start).instant c.instant

-- its wall seconds lie in the years 1 to 4999, and so do those beside them
pub record IsInYears (c : Change) : Type 0 where
  pub before_from : (first_searched +ℤ pos seconds_beside) ≤ℤ c.before
  pub before_to : (c.before +ℤ pos seconds_beside) ≤ℤ year_5000
  pub after_from : (first_searched +ℤ pos seconds_beside) ≤ℤ c.after
  pub after_to : (c.after +ℤ pos seconds_beside) ≤ℤ year_5000

-- nothing is scheduled there
abbrev pub IsNoneIn : Meaning → Range → Change → Type 0
IsNoneIn m range c = (w : ℤ) → LiesIn range c w → ¬ (IsScheduled m w)

-- w is the first second there that is scheduled
pub record IsFirstIn (m : Meaning) (range : Range) (c : Change) (w : ℤ) : Type 0 where
  pub lies : LiesIn range c w
  pub scheduled : IsScheduled m w
  pub least : (v : ℤ) → LiesIn range c v → IsScheduled m v → w ≤ℤ v
