-- Why a search over a table is refused once it has room for its places: it takes no memory of its own.
-- Private contracts alone cite this definition.
use Rattle.std.specs.Prelude.{◌≡◌, Bool, List}
use Rattle.croner_base.specs.declared.errors.CronError.{CronError}
use Rattle.croner_base.specs.declared.errors.CronError.TheVariants.{TimeSearchLimitExceeded}
use Rattle.croner_base.specs.declared.time.Direction.{Direction}
use Rattle.croner_base.specs.Zone.{Moment}
use Rattle.croner_pattern.specs.Meaning.{Meaning}
use Rattle.croner.specs.crontable.Tables.{TableCounts, AllPast}
use Rattle.croner.specs.search.Limit.{NoneInSpanWhere}
use Rattle.croner.specs.search.Premises.{IsSearchable, StartsCalm}
use Rattle.croner.specs.search.Refusal.{IsRefusal, IsLimitOrMemory}

-- as `IsTableRefused`, but for lack of memory only where the backend can lack it, which the first mark says; and from a start
-- past the years of each pattern it is the limit
pub record IsRefusedInRoom (lack : Bool) (direction : Direction) (inclusive : Bool) (patterns : List Meaning) (start : Moment) (e : CronError) : Type 0 where
  pub limit : StartsCalm start → e ≡ TimeSearchLimitExceeded → NoneInSpanWhere direction start.zone.reads (TableCounts direction inclusive patterns start.zone start.instant)
  pub promised : IsSearchable start → IsLimitOrMemory lack e
  pub kind : IsRefusal lack e
  pub past : AllPast direction inclusive patterns start → e ≡ TimeSearchLimitExceeded
