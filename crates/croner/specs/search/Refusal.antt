-- Why a search is refused.
use Rattle.std.specs.Prelude.{◌≡◌, ◌⊎◌, Bool, IsTrue}
use Rattle.croner_base.specs.declared.errors.CronError.{CronError}
use Rattle.croner_base.specs.declared.errors.CronError.TheVariants.{InvalidDate, InvalidTime, TimeSearchLimitExceeded, OutOfMemory}

-- the limit, or lack of memory where the backend can lack it
abbrev pub IsLimitOrMemory : Bool → CronError → Type 0
IsLimitOrMemory lack e = (e ≡ TimeSearchLimitExceeded) ⊎ ((e ≡ OutOfMemory) × IsTrue lack)

-- one of these two, InvalidDate or InvalidTime
abbrev pub IsRefusal : Bool → CronError → Type 0
IsRefusal lack e = IsLimitOrMemory lack e ⊎ (e ≡ InvalidDate) ⊎ (e ≡ InvalidTime)
