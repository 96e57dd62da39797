-- Where a listing starts.
use Rattle.std.specs.Prelude.{◌≡◌, ◌⊎◌, Bool, IsTrue, ℤ, Option, Some, None}
use Rattle.croner_base.specs.declared.errors.CronError.{CronError}
use Rattle.croner_base.specs.declared.errors.CronError.TheVariants.{InvalidTime, OutOfMemory}
use Rattle.croner_base.specs.declared.time.value.Resolution.{Resolution}
use Rattle.croner_base.specs.declared.time.value.Resolution.TheVariants.{Single, Ambiguous, Gap}

-- the instant that a start names where its second is resolved so: the earlier of two, and none for a second that lies in a
-- gap or is not held
abbrev pub start_instant : Option (Resolution ℤ) → Option ℤ
start_instant (Some (Single i)) = Some i
start_instant (Some (Ambiguous i j)) = Some i
start_instant (Some Gap) = None
start_instant None = None

-- InvalidTime where no instant is named, or lack of memory where it can lack
abbrev pub IsNoStart : Bool → Option ℤ → CronError → Type 0
IsNoStart lack start e = ((e ≡ InvalidTime) × (start ≡ None)) ⊎ ((e ≡ OutOfMemory) × IsTrue lack)
