-- What a scheduler holds: jobs under ids, each with its position; and which runs of a job are still to be given. Source: this crate's
-- documentation.
use Rattle.std.specs.Prelude.{ℕ, ℤ, ◌<ℤ◌, Option}
use Rattle.croner_base.specs.declared.time.Direction.TheVariants.{Forward}
use Rattle.croner_base.specs.Zone.{Zone, Moment}
use Rattle.croner.specs.search.Limit.{InSpan}
use Rattle.croner_scheduler.specs.declared.waiting.Stop.{Stop}

-- a job, the moment up to which its runs are done with, why it is stopped, if it is, and the instant of its next run, if it has one
pub record Standing (J : Type 0) : Type 0 where
  pub job : J
  pub position : Moment
  pub stop : Option Stop
  pub next : Option ℤ

-- the jobs by their ids, how many they are, and the id of the next one
pub record Held (J : Type 0) : Type 0 where
  pub jobs : ℕ → Option (Standing J)
  pub count : ℕ
  pub next_id : ℕ

-- i is a run of the job after its position
abbrev pub Left : {J : Type 0} → (J → Zone → ℤ → Type 0) → Standing J → ℤ → Type 0
Left runs s i = (s.position.instant <ℤ i) × runs s.job s.position.zone i

-- and one in the years that are searched
abbrev pub Seen : {J : Type 0} → (J → Zone → ℤ → Type 0) → Standing J → ℤ → Type 0
Seen runs s i = Left runs s i × InSpan Forward s.position.zone.reads i
