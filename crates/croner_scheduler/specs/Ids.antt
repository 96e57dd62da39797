-- The jobs under their ids. Source: this crate's documentation.
use Rattle.std.specs.Prelude.{ℕ, List, Option}
use Rattle.std.specs.BTreeMap.{is_at}
use Rattle.std.specs.Map.{lookup}
use Rattle.std.specs.Ordering.{nat_cmp}
use denote.Ref.{Bor}
use Rattle.croner_scheduler.specs.declared.waiting.Waiting.{Waiting}

-- jobs with their ids, in the order of the ids; the id of the next one; and for how many more there is room
pub record ById (W : Type 0) : Type 0 where
  pub entries : List (ℕ × W)
  pub next_id : ℕ
  pub room : ℕ

-- the job of an id
abbrev pub job_of : {W : Type 0} → ById W → ℕ → Option W
job_of jobs id = lookup (is_at (nat_cmp id)) jobs.entries

-- what an item shows
abbrev pub entry_of : {W : Type 0} → ℕ × Bor W → ℕ × W
entry_of item = (item.0, item.1.now)

-- the id of a job, with the job and its position
abbrev pub parts_entry : {J T : Type 0} → ℕ × Waiting J T → ℕ × (J × T)
parts_entry e = (e.0, (e.1.job, e.1.position))
