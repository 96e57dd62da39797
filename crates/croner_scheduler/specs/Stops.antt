-- Which of the jobs are stopped, and why. Source: this crate's documentation.
use Rattle.std.specs.Prelude.{ℕ, List, Option, option_map}
use Rattle.std.specs.List.{filter_map}
use Rattle.croner_scheduler.specs.declared.waiting.Stop.{Stop}
use Rattle.croner_scheduler.specs.declared.waiting.Waiting.{Waiting}
use Rattle.croner_scheduler.specs.Kept.{stop_of}
use denote.Ref.{Bor}

-- the id of a job that is stopped, and why it is
abbrev pub stop_entry : {J T : Type 0} → ℕ × Waiting J T → Option (ℕ × Stop)
stop_entry e = option_map (λ stop. (e.0, stop)) (stop_of e.1.next)

-- those of the jobs that are stopped, in the order of the jobs
abbrev pub stops_in : {J T : Type 0} → List (ℕ × Waiting J T) → List (ℕ × Stop)
stops_in es = filter_map stop_entry es

-- what an item shows
abbrev pub entry_shown : ℕ × Bor Stop → ℕ × Stop
entry_shown item = (item.0, item.1.now)
