-- What contracts see of a scheduler and of a job in it.
use Rattle.std.specs.Prelude.{ℕ, ◌+◌, ◌≤◌, min, length, option_map}
use Rattle.std.specs.BinaryHeap.{heap_capacity}
use Rattle.croner_base.specs.Zone.{Moment}
use Rattle.croner_scheduler.specs.declared.scheduler.Scheduler.{Scheduler}
use Rattle.croner_scheduler.specs.Ids.{job_of}
use Rattle.croner_scheduler.specs.Room.{heap_room}
use Rattle.croner_scheduler.specs.Standing.{Held}
use Rattle.croner_scheduler.specs.Kept.{standing_of}
use Rattle.croner_scheduler.specs.Stops.{stops_in}

-- what a scheduler holds
abbrev pub held_of : {J T : Type 0} {a : _} {b : _} {c : _} → (T → Moment) → Scheduler J T a b c → Held J
held_of moment s = record {
  jobs = λ id. option_map (standing_of moment) (job_of s.jobs id);
  count = length s.jobs.entries;
  next_id = s.jobs.next_id;
}

-- for how many jobs there is room: those that it holds, and as many more as have room both among the jobs and among the turns
abbrev pub capacity_of : {J T : Type 0} {a : _} {b : _} {c : _} → Scheduler J T a b c → ℕ
capacity_of s = length s.jobs.entries + min s.jobs.room (heap_room s.turns (length s.jobs.entries))

-- how many turns have room: one of each job, and one more while a job moves
abbrev pub turn_capacity_of : {J T : Type 0} {a : _} {b : _} {c : _} → Scheduler J T a b c → ℕ
turn_capacity_of s = heap_capacity s.turns

-- there is no less room than there was
abbrev pub KeepsRoom : {J T : Type 0} {a : _} {b : _} {c : _} → Scheduler J T a b c → Scheduler J T a b c → Type 0
KeepsRoom s s' = (capacity_of s ≤ capacity_of s') × (turn_capacity_of s ≤ turn_capacity_of s')

-- how many jobs are stopped
abbrev pub stop_count_of : {J T : Type 0} {a : _} {b : _} {c : _} → Scheduler J T a b c → ℕ
stop_count_of s = length (stops_in s.jobs.entries)
