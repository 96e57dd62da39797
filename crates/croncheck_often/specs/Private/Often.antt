-- The greater of two counts of starts, and the shorter of two distances. Private contracts alone cite these definitions.
use Rattle.std.specs.Prelude.{ℕ, ℤ, ◌-ℤ◌, nat_lt, unsigned_abs, Option, Some, None, option_map, if◌then◌else◌}
use Rattle.croncheck_runs.specs.declared.runs.Run.{Run}

-- the greater of two counts
abbrev pub greater_of : ℕ → ℕ → ℕ
greater_of a b = if nat_lt a b then b else a

-- the shorter of two distances that there may be
abbrev pub shorter_of : Option ℕ → Option ℕ → Option ℕ
shorter_of None other = other
shorter_of (Some distance) None = Some distance
shorter_of (Some distance) (Some other) = if nat_lt other distance then Some other else Some distance

-- the shortest distance of a start of a run from the one before it, of which the first is at this second
abbrev pub distance_of : Option ℤ → Run → Option ℕ
distance_of before run =
    if nat_lt 1 run.count then Some 0 else option_map (λ second. unsigned_abs (run.time.second -ℤ second)) before
