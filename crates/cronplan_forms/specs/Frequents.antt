-- Jobs that start too often to be shown. Source: this crate's documentation.
use Rattle.std.specs.Prelude.{ℕ, ◌==◌, List, [], ◌∷◌, Option, Some, None, if◌then◌else◌}
use Rattle.cronplan.specs.declared.frequent.Frequent.{Frequent}

-- how many starts the job at a place has, if it is one of these
abbrev pub frequent_count : List Frequent → ℕ → Option ℕ
frequent_count [] place = None
frequent_count (f ∷ fs) place = if f.job == place then Some f.starts else frequent_count fs place
