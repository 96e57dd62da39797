-- How many starts lie in the first moments.
use Rattle.std.proofs.Common.{◌≡◌, ◌∙◌, ◌<◌, ◌+◌, ℕ, suc, ℤ, List, Option, Some, length, get_or, drop, sym, ap}
use Rattle.std.specs.Prelude.{◌==◌, ◌&&◌, if◌then◌else◌}
use Rattle.std.proofs.lemmas.List.{at_drop_more}
use Rattle.cronplan.specs.declared.start.JobStart.{JobStart}
use Rattle.croncheck_planner.specs.Plan.{is_new, left_after, starts_within}

-- how many of those from the one at a place on do, where this is the second of the start before it
abbrev pub step : ℕ → Option ℤ → JobStart → List JobStart → ℕ
step left last s rest = if is_new last s && left == 0 then 0 else suc (starts_within (left_after left (is_new last s)) (Some s.second) rest)

pub within_step : (left : ℕ) (last : Option ℤ) (starts : List JobStart) (k : ℕ) (s d : JobStart) → k < length starts → s ≡ get_or starts k d
    → starts_within left last (drop k starts) ≡ step left last s (drop (k + 1) starts)
within_step left last starts k s d inside is =
    at_drop_more (starts_within left last) starts k d inside ∙ ap (λ (x : JobStart). step left last x (drop (k + 1) starts)) (sym is)
