-- How far a run goes.
use Rattle.std.specs.Prelude.{ℕ, suc, Bool, false, List, [], ◌∷◌, if◌then◌else◌}
use Rattle.cronplan_forms.specs.declared.answers.quiet.ShownWindow.{ShownWindow}
use Rattle.cronplan_forms.specs.WindowRuns.{comes_again}

-- the second window is the first one a day later
abbrev pub goes_on : List ShownWindow → Bool
goes_on [] = false
goes_on (s ∷ []) = false
goes_on (s ∷ t ∷ ts) = comes_again s t

-- how many windows follow one, each the one before it a day later
abbrev pub steps_after : ShownWindow → List ShownWindow → ℕ
steps_after s [] = 0
steps_after s (t ∷ ts) = if comes_again s t then suc (steps_after t ts) else 0

-- how many follow the first so
abbrev pub run_steps : List ShownWindow → ℕ
run_steps [] = 0
run_steps (s ∷ ss) = steps_after s ss
