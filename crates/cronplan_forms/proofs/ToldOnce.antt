-- What the runs of windows have.
use Rattle.std.proofs.Common.{◌≡◌, ◌∙◌, Bool, true, false, List, [], ◌∷◌, ◌++◌, ap, refl, subst, sym, if◌then◌else◌}
use Rattle.std.proofs.lemmas.List.Elements.{All-nil, All-cons, All-head, All-tail}
use Rattle.std.specs.List.{All, flat_map}
use Rattle.cronplan_forms.specs.declared.answers.quiet.ShownWindow.{ShownWindow}
use Rattle.cronplan_forms.specs.WindowRuns.{IsRun, before_runs, comes_again, window_runs}

-- the windows of runs, one after the other
abbrev pub windows_in : List (List ShownWindow) → List ShownWindow
windows_in runs = flat_map (λ (run : List ShownWindow). run) runs

in_one : (s t : ShownWindow) (ts : List ShownWindow) (runs : List (List ShownWindow)) (b : Bool)
    → windows_in (if b then (s ∷ t ∷ ts) ∷ runs else (s ∷ []) ∷ (t ∷ ts) ∷ runs) ≡ s ∷ windows_in ((t ∷ ts) ∷ runs)
in_one s t ts runs true = refl
in_one s t ts runs false = refl

with_one : (s : ShownWindow) (runs : List (List ShownWindow)) → windows_in (before_runs s runs) ≡ s ∷ windows_in runs
with_one s [] = refl
with_one s ([] ∷ runs) = refl
with_one s ((t ∷ ts) ∷ runs) = in_one s t ts runs (comes_again s t)

-- each window stands in them once, in its place
pub told_once : (told : List ShownWindow) → windows_in (window_runs told) ≡ told
told_once [] = refl
told_once (s ∷ ss) = with_one s (window_runs ss) ∙ ap (λ (ts : List ShownWindow). s ∷ ts) (told_once ss)

run-before : (s : ShownWindow) (runs : List (List ShownWindow)) → All IsRun runs → All IsRun (before_runs s runs)
run-before s [] h = All-cons IsRun (s ∷ []) [] tt (All-nil IsRun)
run-before s ([] ∷ runs) h = All-cons IsRun (s ∷ []) runs tt (All-tail IsRun [] runs h)
run-before s ((t ∷ ts) ∷ runs) h = at (comes_again s t) refl where
  at : (b : Bool) → comes_again s t ≡ b → All IsRun (if b then (s ∷ t ∷ ts) ∷ runs else (s ∷ []) ∷ (t ∷ ts) ∷ runs)
  at true e = All-cons IsRun (s ∷ t ∷ ts) runs (e, All-head IsRun (t ∷ ts) runs h) (All-tail IsRun (t ∷ ts) runs h)
  at false e = All-cons IsRun (s ∷ []) ((t ∷ ts) ∷ runs) tt h

-- each of them is one: none is empty, and each window in it is the one before it a day later
pub each_run : (told : List ShownWindow) → All IsRun (window_runs told)
each_run [] = All-nil IsRun
each_run (s ∷ ss) = run-before s (window_runs ss) (each_run ss)

front : (runs more : List (List ShownWindow)) → All IsRun (runs ++ more) → All IsRun runs
front [] more h = All-nil IsRun
front (run ∷ runs) more h = All-cons IsRun run runs (All-head IsRun run (runs ++ more) h) (front runs more (All-tail IsRun run (runs ++ more) h))

-- so are those of them that are found so far
pub each_so_far : (windows rest : List ShownWindow) (runs : List (List ShownWindow)) → runs ++ window_runs rest ≡ window_runs windows → All IsRun runs
each_so_far windows rest runs is = front runs (window_runs rest) (subst (All IsRun) (sym is) (each_run windows))
