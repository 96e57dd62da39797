-- Runs, one after the other.
use Rattle.std.proofs.Common.{◌≡◌, ◌∙◌, ◌+◌, ◌<◌, ℕ, suc, Bool, true, false, List, [], ◌∷◌, ◌++◌, length, get_or, take, drop, ap, sym, refl, arith, if◌then◌else◌}
use Rattle.std.specs.List.{flat_map}
use Rattle.std.specs.Prelude.{map}
use Rattle.std.proofs.lemmas.List.{append_assoc, at_drop_more, map_push, take-map}
use Rattle.cronplan_forms.specs.declared.answers.quiet.ShownWindow.{ShownWindow}
use Rattle.cronplan_forms.specs.declared.answers.runs.WindowRun.{WindowRun}
use Rattle.cronplan_forms.specs.WindowRuns.{before_runs, comes_again, longest_text, most_longest, run_line, some_longest, window_runs}
use Rattle.cronplan_forms.specs.Private.Steps.{run_steps, steps_after}

-- its windows
abbrev pub windows_of : WindowRun → List ShownWindow
windows_of r = r.windows.now

-- one run more, as a line
pub lines_step : (xs : List WindowRun) (i : ℕ) (x : WindowRun) → i < length xs → x ≡ get_or xs i x
    → flat_map run_line (map windows_of (drop i xs)) ≡ run_line x.windows.now ++ flat_map run_line (map windows_of (drop (i + 1) xs))
lines_step xs i x h is =
    at_drop_more (λ (ys : List WindowRun). flat_map run_line (map windows_of ys)) xs i x h
    ∙ ap (λ (y : WindowRun). run_line y.windows.now ++ flat_map run_line (map windows_of (drop (i + 1) xs))) (sym is)

-- a window before a run that another one begins
joined : (s t : ShownWindow) (ts : List ShownWindow) (n : ℕ) (b : Bool) → window_runs (t ∷ ts) ≡ (t ∷ take n ts) ∷ window_runs (drop n ts)
    → (if b then (s ∷ t ∷ take n ts) ∷ window_runs (drop n ts) else (s ∷ []) ∷ (t ∷ take n ts) ∷ window_runs (drop n ts))
    ≡ (s ∷ take (if b then suc n else 0) (t ∷ ts)) ∷ window_runs (drop (if b then suc n else 0) (t ∷ ts))
joined s t ts n true is = refl
joined s t ts n false is = ap (λ (runs : List (List ShownWindow)). (s ∷ []) ∷ runs) (sym is)

-- the first run, and those after it
cut_at : (s : ShownWindow) (ss : List ShownWindow) → window_runs (s ∷ ss) ≡ (s ∷ take (steps_after s ss) ss) ∷ window_runs (drop (steps_after s ss) ss)
cut_at s [] = refl
cut_at s (t ∷ ts) = ap (before_runs s) (cut_at t ts) ∙ joined s t ts (steps_after t ts) (comes_again s t) (cut_at t ts)

pub runs_cut : (ss : List ShownWindow) → 0 < length ss → window_runs ss ≡ take (suc (run_steps ss)) ss ∷ window_runs (drop (suc (run_steps ss)) ss)
runs_cut [] some = absurd (omega (arith, some))
runs_cut (s ∷ ss) some = cut_at s ss

-- one run more, as a value
pub run_more : (runs new : List WindowRun) (run : WindowRun) (rest left : List ShownWindow) (n : ℕ) (all : List (List ShownWindow)) → new ≡ runs ++ run ∷ [] → 0 < length rest
    → n ≡ suc (run_steps rest) → windows_of run ≡ take n rest → left ≡ drop n rest → map windows_of runs ++ window_runs rest ≡ all
    → map windows_of new ++ window_runs left ≡ all
run_more runs new run rest left n all is some long first after so_far =
    let cut : window_runs rest ≡ windows_of run ∷ window_runs left =
    runs_cut rest some ∙ ap (λ (m : ℕ). take m rest ∷ window_runs (drop m rest)) (sym long) ∙ ap (λ (w : List ShownWindow). w ∷ window_runs (drop n rest)) (sym first)
    ∙ ap (λ (b : List ShownWindow). windows_of run ∷ window_runs b) (sym after) in
    ap (λ (rs : List WindowRun). map windows_of rs ++ window_runs left) is ∙ ap (λ (ws : List (List ShownWindow)). ws ++ window_runs left) (map_push windows_of runs run)
    ∙ append_assoc (map windows_of runs) (windows_of run ∷ []) (window_runs left) ∙ ap (λ (ws : List (List ShownWindow)). map windows_of runs ++ ws) (sym cut) ∙ so_far

-- the first runs of all
pub first_lines : (is_whole : Bool) (runs longest : List WindowRun) → longest ≡ take most_longest runs
    → longest_text is_whole (take most_longest (map windows_of runs)) ≡ longest_text is_whole (map windows_of longest)
first_lines is_whole runs longest is = ap (longest_text is_whole) (take-map windows_of most_longest runs ∙ ap (map windows_of) (sym is))

-- what is told of them, if there are some, or there is none
pub some_lines : (is_whole : Bool) (runs : List WindowRun) → 0 < length runs → longest_text is_whole (map windows_of runs) ≡ some_longest is_whole (map windows_of runs)
some_lines is_whole [] some = absurd (omega (arith, some))
some_lines is_whole (run ∷ runs) some = refl

pub no_line : (is_whole : Bool) (runs : List WindowRun) → length runs ≡ 0 → longest_text is_whole (map windows_of runs) ≡ []
no_line is_whole [] none = refl
no_line is_whole (run ∷ runs) none = absurd (omega (arith, none))
