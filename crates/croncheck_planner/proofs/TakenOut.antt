-- Whether anything of a line that was taken out stands in a text, from a place on.
use Rattle.std.proofs.Common.{◌≡◌, ◌∙◌, ◌<◌, ◌+◌, ℕ, List, ◌∷◌, length, get_or, drop, sym, ap}
use Rattle.std.specs.Prelude.{◌||◌}
use Rattle.std.proofs.lemmas.List.{at_drop_more}
use Rattle.croncheck_planner.specs.Titles.{tells_anywhere, tells_here}

-- from a place on: it stands there, or from the next place on
pub tells_step : (text : List ℕ) (k : ℕ) → k < length text → tells_anywhere (drop k text) ≡ (tells_here (drop k text) || tells_anywhere (drop (k + 1) text))
tells_step text k inside =
    at_drop_more tells_anywhere text k 0 inside
    ∙ ap (λ (rest : List ℕ). tells_here rest || tells_anywhere (drop (k + 1) text)) (sym (at_drop_more (λ (rest : List ℕ). rest) text k 0 inside))
