-- Jobs that start too often to be shown: one more.
use Rattle.std.proofs.Common.{◌≡◌, ◌∙◌, ◌+◌, ◌<◌, ◌==◌, ℕ, cond, List, length, get_or, drop, ap, sym, Some}
use Rattle.std.proofs.lemmas.List.{at_drop_more}
use Rattle.cronplan.specs.declared.frequent.Frequent.{Frequent}
use Rattle.cronplan_forms.specs.Frequents.{frequent_count}

-- of some jobs, the first decides, or the others
pub frequent_count_step : (xs : List Frequent) (i : ℕ) (x : Frequent) (place : ℕ) → i < length xs → x ≡ get_or xs i x
    → frequent_count (drop i xs) place ≡ cond (x.job == place) (Some x.starts) (frequent_count (drop (i + 1) xs) place)
frequent_count_step xs i x place h is =
    at_drop_more (λ (ys : List Frequent). frequent_count ys place) xs i x h
    ∙ ap (λ (y : Frequent). cond (y.job == place) (Some y.starts) (frequent_count (drop (i + 1) xs) place)) (sym is)
