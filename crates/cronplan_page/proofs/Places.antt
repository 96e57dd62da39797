-- Jobs by their places: one more.
use Rattle.std.proofs.Common.{◌≡◌, ◌∙◌, ◌+◌, ◌<◌, ℕ, suc, List, ◌++◌, length, get_or, drop, ap, sym, add-one}
use Rattle.std.proofs.lemmas.List.{at_drop_more}
use Rattle.cronplan_forms.specs.declared.job.Job.{Job}
use Rattle.cronplan_page.specs.declared.page.Page.{Page}
use Rattle.cronplan_page.specs.PlanJobs.{line_at, time_lines_from, job_row, job_rows_from}

-- the line of time of one job more
pub time_lines_step : (p : Page) (jobs : List Job) (i : ℕ) (x : Job) → i < length jobs → x ≡ get_or jobs i x
    → time_lines_from p i (drop i jobs) ≡ line_at p i x ++ time_lines_from p (i + 1) (drop (i + 1) jobs)
time_lines_step p jobs i x h is =
    at_drop_more (time_lines_from p i) jobs i x h ∙ ap (λ (y : Job). line_at p i y ++ time_lines_from p (suc i) (drop (i + 1) jobs)) (sym is)
    ∙ ap (λ (n : ℕ). line_at p i x ++ time_lines_from p n (drop (i + 1) jobs)) (sym (add-one i))

-- the row of one job more
pub job_rows_step : (p : Page) (jobs : List Job) (i : ℕ) (x : Job) → i < length jobs → x ≡ get_or jobs i x
    → job_rows_from p i (drop i jobs) ≡ job_row p i x ++ job_rows_from p (i + 1) (drop (i + 1) jobs)
job_rows_step p jobs i x h is =
    at_drop_more (job_rows_from p i) jobs i x h ∙ ap (λ (y : Job). job_row p i y ++ job_rows_from p (suc i) (drop (i + 1) jobs)) (sym is)
    ∙ ap (λ (n : ℕ). job_row p i x ++ job_rows_from p n (drop (i + 1) jobs)) (sym (add-one i))
