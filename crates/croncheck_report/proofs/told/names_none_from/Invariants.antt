use Rattle.std.proofs.Common.{◌≡◌, ◌<◌, ◌≤◌, ◌&&◌, ℕ, pos, int_le, false}
use Rattle.croner_pattern.specs.Schedule.{is_year_matching}
use Rattle.croner.specs.Views.{job_of}
use Rattle.croncheck_report.proofs.told.names_none_from.Given as goal

abbrev pub invariant-loop-year : goal.invariant-loop-year
invariant-loop-year l = (k : ℕ) → 1 ≤ k → k < l.year → (int_le l.fn.shown.date.year (pos k) && is_year_matching (job_of l.fn.job) (pos k)) ≡ false
