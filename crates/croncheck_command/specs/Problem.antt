-- Why a call can't be answered.
use Rattle.std.specs.Prelude.{ℕ}
use Rattle.croncheck_command.specs.declared.problem.Problem.{Problem}
use Rattle.croncheck_command.specs.declared.problem.Problem.TheVariants as problems

-- 2 where a word names no moment, the end lies before the start, or a file that is read would be replaced; else 3
abbrev pub status_of_problem : Problem → ℕ
status_of_problem problems.SkippedFrom = 2
status_of_problem problems.SkippedUntil = 2
status_of_problem problems.UntilBeforeFrom = 2
status_of_problem problems.OutputIsRead = 2
status_of_problem other = 3
