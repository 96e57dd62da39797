use Rattle.std.proofs.Common.{◌≡◌, ◌==◌, take}
use Rattle.std.specs.Prelude.{filter}
use Rattle.cronplan_page.specs.declared.timed.TimedStart.{TimedStart}
use Rattle.cronplan_page.proofs.jobs.own_starts.Given as goal

abbrev pub invariant-loop-start : goal.invariant-loop-start
invariant-loop-start l = l.own.items ≡ filter (λ (s : TimedStart). s.start.job == l.place) (take l.start-index l.starts)
