use Rattle.std.proofs.Common.{◌≡◌, take}
use Rattle.std.specs.Prelude.{map}
use Rattle.std.specs.List.{All}
use Rattle.crontab_runs.specs.Views.{cron_job_of}
use Rattle.croncheck_runs.specs.Private.Listed.{run_seen, seen_on, TellsMadeUp}
use Rattle.croncheck_runs.proofs.runs.runs_at.Given as goal

abbrev pub invariant-loop-start : goal.invariant-loop-start
invariant-loop-start l = record {
  seen : map run_seen l.runs.items ≡ map (seen_on l.fn.time.table.now) (take l.start-index l.fn.starts);
  made_up : All (TellsMadeUp (cron_job_of l.fn.job)) l.runs.items;
}
