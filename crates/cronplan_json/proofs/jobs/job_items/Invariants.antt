use Rattle.std.proofs.Common.{◌≡◌, ◌++◌, drop}
use Rattle.std.specs.Prelude.{map}
use Rattle.serde_json.specs.View.{view}
use Rattle.cronplan_json.specs.Objects.{job_objects}
use Rattle.cronplan_json.proofs.jobs.job_items.Given as goal

abbrev pub invariant-loop-place : goal.invariant-loop-place
invariant-loop-place l =
    map view l.items.items ++ job_objects l.view.frequent.now l.view.plan.now.starts.items l.place (drop l.place l.view.jobs.now)
    ≡ job_objects l.view.frequent.now l.view.plan.now.starts.items 0 l.view.jobs.now
