use Rattle.std.proofs.Common.{◌∙◌, ◌++◌, ◌∷◌, ℕ, List, [], ap, map}
use Rattle.cronplan_jobs.specs.declared.listing.Schedule.{Schedule}
use Rattle.crontab.specs.Entries.{entry_seen}
use Rattle.croncheck_planner.specs.Planner.{JobShown, job_shown, planned_seen, with_shown}
use Rattle.croncheck_planner.proofs.planner.Planner.keep.Goals as goal

pub returns-clause-keeps : goal.returns-clause-keeps
returns-clause-keeps c =
    let self = c.args.self.now in
    let told = c.in_ok-planned.ensures in record {
      words = told.0;
      described = told.1;
      jobs = c.push_reserved.ensures.items ∙ ap (λ (items : List Schedule). items ++ c.schedule_of.result ∷ []) c.in_ok-reserve.ensures.items
          ∙ ap (λ (one : Schedule). self.schedules.items ++ one ∷ []) c.schedule_of.ensures;
      shown = c.in_ok-push_planned.ensures ∙ ap (λ (one : JobShown). with_shown (map planned_seen self.jobs.items) one)
          (told.2 ∙ ap (λ (above : List ℕ). job_shown self.asked c.args.number c.args.place.file.now c.args.place.line above told.0 (entry_seen c.args.entry.now)) c.as_slice-above.ensures.value);
    }
