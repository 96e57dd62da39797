use Rattle.std.proofs.Common.{rules, IsTrue}
use Rattle.croner.specs.search.PatternJob.{timetable_of}
use Rattle.croner.specs.Views.{job_of}
use Rattle.croner_zoned.proofs.ZoneRuns.{some_found, none_found, none_refused}
use Rattle.croner_zoned.proofs.time.ZoneTime.nearest_run.Goals as goal
use Rattle.croner_zoned.proofs.time.ZoneTime.nearest_run.Goals.{in-Ok, in-Err}

pub returns-clause-some : goal.returns-clause-some
returns-clause-some c =
    let t = c.args.self.now in
    let asked = timetable_of (job_of c.args.cron.now) in
    let inside : IsTrue c.is_in_window.result = search rules in
    let h = c.is_in_window.ensures.0 inside in
    elim c.match-found_or_refused.branch [
      | in-Ok w ↦
          let found = some_found t w.in-Ok.run' asked c.args.direction c.args.inclusive h w.in_window.result w.in-Ok.ensures.found w.in_window.ensures.some w.in_window.ensures.value in
          rw w.result-is found
      | in-Err w ↦ rw w.result-is tt
    ]

pub returns-clause-none : goal.returns-clause-none
returns-clause-none c =
    let t = c.args.self.now in
    let asked = timetable_of (job_of c.args.cron.now) in
    let inside : IsTrue c.is_in_window.result = search rules in
    let h = c.is_in_window.ensures.0 inside in
    elim c.match-found_or_refused.branch [
      | in-Ok w ↦
          let none = none_found t w.in-Ok.run' asked c.args.direction c.args.inclusive h w.in_window.result w.in-Ok.ensures.found w.in_window.ensures.some in
          rw w.result-is none
      | in-Err w ↦
          let none = none_refused t asked c.args.direction c.args.inclusive w.in-Err.field-0 h w.in-Err.ensures.refused in
          rw w.result-is none
    ]
