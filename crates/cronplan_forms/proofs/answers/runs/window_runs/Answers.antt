use Rattle.std.proofs.Common.{rules}
use Rattle.std.specs.Prelude.{map}
use Rattle.cronplan_forms.proofs.RunSteps.{run_more, windows_of}
use Rattle.cronplan_forms.proofs.ToldOnce.{each_so_far}
use Rattle.cronplan_forms.proofs.answers.runs.window_runs.Goals as goal

pub loop-rest-preserved : goal.loop-rest-preserved
loop-rest-preserved c =
    run_more c.loop-rest.runs.items c.push.new.self.items _ c.loop-rest.rest.now c.split_at.result.1.now c.run_length.result _ c.in_ok-push.ensures.items (search rules)
    c.run_length.ensures.value c.split_at.ensures.front c.split_at.ensures.back c.loop-rest.invariant

pub returns-clause-each : goal.returns-clause-each
returns-clause-each c = each_so_far c.args.windows.now c.loop-rest.rest.now (map windows_of c.loop-rest.runs.items) c.loop-rest.invariant
