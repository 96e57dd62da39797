use Rattle.std.proofs.Common.{◌<◌, ◌∙◌, length, w64, FitsSigned, rules, arith}
use Rattle.std.proofs.lemmas.Int.{to_z-of_z}
use Rattle.croncheck_often.proofs.CountedRuns.{seen-step}
use Rattle.croncheck_often.proofs.often.shortest_of.Goals as goal

pub loop-run-preserved : goal.loop-run-preserved
loop-run-preserved c =
    let inside : c.loop-run.run-index < length c.args.runs.now = omega arith in
    let fits : FitsSigned w64 c.second.result = search rules in
    seen-step c.args.runs.now c.loop-run.run-index c.run-item.result c.loop-run.before c.loop-run.shortest c.distance_of.result c.shorter_of-shortest.result _ inside
    c.run-item.is c.loop-run.invariant c.distance_of.ensures c.shorter_of-shortest.ensures (to_z-of_z w64 c.second.result fits ∙ c.second.ensures.value)
