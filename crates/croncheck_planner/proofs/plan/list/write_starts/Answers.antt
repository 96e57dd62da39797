use Rattle.std.proofs.Common.{◌<◌, ◌≤◌, ◌∙◌, pos, Some, length, get_or, w64, FitsSigned, refl, ap, rules}
use Rattle.std.proofs.lemmas.Int.{to_z-of_z}
use Rattle.cronplan.specs.declared.start.JobStart.{JobStart}
use Rattle.croncheck_planner.specs.PlanList.{labels, WritesNext}
use Rattle.croncheck_output.proofs.InTurn.{in_turn_next, in_turn_all}
use Rattle.croncheck_planner.proofs.plan.list.write_starts.Goals as goal

-- a start that stands where there is none
abbrev none_start : JobStart
none_start = record { second = pos 0; job = 0; count = 0; wall = pos 0 }

pub loop-k-preserved : goal.loop-k-preserved
loop-k-preserved g c =
    let starts = c.args.starts.now in
    let within : c.loop-k.k < length starts = search rules in
    let fits : FitsSigned w64 c.second_of.result = search rules in
    in_turn_next (WritesNext c.args.terms.now.settings.now c.args.terms.now.shared.now (labels c.args.jobs.now)) _ _ _ starts c.loop-k.k (get_or starts c.loop-k.k none_start) none_start
    within refl c.loop-k.invariant (c.in_ok-write_start.ensures, ap Some (to_z-of_z w64 c.second_of.result fits ∙ c.second_of.ensures))

pub returns : goal.returns
returns g c =
    let all : length c.args.starts.now ≤ c.loop-k.k = search rules in
    (c.loop-k.last, in_turn_all (WritesNext c.args.terms.now.settings.now c.args.terms.now.shared.now (labels c.args.jobs.now)) _ _ c.args.starts.now c.loop-k.k all c.loop-k.invariant)
