use Rattle.std.proofs.Common.{◌≡◌, map}
use Rattle.croner_base.specs.Field.{values_between}
use Rattle.croner_pattern.specs.Questions.{first_yes, near_answer, near_answers}
use Rattle.croner_pattern.proofs.pattern.days.is_near_target.Given as goal

abbrev pub invariant-loop-target : goal.invariant-loop-target
invariant-loop-target l =
    first_yes (map (near_answer l.days l.length l.first l.day) (values_between l.target l.target-end)) ≡ near_answers l.days l.length l.first l.day
