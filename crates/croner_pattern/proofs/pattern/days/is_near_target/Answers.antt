use Rattle.std.proofs.Common.{ap, Some, ◌∙◌, arith}
use Rattle.croner_pattern.specs.Questions.{near_answer}
use Rattle.croner_pattern.proofs.questions.QuestionsInTurn.{turn-yes, turn-no}
use Rattle.croner_pattern.proofs.pattern.days.is_near_target.Goals as goal

pub returns-then-branch : goal.returns-then-branch
returns-then-branch c =
    turn-yes (near_answer c.args.days.now c.args.length c.args.first c.args.day) c.loop-target.target c.last_target-target-end.result _ (omega arith) c.loop-target.invariant (c.in_ok-is_target.ensures ∙ ap Some c.if-branch.true)

pub loop-target-preserved : goal.loop-target-preserved
loop-target-preserved c =
    turn-no (near_answer c.args.days.now c.args.length c.args.first c.args.day) c.loop-target.target c.last_target-target-end.result _ (omega arith) c.loop-target.invariant (c.in_ok-is_target.ensures ∙ ap Some c.if-branch.false)
