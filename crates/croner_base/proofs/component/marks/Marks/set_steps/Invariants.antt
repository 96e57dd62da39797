use Rattle.std.proofs.Common.{◌%◌, ◌^◌}
use Rattle.croner_base.specs.Private.words.Marked.{SteppedTo, Turns}
use Rattle.croner_base.proofs.component.marks.Marks.set_steps.Given as goal

abbrev pub invariant-loop-k : goal.invariant-loop-k
invariant-loop-k l = Turns 1 l.initial.self l.self (l.bits % 2 ^ l.k) (SteppedTo l.first l.last l.step)
