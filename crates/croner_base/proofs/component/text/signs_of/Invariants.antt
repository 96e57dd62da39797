use Rattle.std.proofs.Common.{◌≤◌, length}
use Rattle.croner_base.proofs.fields.SignPlaces.{SignsFrom}
use Rattle.croner_base.proofs.component.text.signs_of.Given as goal

abbrev pub invariant-loop-at : goal.invariant-loop-at
invariant-loop-at l = record {
  within : l.at ≤ length l.fn.text;
  signs : SignsFrom l.fn.text l.at l.signs;
}

abbrev pub decreases-loop-at : goal.decreases-loop-at
decreases-loop-at l = l.at
