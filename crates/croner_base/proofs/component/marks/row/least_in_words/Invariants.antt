use Rattle.std.proofs.Common.{◌*◌}
use Rattle.croner_base.specs.Private.words.Masks.{MasksFrom}
use Rattle.croner_base.proofs.words.WordSearch.{HasNone}
use Rattle.croner_base.proofs.component.marks.row.least_in_words.Given as goal

abbrev pub invariant-loop-i : goal.invariant-loop-i
invariant-loop-i l = record {
  masks : MasksFrom l.mask l.value l.i;
  none : HasNone l.row l.value (l.i * 64);
}
