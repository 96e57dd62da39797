use Rattle.std.proofs.Common.{◌≡◌, ◌+◌, ◌*◌, ◌%◌, ◌<◌, length}
use Rattle.croner_base.specs.Private.words.Marked.{Before, Stepped}
use Rattle.croner_base.specs.Private.words.Masks.{TurnsRow}
use Rattle.croner_base.proofs.component.marks.steps.mark_words.Given as goal

abbrev pub invariant-loop-i : goal.invariant-loop-i
invariant-loop-i l = record {
  rows : length l.words ≡ length l.fn.words;
  near : l.place < l.step;
  next : (l.i * 64 + l.place) % l.step ≡ l.first % l.step;
  marked : TurnsRow 1 l.fn.words l.words l.start (Before (Stepped l.first l.step) (l.i * 64));
}
