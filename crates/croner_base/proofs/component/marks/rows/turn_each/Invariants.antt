use Rattle.std.proofs.Common.{◌≡◌, ◌%◌, ◌^◌, length}
use Rattle.croner_base.specs.Private.words.Kept.{NonePast}
use Rattle.croner_base.specs.Private.words.Marked.{Turns, digit}
use Rattle.croner_base.specs.Private.words.Rows.{marks_in}
use Rattle.croner_base.proofs.component.marks.rows.turn_each.Given as goal

abbrev pub invariant-loop-k : goal.invariant-loop-k
invariant-loop-k l = record {
  rows : length l.words ≡ length l.initial.words;
  done : Turns (digit l.on) (marks_in l.initial.words l.max l.supported) (marks_in l.words l.max l.supported) (l.bits % 2 ^ l.k) (λ v. v ≡ l.value);
  past : NonePast l.initial.words l.max → NonePast l.words l.max;
}
