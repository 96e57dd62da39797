use Rattle.std.proofs.Common.{◌≡◌, ◌≤◌, ◌*◌, length}
use Rattle.croner_base.specs.Field.{room}
use Rattle.croner_base.specs.Private.words.Marked.{is_set}
use Rattle.croner_base.proofs.words.Counting.{values_to}
use Rattle.croner_base.proofs.component.marks.Marks.count_from.Given as goal

abbrev pub invariant-loop-i : goal.invariant-loop-i
invariant-loop-i l = record {
  few : l.count ≤ l.i * 64;
  counted : l.count ≡ length (values_to (is_set l.bits l.self) l.first (room l.self.max) (l.i * 64));
}
