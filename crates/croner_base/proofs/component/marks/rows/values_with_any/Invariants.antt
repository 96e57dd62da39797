use Rattle.std.proofs.Common.{◌%◌, ◌^◌}
use Rattle.croner_base.specs.Private.words.Counts.{ShowsMarked}
use Rattle.croner_base.specs.Private.words.Rows.{marks_in}
use Rattle.croner_base.proofs.component.marks.rows.values_with_any.Given as goal

abbrev pub invariant-loop-k : goal.invariant-loop-k
invariant-loop-k l = ShowsMarked (marks_in l.words l.max l.supported) (l.bits % 2 ^ l.k) l.i l.found
