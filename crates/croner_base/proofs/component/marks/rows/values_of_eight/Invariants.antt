use Rattle.std.proofs.Common.{◌≡◌, ◌<◌, ◌≤◌, ◌%◌, ◌^◌, ℕ}
use Rattle.std.specs.Int.{bit_at}
use Rattle.croner_base.specs.Field.{room}
use Rattle.croner_base.specs.Private.words.Counts.{ShowsMarked}
use Rattle.croner_base.specs.Private.words.Kept.{NonePast}
use Rattle.croner_base.specs.Private.words.Rows.{marks_in}
use Rattle.croner_base.proofs.component.marks.rows.values_of_eight.Given as goal

abbrev pub invariant-loop-k : goal.invariant-loop-k
invariant-loop-k l = record {
  values : ShowsMarked (marks_in l.words l.max 255) (l.bits % 2 ^ l.k) 0 l.found;
  past : NonePast l.words l.max → (b : ℕ) → b < 64 → room l.max ≤ b → bit_at l.found b ≡ 0;
}
