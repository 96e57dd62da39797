use Rattle.std.proofs.Common.{ℕ, ◌<◌, get_or}
use Rattle.croner_base.proofs.words.Differing.{ShowsBelow}
use Rattle.croner_base.proofs.component.marks.Marks.differences.Given as goal

abbrev pub invariant-loop-k : goal.invariant-loop-k
invariant-loop-k l = record {
  shows : ShowsBelow l.self l.other l.i l.found l.k;
  first_small : 0 < l.k → (v : ℕ) → get_or l.self.marks v 0 < 256;
  second_small : 0 < l.k → (v : ℕ) → get_or l.other.marks v 0 < 256;
}
