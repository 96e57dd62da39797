use Rattle.std.proofs.Common.{◌≡◌}
use Rattle.std.specs.List.{fold}
use Rattle.croner_base.specs.Private.words.Rows.{width}
use Rattle.croner_base.proofs.words.Hashing.{sets_below}
use Rattle.croner_base.proofs.component.marks.Marks.hash_sets.Given as goal

abbrev pub invariant-loop-k : goal.invariant-loop-k
invariant-loop-k g l = l.state ≡ fold g.H.Hasher.write l.initial.state (sets_below l.self.marks (width l.self.max) l.self.supported l.k)
