use Rattle.std.proofs.Common.{◌≡◌}
use Rattle.std.specs.List.{fold}
use Rattle.croner_base.specs.Written.{set_writes}
use Rattle.croner_base.proofs.component.marks.Marks.hash_set.Given as goal

abbrev pub invariant-loop-i : goal.invariant-loop-i
invariant-loop-i g l = l.state ≡ fold g.H.Hasher.write l.initial.state (set_writes l.self.marks l.i l.k)
