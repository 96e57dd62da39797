use Rattle.std.proofs.Common.{◌*◌, ap, ◌∙◌}
use Rattle.std.specs.Hash as fed
use Rattle.std.specs.Hash.{fed_then}
use Rattle.std.specs.List.{fold}
use Rattle.croner_base.specs.Written.{digits_of, set_writes}
use Rattle.croner_base.proofs.words.Hashing.{set_writes-more}
use Rattle.croner_base.proofs.component.marks.Marks.hash_set.Goals as goal

pub loop-i-preserved : goal.loop-i-preserved
loop-i-preserved g c =
    fed_then g.H.Hasher.write c.args.state.now c.loop-i.state c.hash.new.state (set_writes c.args.self.now.marks c.loop-i.i c.args.k) (fed.u64 (digits_of c.args.self.now.marks c.args.k (c.loop-i.i * 64) 64))
    c.loop-i.invariant (c.hash.ensures ∙ ap (λ n. g.H.Hasher.write c.loop-i.state (fed.le_bytes 8 n)) c.digits.ensures)
    ∙ ap (fold g.H.Hasher.write c.args.state.now) (set_writes-more c.args.self.now.marks c.loop-i.i c.args.k)
