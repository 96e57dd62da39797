use Rattle.std.proofs.Common.{arith, ◌≡◌, ◌≢◌, true, false, ap, sym, ◌∙◌, eq-eqb}
use Rattle.std.specs.Hash.{fed_then}
use Rattle.std.specs.Int.{bit_at}
use Rattle.std.specs.List.{fold}
use Rattle.std.proofs.lemmas.Bool.{ne_eqb}
use Rattle.std.proofs.lemmas.List.{append-nil}
use Rattle.std.proofs.lemmas.Nat.Bits.{shr_and_one}
use Rattle.croner_base.specs.Private.words.Rows.{width}
use Rattle.croner_base.specs.Written.{set_writes}
use Rattle.croner_base.proofs.words.Hashing.{sets_below, sets_below-more, sets_below-all}
use Rattle.croner_base.proofs.component.marks.Marks.hash_sets.Goals as goal
use Rattle.croner_base.proofs.component.marks.Marks.hash_sets.Goals.{then-self-k-eq1, else-self-k-eq1}

pub loop-k-preserved : goal.loop-k-preserved
loop-k-preserved g c =
    let m = c.args.self.now in
    let same : c.self.inside.supported ≡ c.args.self.now.supported = ap (λ f. f.supported) c.self.view_is in
    elim c.if-self-k-eq1.branch [
      | then-self-k-eq1 w ↦
          let one : bit_at m.supported c.loop-k.k ≡ 1 = ap (λ s. bit_at s c.loop-k.k) (sym same) ∙ sym (shr_and_one c.self.inside.supported c.loop-k.k) ∙ w.if-self-k-eq1.true in
          w.state-is
          ∙ fed_then g.H.Hasher.write c.args.state.now c.loop-k.state w.hash_set.new.state (sets_below m.marks (width m.max) m.supported c.loop-k.k) (set_writes m.marks (width m.max) c.loop-k.k) c.loop-k.invariant w.hash_set.ensures
          ∙ ap (fold g.H.Hasher.write c.args.state.now) (sets_below-more m.marks (width m.max) m.supported c.loop-k.k true (eq-eqb _ 1 one))
      | else-self-k-eq1 w ↦
          let off : bit_at m.supported c.loop-k.k ≢ 1 = λ e. w.if-self-k-eq1.false (shr_and_one c.self.inside.supported c.loop-k.k ∙ ap (λ s. bit_at s c.loop-k.k) same ∙ e) in
          w.state-is ∙ c.loop-k.invariant
          ∙ ap (fold g.H.Hasher.write c.args.state.now) (sym (append-nil _) ∙ sets_below-more m.marks (width m.max) m.supported c.loop-k.k false (ne_eqb _ 1 off))
    ]

pub returns : goal.returns
returns g c =
    let end : c.loop-k.k ≡ 8 = omega arith in
    c.loop-k.invariant ∙ ap (fold g.H.Hasher.write c.args.state.now) (sets_below-all c.args.self.now.marks c.args.self.now.max c.args.self.now.supported c.loop-k.k end)
