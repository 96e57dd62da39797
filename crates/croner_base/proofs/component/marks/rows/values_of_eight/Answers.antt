use Rattle.std.proofs.Common.{arith, sym, ◌∙◌}
use Rattle.std.proofs.lemmas.Nat.Bits.{bit_at_or}
use Rattle.croner_base.specs.Private.words.Rows.{marks_in}
use Rattle.croner_base.proofs.words.Counting.{any_skip, any_more, eight_bit}
use Rattle.croner_base.proofs.words.Sums.{sums_bit}
use Rattle.croner_base.proofs.component.marks.rows.values_of_eight.Goals as goal
use Rattle.croner_base.proofs.component.marks.rows.values_of_eight.Goals.{then-bits-k-eq1, else-bits-k-eq1}

pub loop-k-preserved : goal.loop-k-preserved
loop-k-preserved c = elim c.if-bits-k-eq1.branch [
  | then-bits-k-eq1 w ↦ record {
    values = rw w.found-is (any_more (marks_in c.args.words.now c.args.max 255) _ 0 _ c.loop-k.k _ w.if-bits-k-eq1.true c.loop-k.invariant.values
        (λ b h here. eight_bit c.args.words.now c.args.max c.loop-k.k b c.requires c.loop-k-test.true h ∙ sym (sums_bit c.args.words.now c.args.max 255 _ c.loop-k.k here c.loop-k-test.true)));
    past = rw w.found-is (λ none b h past. bit_at_or c.loop-k.found _ b ∙ omega (arith, c.loop-k.invariant.past none b h past, none c.loop-k.k b h past));
  }
  | else-bits-k-eq1 w ↦ record {
    values = rw w.found-is (any_skip (marks_in c.args.words.now c.args.max 255) _ 0 _ c.loop-k.k w.if-bits-k-eq1.false c.loop-k.invariant.values);
    past = rw w.found-is c.loop-k.invariant.past;
  }
]
