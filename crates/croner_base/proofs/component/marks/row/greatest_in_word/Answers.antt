use Rattle.std.proofs.Common.{arith, ℕ, [], ◌∷◌, ◌-◌, ◌/◌, ◌^◌}
use Rattle.std.proofs.lemmas.Nat.{and_le_l}
use Rattle.croner_base.proofs.words.WordSearch.{last_mask, word_of_none_down, word_of_greatest}
use Rattle.croner_base.proofs.component.marks.row.greatest_in_word.Goals as goal

pub returns-then-rest-eq0 : goal.returns-then-rest-eq0
returns-then-rest-eq0 c = λ v below.
    word_of_none_down (c.args.word ∷ []) c.args.value 0 _ (λ v below above. absurd (omega arith))
    (last_mask c.args.value 0 (63 - c.args.value) (omega arith) (omega arith)) c.if-rest-eq0.true v below (omega arith)

pub returns : goal.returns
returns c =
    let mask : ℕ = (2 ^ 64 - 1) / 2 ^ (63 - c.args.value) in
    word_of_greatest (c.args.word ∷ []) c.args.value 0 mask _ (λ v below above. absurd (omega arith))
    (last_mask c.args.value 0 (63 - c.args.value) (omega arith) (omega arith)) (omega arith) (omega (arith, and_le_l c.args.word mask)) (omega arith)
