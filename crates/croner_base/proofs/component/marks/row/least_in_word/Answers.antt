use Rattle.std.proofs.Common.{arith, ℕ, [], ◌∷◌, ◌-◌, ◌*◌, ◌%◌, ◌^◌}
use Rattle.std.proofs.lemmas.Nat.{and_le_l}
use Rattle.croner_base.proofs.words.WordSearch.{first_mask, past_row, word_of_none, word_of_least}
use Rattle.croner_base.proofs.component.marks.row.least_in_word.Goals as goal

pub returns-then-rest-eq0 : goal.returns-then-rest-eq0
returns-then-rest-eq0 c = past_row (c.args.word ∷ []) c.args.value 1
    (word_of_none (c.args.word ∷ []) _ 0 _ (λ v above below. absurd (omega arith))
    (first_mask c.args.value 0 c.args.value (omega arith) (omega arith)) c.if-rest-eq0.true) (omega arith)

pub returns : goal.returns
returns c =
    let mask : ℕ = (2 ^ 64 - 1) * 2 ^ c.args.value % 2 ^ 64 in
    word_of_least (c.args.word ∷ []) c.args.value 0 mask _ (λ v above below. absurd (omega arith))
    (first_mask c.args.value 0 c.args.value (omega arith) (omega arith)) (omega arith) (omega (arith, and_le_l c.args.word mask)) (omega arith)
