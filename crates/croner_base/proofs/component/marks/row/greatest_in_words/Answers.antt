use Rattle.std.proofs.Common.{arith, ◌≡◌, ◌<◌, ◌+◌, ◌*◌, ◌^◌, ◌-◌, get_or, subst}
use Rattle.std.proofs.lemmas.Nat.{and_le_l}
use Rattle.croner_base.proofs.words.WordSearch.{HasNoneDown, word_of_greatest}
use Rattle.croner_base.proofs.component.marks.row.greatest_in_words.Goals as goal

pub returns-then-rest-ne0 : goal.returns-then-rest-ne0
returns-then-rest-ne0 c =
    let small : get_or c.args.row.now (c.loop-i.i - 1) 0 < 2 ^ 64 = (c.type_inv.row (c.loop-i.i - 1)).fits in
    let e : c.loop-i.i ≡ c.loop-i.i - 1 + 1 = omega arith in
    word_of_greatest _ _ _ _ _ (subst (λ i. HasNoneDown c.args.row.now (i * 64) c.args.value) e c.loop-i.invariant.none)
    (c.loop-i.invariant.masks c.loop-i-test.true) (omega arith) (omega (arith, and_le_l (get_or c.args.row.now (c.loop-i.i - 1) 0) c.loop-i.mask)) (omega arith)
