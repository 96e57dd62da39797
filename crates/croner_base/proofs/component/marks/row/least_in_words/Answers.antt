use Rattle.std.proofs.Common.{arith, ◌<◌, ◌^◌, get_or}
use Rattle.std.proofs.lemmas.Nat.{and_le_l}
use Rattle.croner_base.proofs.words.WordSearch.{word_of_least}
use Rattle.croner_base.proofs.component.marks.row.least_in_words.Goals as goal

pub returns-then-rest-ne0 : goal.returns-then-rest-ne0
returns-then-rest-ne0 c =
    let small : get_or c.args.row.now c.loop-i.i 0 < 2 ^ 64 = (c.type_inv.row c.loop-i.i).fits in
    word_of_least _ _ _ _ _ c.loop-i.invariant.none c.loop-i.invariant.masks (omega arith)
    (omega (arith, and_le_l (get_or c.args.row.now c.loop-i.i 0) c.loop-i.mask)) (omega arith)
