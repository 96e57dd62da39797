use Rattle.std.proofs.Common.{rules, ◌≡◌, ℕ, List, arith, ◌≤◌, ◌<◌, ◌+◌, ◌-◌, ◌^◌, ap, length, length-set, replicate, ◌∙◌, set, get_or, bit_and, bit_or}
use Rattle.std.proofs.lemmas.List.{places}
use Rattle.croner_base.proofs.words.TurnedMarks.{row_first, row_filled, row_last, row_done}
use Rattle.croner_base.proofs.component.marks.row.mark_between.Goals as goal

-- the words between the first and the last are full
pub returns-then-from-to-clause-marked : goal.returns-then-from-to-clause-marked
returns-then-from-to-clause-marked c =
    let at : ℕ = c.args.start + c.from-from.result in
    let k : ℕ = c.args.start + c.from-to.result - (at + 1) in
    let within : at < length c.args.words.now = omega (arith, c.from-from.ensures, c.requires.order, c.requires.within) in
    let words : List ℕ = set c.args.words.now at (bit_or (get_or c.args.words.now at 0) (bit_and c.mask_from.result c.mask_to.result)) in
    let reached : c.args.start + c.from-to.result < length words = omega (arith, length-set c.args.words.now at (bit_or (get_or c.args.words.now at 0) (bit_and c.mask_from.result c.mask_to.result)), c.from-to.ensures, c.requires.within) in
    let full : c.fill.new.self ≡ replicate k (2 ^ 64 - 1) = c.fill.ensures.after (λ y h. h) ∙ ap (λ n. replicate n (2 ^ 64 - 1)) (search (rules, places)) in
    let begun = row_first _ c.args.start c.args.last c.from-from.result _ _ (λ v. c.args.first ≤ v) (λ v is. omega (arith, is, c.from-from.ensures)) c.mask_from.ensures c.mask_to.ensures within in
    let filled = row_filled c.args.words.now words c.fill.new.self c.args.start c.args.last c.from-from.result c.from-to.result k (λ v. c.args.first ≤ v) c.if-from-to.true (omega (arith, c.from-to.ensures)) (λ v is. omega (arith, is, c.from-from.ensures)) reached (omega (arith, c.if-from-to.true)) full begun in
    row_done _ _ _ _ _ _ (omega (arith, c.from-to.ensures)) (row_last _ _ c.args.start c.args.last c.from-to.result _ (λ v. c.args.first ≤ v) (λ v is. omega (arith, is, c.from-from.ensures, c.if-from-to.true)) filled c.mask_to-then-from-to.ensures (search (rules, places)))

-- one word has the whole range
pub returns-else-from-to-clause-marked : goal.returns-else-from-to-clause-marked
returns-else-from-to-clause-marked c =
    let within : c.args.start + c.from-from.result < length c.args.words.now = omega (arith, c.from-from.ensures, c.requires.order, c.requires.within) in
    row_done _ _ _ _ _ _ (omega (arith, c.if-from-to.false, c.from-to.ensures)) (row_first _ _ _ _ _ _ (λ v. c.args.first ≤ v) (λ v is. omega (arith, is, c.from-from.ensures)) c.mask_from.ensures c.mask_to.ensures within)
