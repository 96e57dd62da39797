use Rattle.std.proofs.Common.{arith, subst}
use Rattle.croner_base.specs.Private.words.Masks.{StandsHigher}
use Rattle.croner_base.proofs.words.StepMasks.{first_steps, next_steps, steps_ended, steps_in_one}
use Rattle.croner_base.proofs.component.marks.steps.mark_each.Goals as goal

pub returns-then-from-to-clause-marked : goal.returns-then-from-to-clause-marked
returns-then-from-to-clause-marked c =
    let done = c.mark_words-place.ensures in
    let masks = next_steps c.higher.result c.multiples-multiples.result c.args.first c.args.step c.from-to.result c.mark_words-place.result
    c.requires.step (omega (arith, c.from-from.ensures, c.if-from-to.true)) done.first done.next c.multiples-multiples.ensures c.higher.ensures in
    steps_ended c.args.words.now c.mark_words-place.new.words c.args.start c.args.first c.args.last c.args.step c.from-to.result c.higher.result c.mask_to.result
    c.from-to.ensures done.marked masks c.mask_to.ensures (omega (arith, done.rows, c.from-to.ensures, c.requires.within))

pub returns-else-from-to-clause-marked : goal.returns-else-from-to-clause-marked
returns-else-from-to-clause-marked c =
    let masks = first_steps c.higher-else-from-to.result c.multiples-multiples.result c.args.first c.args.step c.from-from.result c.from-from.ensures c.multiples-multiples.ensures
    (subst (λ p. StandsHigher c.higher-else-from-to.result c.multiples-multiples.result p) c.from-place.ensures c.higher-else-from-to.ensures) in
    steps_in_one c.args.words.now c.args.start c.args.first c.args.last c.args.step c.from-from.result c.higher-else-from-to.result c.mask_to-else-from-to.result
    c.from-from.ensures (omega (arith, c.if-from-to.false, c.from-to.ensures, c.from-from.ensures)) masks c.mask_to-else-from-to.ensures
    (omega (arith, c.from-from.ensures, c.requires.order, c.requires.within))
