use Rattle.std.proofs.Common.{arith, ◌≡◌, ◌*◌, ◌%◌, ap, sym, ◌∙◌, subst, length-set}
use Rattle.croner_base.specs.Private.words.Marked.{Before, Stepped}
use Rattle.croner_base.specs.Private.words.Masks.{MasksMultiples, StandsHigher, TurnsRow}
use Rattle.croner_base.proofs.words.StepMasks.{first_steps, next_steps, steps_begun, first_place, next_place}
use Rattle.croner_base.proofs.words.TurnedMarks.{row_whole}
use Rattle.croner_base.proofs.component.marks.steps.mark_words.Goals as goal

pub loop-i-init : goal.loop-i-init
loop-i-init c =
    let step : c.from-step.result ≡ c.args.step = c.from-step.ensures in
    let place : c.from-place.result ≡ c.args.first % 64 = c.from-place.ensures in
    let all : MasksMultiples c.args.multiples c.from-step.result = subst (λ s. MasksMultiples c.args.multiples s) (sym step) c.requires.multiples in
    let masks = first_steps c.higher.result c.args.multiples c.args.first c.from-step.result c.from-from.result c.from-from.ensures all
    (subst (λ p. StandsHigher c.higher.result c.args.multiples p) place c.higher.ensures) in
    record {
      rows = length-set c.args.words.now _ _;
      near = c.next_place-place.ensures.first;
      next = first_place c.args.first c.from-step.result c.from-from.result c.next_place-place.result c.from-from.ensures
          (c.next_place-place.ensures.next ∙ ap (λ p. p % c.from-step.result % c.from-step.result) place);
      marked = steps_begun c.args.words.now c.args.start c.args.first c.from-step.result c.from-from.result c.higher.result c.from-from.ensures masks
          (omega (arith, c.from-from.ensures, c.requires.order, c.requires.within));
    }

pub loop-i-preserved : goal.loop-i-preserved
loop-i-preserved c =
    let done = c.loop-i.invariant in
    let all : MasksMultiples c.args.multiples c.from-step.result = subst (λ s. MasksMultiples c.args.multiples s) (sym c.from-step.ensures) c.requires.multiples in
    let masks = next_steps c.higher-in-loop-i.result c.args.multiples c.args.first c.from-step.result c.loop-i.i c.loop-i.place
    (omega (arith, done.near)) (omega (arith, c.from-from.ensures, c.loop-i.auto.i)) done.near done.next all c.higher-in-loop-i.ensures in
    record {
      rows = length-set c.loop-i.words _ _ ∙ done.rows;
      near = c.next_place-place-in-loop-i.ensures.first;
      next = next_place c.args.first c.from-step.result c.loop-i.i c.loop-i.place c.next_place-place-in-loop-i.result done.next c.next_place-place-in-loop-i.ensures.next;
      marked = row_whole c.args.words.now c.loop-i.words c.args.start c.loop-i.i c.higher-in-loop-i.result (Stepped c.args.first c.from-step.result) done.marked masks
          (omega (arith, done.rows, c.loop-i-test.true, c.requires.within));
    }

pub returns-clause-marked : goal.returns-clause-marked
returns-clause-marked c =
    let end : c.loop-i.i ≡ c.args.to = omega (arith, c.loop-i.auto.i, c.loop-i.auto.i-end, c.loop-i-test.false, c.requires.order, c.from-from.ensures) in
    subst (λ s. TurnsRow 1 c.args.words.now c.loop-i.words c.args.start (Before (Stepped c.args.first s) (c.args.to * 64))) c.from-step.ensures
    (subst (λ i. TurnsRow 1 c.args.words.now c.loop-i.words c.args.start (Before (Stepped c.args.first c.from-step.result) (i * 64))) end c.loop-i.invariant.marked)
