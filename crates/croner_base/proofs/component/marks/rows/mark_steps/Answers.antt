use Rattle.std.proofs.Common.{arith, ◌≡◌, ◌<◌, ◌*◌, ◌/◌, subst}
use Rattle.croner_base.specs.Private.words.Marked.{SteppedTo}
use Rattle.croner_base.specs.Private.words.Masks.{TurnsRow}
use Rattle.croner_base.specs.Private.words.Rows.{width, rows_below}
use Rattle.croner_base.proofs.words.RowPlaces.{place_within, word_within}
use Rattle.croner_base.proofs.words.TurnedMarks.{turns_row, none_past_turned}
use Rattle.croner_base.proofs.component.marks.rows.mark_steps.Goals as goal

pub mark_steps-requires-clause-within : goal.mark_steps-requires-clause-within
mark_steps-requires-clause-within c =
    let within : c.args.last / 64 < width c.args.max = word_within c.args.last c.args.max c.requires.within in
    omega (arith, c.place.ensures.value, c.requires.rows, place_within c.args.supported c.args.k (width c.args.max) (c.args.last / 64) c.requires.is_supported c.requires.modifier within)

pub returns-clause-marked : goal.returns-clause-marked
returns-clause-marked c =
    let start : c.place.result ≡ rows_below c.args.supported c.args.k * width c.args.max = omega (arith, c.place.ensures.value) in
    turns_row 1 _ _ _ _ _ _ c.requires.is_supported c.requires.modifier (λ v is. omega (arith, is.1, c.requires.within))
    (subst (λ p. TurnsRow 1 c.args.words.now c.mark_steps.new.words p (SteppedTo c.args.first c.args.last c.args.step)) start c.mark_steps.ensures.marked)

pub returns-clause-past : goal.returns-clause-past
returns-clause-past c = none_past_turned 1 _ _ c.args.max _ _ (λ v is. omega (arith, is.1, c.requires.within)) c.mark_steps.ensures.marked
