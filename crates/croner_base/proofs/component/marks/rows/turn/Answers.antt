use Rattle.std.proofs.Common.{arith, ◌≡◌, ◌*◌}
use Rattle.croner_base.specs.Private.words.Rows.{rows_below, width}
use Rattle.croner_base.proofs.words.TurnedMarks.{row_on, row_off, turns_row, none_past_turned}
use Rattle.croner_base.proofs.component.marks.rows.turn.Goals as goal

pub returns-then-on-clause-turned : goal.returns-then-on-clause-turned
returns-then-on-clause-turned c =
    rw c.if-on.true (turns_row 1 _ _ _ _ _ _ c.requires.is_supported c.requires.modifier (λ v e. omega (arith, e, c.requires.within))
    (rw (c.place-place.ensures.value, c.from.ensures) (row_on _ _ _ (omega arith))))

pub returns-else-on-clause-turned : goal.returns-else-on-clause-turned
returns-else-on-clause-turned c =
    rw c.if-on.false (turns_row 0 _ _ _ _ _ _ c.requires.is_supported c.requires.modifier (λ v e. omega (arith, e, c.requires.within))
    (rw (c.place-place.ensures.value, c.from.ensures) (row_off _ _ _ (omega arith))))

pub returns-then-on-clause-past : goal.returns-then-on-clause-past
returns-then-on-clause-past c = none_past_turned 1 _ _ c.args.max (rows_below c.args.supported c.args.k * width c.args.max) (λ v. v ≡ c.args.value) (λ v e. omega (arith, e, c.requires.within))
    (rw (c.place-place.ensures.value, c.from.ensures) (row_on _ _ _ (omega arith)))

pub returns-else-on-clause-past : goal.returns-else-on-clause-past
returns-else-on-clause-past c = none_past_turned 0 _ _ c.args.max (rows_below c.args.supported c.args.k * width c.args.max) (λ v. v ≡ c.args.value) (λ v e. omega (arith, e, c.requires.within))
    (rw (c.place-place.ensures.value, c.from.ensures) (row_off _ _ _ (omega arith)))
