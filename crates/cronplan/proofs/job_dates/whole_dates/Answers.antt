use Rattle.std.proofs.Common.{◌≡◌, ◌∙◌, ℤ, pos, ◌+ℤ◌, ◌-ℤ◌, ap, sym, subst, refl, rules, arith, w64, to_z, of_z, FitsSigned}
use Rattle.std.proofs.lemmas.Int.{ints, to_z-of_z}
use Rattle.croner_base.specs.TableZone.{table_zone}
use Rattle.cronplan.specs.declared.job_dates.DateRange.{DateRange}
use Rattle.cronplan.specs.Counts.{date_of}
use Rattle.cronplan.specs.Private.CountedPlan.{IsDateNumber}
use Rattle.cronplan.proofs.DayCells.{date_after, date_before}
use Rattle.cronplan.proofs.SpanSeconds.{span_at}
use Rattle.cronplan.proofs.job_dates.whole_dates.Goals as goal

-- a date beside the one that the clock shows
after : (w d : ℤ) → FitsSigned w64 w → FitsSigned w64 d → d ≡ date_of (to_z w64 (of_z w64 w)) → to_z w64 (of_z w64 (to_z w64 (of_z w64 d) +ℤ pos 1)) ≡ date_of w +ℤ pos 1
after w d fits small is =
    let date : d ≡ date_of w = is ∙ ap date_of (to_z-of_z w64 w fits) in
    let number : IsDateNumber (date_of w +ℤ pos 1) = date_after w (date_of w +ℤ pos 1) fits refl in
    let same : to_z w64 (of_z w64 d) ≡ d = to_z-of_z w64 d small in
    omega (arith, ints, date, same, number.low, number.high)

before : (w d : ℤ) → FitsSigned w64 w → FitsSigned w64 d → d ≡ date_of (to_z w64 (of_z w64 w)) → to_z w64 (of_z w64 (to_z w64 (of_z w64 d) -ℤ pos 1)) ≡ date_of w -ℤ pos 1
before w d fits small is =
    let date : d ≡ date_of w = is ∙ ap date_of (to_z-of_z w64 w fits) in
    let number : IsDateNumber (date_of w -ℤ pos 1) = date_before w (date_of w -ℤ pos 1) fits refl in
    let same : to_z w64 (of_z w64 d) ≡ d = to_z-of_z w64 d small in
    omega (arith, ints, date, same, number.low, number.high)

pub returns-clause-first : goal.returns-clause-first
returns-clause-first c =
    let wall : FitsSigned w64 c.wall_at.result = search rules in
    let date : FitsSigned w64 c.date_of.result = search rules in
    subst IsDateNumber (sym (after c.wall_at.result c.date_of.result wall date c.date_of.ensures)) (date_after c.wall_at.result _ wall refl)

pub returns-clause-last : goal.returns-clause-last
returns-clause-last c =
    let wall : FitsSigned w64 c.wall_at-2.result = search rules in
    let date : FitsSigned w64 c.date_of-2.result = search rules in
    subst IsDateNumber (sym (before c.wall_at-2.result c.date_of-2.result wall date c.date_of-2.ensures)) (date_before c.wall_at-2.result _ wall refl)

pub returns-clause-dates : goal.returns-clause-dates
returns-clause-dates c =
    let z = table_zone c.args.table.now in
    let first : ℤ = c.args.span.first in
    let end : ℤ = c.args.span.end in
    let spans = span_at first end c.args.span.held in
    let first_fits : FitsSigned w64 first = search rules in
    let end_fits : FitsSigned w64 end = search rules in
    let at_first : to_z w64 (of_z w64 (to_z w64 (of_z w64 first) -ℤ pos 1)) ≡ first -ℤ pos 1 =
    omega (arith, ints, to_z-of_z w64 first first_fits, spans.late, spans.order, spans.early) in
    let wall : FitsSigned w64 c.wall_at.result = search rules in
    let date : FitsSigned w64 c.date_of.result = search rules in
    let wall-2 : FitsSigned w64 c.wall_at-2.result = search rules in
    let date-2 : FitsSigned w64 c.date_of-2.result = search rules in
    let low = after c.wall_at.result c.date_of.result wall date c.date_of.ensures ∙ ap (λ (w : ℤ). date_of w +ℤ pos 1) (c.wall_at.ensures ∙ ap z.reads at_first) in
    let high = before c.wall_at-2.result c.date_of-2.result wall-2 date-2 c.date_of-2.ensures
    ∙ ap (λ (w : ℤ). date_of w -ℤ pos 1) (c.wall_at-2.ensures ∙ ap z.reads (to_z-of_z w64 end end_fits)) in
    let one : ℤ → ℤ → DateRange = λ a b. record { first = a; last = b } in
    ap (λ (i : ℤ). one i (to_z w64 (of_z w64 (to_z w64 (of_z w64 c.date_of-2.result) -ℤ pos 1)))) low
    ∙ ap (λ (i : ℤ). one (date_of (z.reads (first -ℤ pos 1)) +ℤ pos 1) i) high
