use Rattle.std.proofs.Common.{arith, refl, sym, subst}
use Rattle.std.proofs.lemmas.Int.{ints}
use Rattle.jiff.specs.ZonedView.{plain_zoned}
use Rattle.jiff.specs.declared.zoned.Zoned.{Zoned}
use Rattle.jiff_tz.specs.Ambiguous.{earlier_offset, later_offset}
use Rattle.jiff.specs.ZoneView.{plain_zone, ambiguous_instant, ambiguous_zone}
use Rattle.croner_base.specs.declared.time.value.Resolution.{Resolution}
use Rattle.croner_base.specs.Zone.{IsResolved}
use Rattle.croner_base.specs.ZonedValue.{value_moment, is_showing}
use Rattle.croner_base.proofs.clocks.ZonedResolved.{false_is_not_true, offset_choices, near_timestamp, whole_nanos, unheld_far, is_near_year-true, is_near_year-low, is_near_year-high, chosen_resolved}
use Rattle.croner_base.proofs.time.jiff_impl.zoned.resolution_of.Goals as goal
use Rattle.croner_base.proofs.time.jiff_impl.zoned.resolution_of.Goals.{then-year-via-then-year, then-year-via-else-year+then-year-gt-YEAR_LIMIT}

pub returns-clause-held : goal.returns-clause-held
returns-clause-held c =
    let near = is_near_year-true c.args.civil.date.year (omega (arith, ints)) (omega (arith, ints)) in
    ((λ h. near), (λ h. refl))

pub returns-clause-value : goal.returns-clause-value
returns-clause-value c =
    let a = c.to_ambiguous_zoned-ambiguous in
    let tz = (plain_zoned c.args.zoned.now).time_zone in
    let s = offset_choices tz (plain_zone c.time_zone.result) c.args.civil c.in-Ok.datetime
    (ambiguous_instant a.result).dt (ambiguous_instant a.result).offset (ambiguous_zone a.result)
    c.in-Ok-earlier.earlier c.in-Ok-later.later _ _
    c.time_zone.ensures a.ensures.datetime a.ensures.offsets a.ensures.zone
    (omega (arith, ints)) (omega (arith, ints)) c.in-Ok.ensures.value
    c.in-Ok-earlier.ensures.value c.in-Ok-earlier.ensures.zone c.in-Ok-later.ensures.value c.in-Ok-later.ensures.zone
    refl refl in
    subst (λ (r : Resolution Zoned). IsResolved value_moment (value_moment c.args.zoned.now).zone c.args.civil r) (sym c.those_showing.ensures)
    (chosen_resolved tz c.args.civil c.in-Ok.datetime c.in-Ok-earlier.earlier c.in-Ok-later.later
    (is_showing c.in-Ok-earlier.earlier c.in-Ok.datetime) (is_showing c.in-Ok-later.later c.in-Ok.datetime) s)

pub returns-then-year-clause-err : goal.returns-then-year-clause-err
returns-then-year-clause-err c =
    let tz = (plain_zoned c.args.zoned.now).time_zone in
    elim c.then-year.branch [
      | then-year-via-then-year w ↦ unheld_far tz c.args.civil (is_near_year-low c.args.civil.date.year (omega (arith, ints)))
      | then-year-via-else-year+then-year-gt-YEAR_LIMIT w ↦ unheld_far tz c.args.civil (is_near_year-high c.args.civil.date.year (omega (arith, ints)))
    ]

pub unreachable-requires-in-Err-earlier : goal.unreachable-requires-in-Err-earlier
unreachable-requires-in-Err-earlier c =
    let a = c.to_ambiguous_zoned-ambiguous in
    let n = whole_nanos _ _ c.in-Ok.ensures.value in
    let here = rw a.ensures.datetime at c.in-Err-earlier.ensures.succeeds in
    absurd (false_is_not_true (here.1 (near_timestamp c.args.civil c.in-Ok.datetime (earlier_offset (ambiguous_instant a.result).offset) (omega (arith, ints)) (omega (arith, ints)) n)))

pub unreachable-requires-in-Err-later : goal.unreachable-requires-in-Err-later
unreachable-requires-in-Err-later c =
    let a = c.to_ambiguous_zoned-ambiguous in
    let n = whole_nanos _ _ c.in-Ok.ensures.value in
    let here = rw a.ensures.datetime at c.in-Err-later.ensures.succeeds in
    absurd (false_is_not_true (here.1 (near_timestamp c.args.civil c.in-Ok.datetime (later_offset (ambiguous_instant a.result).offset) (omega (arith, ints)) (omega (arith, ints)) n)))
