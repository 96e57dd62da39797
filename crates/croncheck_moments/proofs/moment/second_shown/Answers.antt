use Rattle.std.proofs.Common.{ℤ, Some, w64, FitsSigned, rules, sym, subst}
use Rattle.std.proofs.lemmas.Int.{to_z-of_z}
use Rattle.jiff.specs.ZoneView.{plain_zone}
use Rattle.jiff_core.specs.declared.Offset.{Offset}
use Rattle.jiff_core.specs.declared.civil.datetime.DateTime.{DateTime}
use Rattle.jiff_tz.specs.Ambiguous.{IsInstantAt, earlier_offset, later_offset}
use Rattle.jiff_tz.specs.Zone.{ambiguous_at}
use Rattle.croncheck_moments.specs.Moment.{IsShownIn}
use Rattle.croncheck_moments.proofs.Moments.{at_offset, shown_first, shown_second}
use Rattle.croncheck_moments.proofs.moment.second_shown.Goals as goal

pub returns-in-Some : goal.returns-in-Some
returns-in-Some c =
    let tz = plain_zone c.args.zone.now in
    let offsets = ambiguous_at tz c.args.civil in
    let second = c.in-Some.second in
    let fits : FitsSigned w64 second = search rules in
    let shown : IsShownIn tz c.args.civil (Some second) =
    shown_first tz c.args.civil c.second_if_shown.result second c.in-Some.is
    (c.second_if_shown.ensures (earlier_offset offsets) (at_offset (λ (d : DateTime) (o : Offset). IsInstantAt d o c.earlier.result) c.args.civil _ _ offsets earlier_offset
    c.to_ambiguous_timestamp-found.ensures.datetime c.to_ambiguous_timestamp-found.ensures.offsets c.earlier.ensures)) in
    subst (λ (s : ℤ). IsShownIn tz c.args.civil (Some s)) (sym (to_z-of_z w64 second fits)) shown

pub returns-in-None : goal.returns-in-None
returns-in-None c =
    let tz = plain_zone c.args.zone.now in
    let offsets = ambiguous_at tz c.args.civil in
    let same = c.to_ambiguous_timestamp-found.ensures.datetime in
    let given = c.to_ambiguous_timestamp-found.ensures.offsets in
    shown_second tz c.args.civil c.second_if_shown.result c.second_if_shown-in-None.result c.in-None.is
    (c.second_if_shown.ensures (earlier_offset offsets) (at_offset (λ (d : DateTime) (o : Offset). IsInstantAt d o c.earlier.result) c.args.civil _ _ offsets earlier_offset same given c.earlier.ensures))
    (c.second_if_shown-in-None.ensures (later_offset offsets) (at_offset (λ (d : DateTime) (o : Offset). IsInstantAt d o c.later.result) c.args.civil _ _ offsets later_offset same given c.later.ensures))
