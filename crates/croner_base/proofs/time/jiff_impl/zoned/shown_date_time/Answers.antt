use Rattle.std.proofs.Common.{◌≡◌, pos, rules, sym, ◌∙◌, ap, FitsSigned, w64}
use Rattle.std.proofs.lemmas.Int.{to_z-of_z}
use Rattle.std.specs.Int.{int_div_euclid}
use Rattle.jiff.specs.ZonedView.{plain_zoned}
use Rattle.jiff.specs.ZoneView.{plain_zone}
use Rattle.jiff_core.specs.declared.timestamp.Timestamp.{Timestamp}
use Rattle.jiff_tz.specs.declared.timezone.TimeZone.{TimeZone}
use Rattle.croner_base.specs.ZonedZone.{zone_reads}
use Rattle.croner_base.proofs.clocks.ZonedMoments.{shown_is, reading-zoned}
use Rattle.croner_base.proofs.time.jiff_impl.zoned.shown_date_time.Goals as goal

pub returns : goal.returns
returns c =
    let f : FitsSigned w64 c.floor_second-second.result = search rules in
    let v = simp to_z-of_z at c.in-Ok.ensures.value in
    let z = plain_zoned c.args.zoned.now in
    let second : c.floor_second-second.result ≡ int_div_euclid z.timestamp.nanosecond (pos 1_000_000_000) =
    c.floor_second-second.ensures ∙ ap (λ (t : Timestamp). int_div_euclid t.nanosecond (pos 1_000_000_000)) (c.to_plain.ensures ∙ c.timestamp.ensures) in
    shown_is (plain_zone c.time_zone.result) c.to_datetime.result c.floor_second-second.result _ v c.in-Ok.whole.in_range c.to_datetime.ensures
    ∙ ap (λ (tz : TimeZone). zone_reads tz c.floor_second-second.result) c.time_zone.ensures
    ∙ ap (zone_reads z.time_zone) second
    ∙ sym (reading-zoned z)
