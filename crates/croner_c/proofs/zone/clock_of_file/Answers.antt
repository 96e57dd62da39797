use Rattle.std.proofs.Common.{sym, subst, refl, Ok, Err, FitsSigned, w64}
use Rattle.std.proofs.lemmas.Int.{to_z-of_z}
use Rattle.jiff.specs.ZoneView.{plain_zone}
use Rattle.jiff_tz.specs.declared.timezone.TimeZone.{TimeZone}
use Rattle.croner_c.specs.Zones.{IsFileZone}
use Rattle.croner_c.specs.declared.status.Reason.TheVariants as reasons
use Rattle.croner_c.proofs.Zones.{no_file}
use Rattle.croner_c.proofs.zone.clock_of_file.Goals as goal

pub returns-in-Ok : goal.returns-in-Ok
returns-in-Ok c =
    let f : FitsSigned w64 c.args.first = c.ranges.first in
    let l : FitsSigned w64 c.args.last = c.ranges.last in
    let of_file = subst (λ (z : TimeZone). IsFileZone c.args.bytes.now z) (sym c.tzif.ensures) (c.in-Ok.ensures.value, c.in-Ok.ensures.agrees) in
    (Ok (plain_zone c.tzif.result), of_file, simp to_z-of_z at c.clock_of_zone.ensures)

pub returns-in-Err-Tzif : goal.returns-in-Err-Tzif
returns-in-Err-Tzif c =
    (Err reasons.BadZone, no_file c.args.bytes.now c.in-Err-Tzif.field-0-0 c.in-Err-Tzif.field-0 c.in-Err-Tzif.field-0-is c.in-Err-Tzif.ensures.err, refl)

pub returns-in-Err : goal.returns-in-Err
returns-in-Err c = (Err reasons.OutOfMemory, tt, refl)
