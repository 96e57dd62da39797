use Rattle.std.proofs.Common.{inr, refl, Ok, Err, FitsSigned, w64}
use Rattle.std.proofs.lemmas.Int.{to_z-of_z}
use Rattle.std.proofs.lemmas.Bool.{false≢true}
use Rattle.jiff.specs.ZoneView.{plain_zone}
use Rattle.jiff_tz.specs.PosixReader.{read_whole}
use Rattle.croner_c.specs.declared.status.Reason.TheVariants as reasons
use Rattle.croner_c.proofs.Zones.{none_of}
use Rattle.croner_c.proofs.zone.clock_of_rule.Goals as goal

pub returns-in-Ok : goal.returns-in-Ok
returns-in-Ok c =
    let f : FitsSigned w64 c.args.first = c.ranges.first in
    let l : FitsSigned w64 c.args.last = c.ranges.last in
    λ utf8. (Ok (plain_zone c.in-Ok.zone), (utf8, c.in-Ok.ensures.value), simp to_z-of_z at c.clock_of_zone.ensures)

pub returns-in-Err : goal.returns-in-Err
returns-in-Err c = λ utf8. (Err reasons.BadZone, inr (none_of (read_whole c.args.rule.now) (λ some. false≢true (c.in-Err.ensures.succeeds.1 some))), refl)
