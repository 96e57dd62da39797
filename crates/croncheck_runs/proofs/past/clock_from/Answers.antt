use Rattle.std.proofs.Common.{◌≡◌, pos, ◌+ℤ◌, to_z, of_z, w64, FitsSigned, refl, rules}
use Rattle.std.proofs.lemmas.Int.{to_z-of_z}
use Rattle.std.specs.Prelude.{int_le}
use Rattle.jiff.specs.ZoneView.{plain_zone}
use Rattle.croner_base.specs.TableZone.{table_zone}
use Rattle.croner.specs.laws.Zones.{margin}
use Rattle.croncheck_runs.specs.Past.{reach_of}
use Rattle.croncheck_runs.proofs.PastClocks.{past_clock}
use Rattle.croncheck_runs.proofs.Stops.{clock_of}
use Rattle.croncheck_runs.proofs.past.clock_from.Goals as goal

pub returns-in-Ok : goal.returns-in-Ok
returns-in-Ok c =
    let tz = plain_zone c.args.zone.now in
    let first = to_z-of_z w64 c.args.first c.ranges.first in
    let last = to_z-of_z w64 c.args.last c.ranges.last in
    let from_fits : FitsSigned w64 (c.args.first +ℤ pos margin) = search rules in
    let reach : to_z w64 (of_z w64 c.reach_of.result) ≡ reach_of c.args.last = search rules in
    let clock = clock_of tz c.args.first c.args.last _ _ (table_zone c.in-Ok.table) first last (c.in-Ok.ensures.calm refl) c.in-Ok.ensures.beyond in
    rw (first, last, reach, to_z-of_z w64 (c.args.first +ℤ pos margin) from_fits)
    (past_clock tz c.args.first c.args.last c.in-Ok.table (int_le c.args.first (reach_of c.args.last)) clock c.requires.followed refl)
