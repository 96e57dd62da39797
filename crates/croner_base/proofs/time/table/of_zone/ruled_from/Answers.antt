use Rattle.std.proofs.Common.{FitsSigned, w64, arith, to_z-of_z}
use Rattle.std.proofs.lemmas.Int.{ints}
use Rattle.jiff_core.proofs.SignedLemmas.{signed_arith}
use Rattle.jiff_tz.specs.Tzif.{no_transition}
use Rattle.croner_base.proofs.zones.ZoneRepeats.{first_repeated, last_row, no_table, zone_repeats}
use Rattle.croner_base.proofs.time.table.of_zone.ruled_from.Goals as goal

pub returns-in-Some-clause-repeats : goal.returns-in-Some-clause-repeats
returns-in-Some-clause-repeats c =
    let row = c.in-Some.row.now in
    let from = c.max.result in
    let z = c.in-Tzif.table in
    let f : FitsSigned w64 row.second = omega (arith, ints, row.second_in) in
    let g : FitsSigned w64 from = omega (arith, ints, c.max.type_inv) in
    let own = simp to_z-of_z at c.max.ensures.self_bound in
    let is = c.in-Some.ensures.item.3.1 (no_transition z.now) in
    simp to_z-of_z (zone_repeats c.args.zone from c.max.ensures.other_bound
    (last_row c.args.zone z c.transitions.result.now from c.in-Tzif.is c.transitions.ensures (λ some. rw (← is) own)))

pub returns-in-None-clause-repeats : goal.returns-in-None-clause-repeats
returns-in-None-clause-repeats c =
    zone_repeats c.args.zone first_repeated (omega (arith, signed_arith))
    (last_row c.args.zone c.in-Tzif.table c.transitions.result.now first_repeated c.in-Tzif.is c.transitions.ensures (λ some. absurd (omega (arith, some, c.in-None.ensures.item.3))))

pub returns-in_default : goal.returns-in_default
returns-in_default c = record {
  held = record { low = omega (arith, signed_arith); high = omega (arith, signed_arith) };
  repeats = zone_repeats c.args.zone first_repeated (omega (arith, signed_arith)) (no_table c.args.zone first_repeated c.in_default.not-Tzif);
}
