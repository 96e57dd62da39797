use Rattle.std.proofs.Common.{◌≡◌, ◌∙◌, ℤ, pos, ◌-ℤ◌, ◌≤ℤ◌, w64, FitsSigned, to_z, of_z, ap, refl, rules}
use Rattle.std.proofs.lemmas.Int.{to_z-of_z}
use Rattle.jiff.specs.ZoneView.{plain_zone}
use Rattle.croner_base.specs.TableZone.{table_zone}
use Rattle.croncheck_runs.specs.Clock.{IsStopOf}
use Rattle.croncheck_runs.proofs.Stops.{clock_of, refused_by}
use Rattle.croncheck_runs.proofs.clock.clock_up_to_stop.Goals as goal

pub returns-then-stop-start-clause-followed : goal.returns-then-stop-start-clause-followed
returns-then-stop-start-clause-followed c =
    let tz = plain_zone c.args.zone.now in
    let le : c.in-Ok.stop.second ≤ℤ c.args.start = search rules in
    let stops : IsStopOf tz c.args.first c.in-Ok.stop = search rules in
    (refused_by tz c.args.start c.args.first c.in-Ok.stop c.refusal_by.result c.requires.first_is c.requires.window stops le c.refusal_by.ensures).1

pub returns-then-stop-start-clause-err : goal.returns-then-stop-start-clause-err
returns-then-stop-start-clause-err c =
    let tz = plain_zone c.args.zone.now in
    let le : c.in-Ok.stop.second ≤ℤ c.args.start = search rules in
    let stops : IsStopOf tz c.args.first c.in-Ok.stop = search rules in
    (refused_by tz c.args.start c.args.first c.in-Ok.stop c.refusal_by.result c.requires.first_is c.requires.window stops le c.refusal_by.ensures).0

pub returns-in-Ok-of_zone-clause-clock : goal.returns-in-Ok-of_zone-clause-clock
returns-in-Ok-of_zone-clause-clock c =
    let stop = c.in-Ok.stop.second in
    let last = stop -ℤ pos 1 in
    let first_fits : FitsSigned w64 c.args.first = search rules in
    let stop_fits : FitsSigned w64 stop = search rules in
    let last_fits : FitsSigned w64 last = search rules in
    let same : to_z w64 (of_z w64 stop) ≡ stop = to_z-of_z w64 stop stop_fits in
    let last_is = ap (λ (second : ℤ). to_z w64 (of_z w64 (second -ℤ pos 1))) same ∙ to_z-of_z w64 last last_fits in
    clock_of (plain_zone c.args.zone.now) c.args.first last _ _ (table_zone c.in-Ok-of_zone.table) (to_z-of_z w64 c.args.first first_fits) last_is
    (c.in-Ok-of_zone.ensures.calm refl) c.in-Ok-of_zone.ensures.beyond
