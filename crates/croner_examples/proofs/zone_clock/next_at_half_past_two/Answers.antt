use Rattle.std.proofs.Common.{◌≡◌, refl, arith, codes, pos, FitsSigned, w64}
use Rattle.std.proofs.lemmas.Int.{ints, to_z-of_z}
use Rattle.croner_base.proofs.tables.TableTests.{instant_bounds}
use Rattle.croner.specs.Views.{job_of}
use Rattle.croner_examples.proofs.ZoneRuns.{next_run, none_until}
use Rattle.croner_examples.proofs.zone_clock.next_at_half_past_two.Goals as goal

pub returns-in-Some : goal.returns-in-Some
returns-in-Some c =
    let f : FitsSigned w64 c.args.second = c.ranges.second in
    let run = c.in-Some.run' in
    let i = instant_bounds run.time.second run.time.held in
    let v : c.second.result ≡ run.time.second = c.second.ensures in
    let g : FitsSigned w64 c.second.result = omega (arith, ints, i, v) in
    let at = simp to_z-of_z at c.in_ok-start.ensures.value in
    let near = rw c.in-Some.is at c.in_ok-run.ensures.some in
    let shown = rw v at (simp to_z-of_z at c.in_ok-to_zoned-in-Some.ensures.value) in
    next_run (codes "30 2 * * *") c.args.zone.now c.args.second (pos 1_767_225_600) (pos 4_102_444_799) (job_of c.in_ok-cron.cron) c.in_ok-clock.clock
    c.in_ok-start.start run c.in_ok-to_zoned-in-Some.field-0 c.in_ok-cron.ensures c.in_ok-clock.ensures.clock at near shown

pub returns : goal.returns
returns c =
    let f : FitsSigned w64 c.args.second = c.ranges.second in
    let at = simp to_z-of_z at c.in_ok-start.ensures.value in
    let within = simp to_z-of_z at c.in_ok-start.ensures.ok in
    let none = rw c.in-None.is at c.in_ok-run.ensures.none in
    none_until (codes "30 2 * * *") c.args.zone.now c.args.second (pos 1_767_225_600) (pos 4_102_444_799) (job_of c.in_ok-cron.cron) c.in_ok-clock.clock
    c.in_ok-start.start c.in_ok-cron.ensures c.in_ok-clock.ensures.clock (within.0 refl) at none
