use Rattle.std.proofs.Common.{◌≡◌, ◌≤ℤ◌, ℤ, ◌+ℤ◌, arith, rules, of_calls, IfOk, FitsSigned, w64}
use Rattle.std.proofs.lemmas.Int.{ints}
use Rattle.std.proofs.lemmas.Result.{IfOk-weaker}
use Rattle.jiff.specs.ZoneView.{plain_zone}
use Rattle.croner_base.specs.TableZone.{HasParts, table_zone}
use Rattle.croner_base.specs.ZoneTable.{IsWindow, ahead_at, window_changes, nearest_in}
use Rattle.croner_base.specs.ZonedZone.{zone_reads}
use Rattle.croner_base.proofs.zones.ZoneChanges.{window_reads, window_beyond}
use Rattle.croner_base.proofs.time.table.ClockTable.of_zone.Goals as goal

pub returns-clause-reads : goal.returns-clause-reads
returns-clause-reads c =
    let tz = plain_zone c.args.zone.now in
    let first = c.args.first in
    let last = c.args.last in
    let f : FitsSigned w64 first = c.ranges.first in
    let g : FitsSigned w64 last = c.ranges.last in
    let w : IsWindow first last = search (rules, of_calls) in
    let parts : IfOk c.new.result (HasParts (ahead_at tz first) (window_changes tz first last)) = search (rules, of_calls) in
    IfOk-weaker c.new.result (HasParts (ahead_at tz first) (window_changes tz first last)) (λ t. (i : ℤ) → first ≤ℤ i → i ≤ℤ last → (table_zone t).reads i ≡ zone_reads tz i)
    (λ t h i low high. window_reads tz first last t i w h low high) parts

pub returns-clause-beyond : goal.returns-clause-beyond
returns-clause-beyond c =
    let tz = plain_zone c.args.zone.now in
    let first = c.args.first in
    let last = c.args.last in
    let f : FitsSigned w64 first = c.ranges.first in
    let g : FitsSigned w64 last = c.ranges.last in
    let w : IsWindow first last = record { held_first = omega (arith, ints); order = omega (arith, ints); held_last = omega (arith, ints) } in
    let parts : IfOk c.new.result (HasParts (ahead_at tz first) (window_changes tz first last)) = search (rules, of_calls) in
    IfOk-weaker c.new.result (HasParts (ahead_at tz first) (window_changes tz first last)) (λ t. (i : ℤ) → (table_zone t).reads i ≡ i +ℤ ahead_at tz (nearest_in first last i))
    (λ t h i. window_beyond tz first last t i w.order h) parts
