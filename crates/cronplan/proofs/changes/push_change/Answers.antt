use Rattle.std.proofs.Common.{◌∙◌, ◌++◌, ◌≤ℤ◌, ◌<ℤ◌, ℤ, ap, rules, arith, List, w64, to_z, of_z, FitsSigned}
use Rattle.std.proofs.lemmas.Int.{ints, to_z-of_z}
use Rattle.croner_base.specs.TableZone.{table_zone}
use Rattle.croner_base.specs.Zone.{Zone}
use Rattle.cronplan.specs.declared.changes.ClockChange.{ClockChange}
use Rattle.cronplan.proofs.DayCells.{change_there}
use Rattle.cronplan.proofs.SpanSeconds.{Spans, span_at}
use Rattle.cronplan.proofs.changes.push_change.Goals as goal

pub returns-in_ok-push : goal.returns-in_ok-push
returns-in_ok-push c =
    let z : Zone = table_zone c.args.table.now in
    let i : ℤ = c.args.change.now.0 in
    let fits : FitsSigned w64 i = search rules in
    let before_fits : FitsSigned w64 c.wall_at.result = search rules in
    let shown_fits : FitsSigned w64 c.wall_at-then-second-span.result = search rules in
    let w : Spans c.args.span.first c.args.span.end = span_at c.args.span.first c.args.span.end c.args.span.held in
    let low : c.args.span.first ≤ℤ i = omega (arith, ints, c.if-span-second.true) in
    let high : i <ℤ c.args.span.end = omega (arith, ints, c.if-second-span.true) in
    let there : ClockChange = record { second = to_z w64 (of_z w64 i); before = to_z w64 (of_z w64 c.wall_at.result); shown = to_z w64 (of_z w64 c.wall_at-then-second-span.result) } in
    c.in_ok-push.ensures.items ∙ ap (λ (xs : List ClockChange). c.args.changes.now.items ++ xs)
    (change_there z c.args.span i there low high (to_z-of_z w64 i fits)
    (to_z-of_z w64 c.wall_at.result before_fits ∙ c.wall_at.ensures ∙ ap z.reads (omega (arith, ints, w.late, w.early, low, high)))
    (to_z-of_z w64 c.wall_at-then-second-span.result shown_fits ∙ c.wall_at-then-second-span.ensures ∙ ap z.reads (to_z-of_z w64 i fits)))
