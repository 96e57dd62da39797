use Rattle.std.proofs.Common.{◌∙◌, ◌≤ℤ◌, sym, subst, rules, w64, FitsSigned, to_z, of_z, ℤ, Vec, Global, ap}
use Rattle.std.proofs.lemmas.Int.{to_z-of_z}
use Rattle.std.proofs.lemmas.Result.{IfOk-weaker}
use Rattle.cronplan.specs.declared.windows.Bound.TheVariants as bounds
use Rattle.cronplan.specs.declared.windows.Edge.{Edge}
use Rattle.cronplan.specs.declared.windows.Window.{Window}
use Rattle.cronplan.specs.Private.Gaps.{gaps}
use Rattle.cronplan.specs.Windows.{AreWindows}
use Rattle.cronplan.proofs.GapWindows.{are_windows}
use Rattle.cronplan.proofs.StartOrder.{climbs, to_seconds}
use Rattle.cronplan.proofs.windows.windows_between.Goals as goal

pub returns : goal.returns
returns c =
    let first_fits : FitsSigned w64 c.args.span.first = search rules in
    let end_fits : FitsSigned w64 c.args.span.end = search rules in
    let edge : ℤ → Edge = λ i. record { second = i; bound = bounds.Span } in
    let found = are_windows c.args.starts.now c.args.span c.args.least (climbs c.args.starts.now c.requires.order) (to_seconds (λ t. c.args.span.first ≤ℤ t) c.args.starts.now c.requires.within) in
    IfOk-weaker c.gaps_between.result _ _
    (λ (windows : Vec Window Global) e.
    subst (AreWindows c.args.starts.now c.args.span c.args.least)
    (sym (e ∙ ap (λ (i : ℤ). gaps c.args.least (edge (to_z w64 (of_z w64 c.args.span.end))) (edge i) c.args.starts.now) (to_z-of_z w64 c.args.span.first first_fits)
    ∙ ap (λ (i : ℤ). gaps c.args.least (edge i) (edge c.args.span.first) c.args.starts.now) (to_z-of_z w64 c.args.span.end end_fits)))
    found)
    c.gaps_between.ensures
