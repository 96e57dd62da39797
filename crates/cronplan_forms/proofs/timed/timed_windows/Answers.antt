use Rattle.std.proofs.Common.{◌<◌, length, take, rules, pos}
use Rattle.std.proofs.lemmas.List.{take_more}
use Rattle.cronplan.specs.declared.windows.Bound.TheVariants as bounds
use Rattle.cronplan.specs.declared.windows.Window.{Window}
use Rattle.cronplan_forms.proofs.timed.timed_windows.Goals as goal

-- what stands where there is none
abbrev none : Window
none = record { from = record { second = pos 0; bound = bounds.Start }; until = record { second = pos 0; bound = bounds.Start } }

pub loop-window-preserved : goal.loop-window-preserved
loop-window-preserved c =
    let inside : c.loop-window.window-index < length c.args.windows.now = search rules in
    rw (take_more c.args.windows.now c.loop-window.window-index none inside) (c.in_ok-push_window.ensures (take c.loop-window.window-index c.args.windows.now) c.loop-window.invariant)
