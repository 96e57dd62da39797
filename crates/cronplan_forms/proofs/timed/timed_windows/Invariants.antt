use Rattle.std.proofs.Common.{take}
use Rattle.cronplan_forms.specs.Timed.{AreTimedWindows}
use Rattle.cronplan_forms.proofs.timed.timed_windows.Given as goal

abbrev pub invariant-loop-window : goal.invariant-loop-window
invariant-loop-window l = AreTimedWindows l.view (take l.window-index l.windows) l.timed.items
