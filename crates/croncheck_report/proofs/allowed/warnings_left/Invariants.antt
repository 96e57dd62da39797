use Rattle.std.proofs.Common.{◌≡◌, take}
use Rattle.croncheck_report.specs.Allowed.{names_seen, warnings_left}
use Rattle.croncheck_report.proofs.allowed.warnings_left.Given as goal

abbrev pub invariant-loop-warning : goal.invariant-loop-warning
invariant-loop-warning l = l.left.items ≡ warnings_left l.fn.settings (names_seen l.fn.above) (take l.warning-index l.fn.warnings)
