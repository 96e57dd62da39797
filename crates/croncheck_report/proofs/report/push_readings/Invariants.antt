use Rattle.std.proofs.Common.{◌≡◌, ◌++◌, take}
use Rattle.std.specs.Prelude.{map}
use Rattle.croncheck_warnings.specs.declared.warnings.Warning.TheVariants as warnings
use Rattle.croncheck_report.proofs.report.push_readings.Given as goal

abbrev pub invariant-loop-reading : goal.invariant-loop-reading
invariant-loop-reading l = l.warnings.items ≡ l.initial.warnings.items ++ map warnings.Preset (take l.reading-index l.fn.readings)
