use Rattle.std.proofs.Common.{◌≡◌, take}
use Rattle.std.specs.Prelude.{filter, not}
use Rattle.croncheck_report.specs.Allowed.{may_stand}
use Rattle.croncheck_report.proofs.allowed.names_in_vain.Given as goal

abbrev pub invariant-loop-name : goal.invariant-loop-name
invariant-loop-name l = l.names.items ≡ filter (λ n. not (may_stand l.fn.settings l.fn.job n.now)) (take l.name-index l.fn.above)
