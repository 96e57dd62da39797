use Rattle.std.proofs.Common.{◌≡◌, take}
use Rattle.std.specs.Prelude.{filter}
use Rattle.croncheck_report.specs.Allowed.{lists}
use Rattle.croncheck_report.proofs.allowed.comment.names_among.Given as goal

abbrev pub invariant-loop-name : goal.invariant-loop-name
invariant-loop-name l = l.names.items ≡ filter (λ n. lists l.fn.list n.now) (take l.name-index l.fn.known)
