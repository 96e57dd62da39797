use Rattle.std.proofs.Common.{string_bytes, rules}
use Rattle.croncheck_planner.proofs.plan.list.window_end_line.Goals as goal

pub returns : goal.returns
returns c = (string_bytes c.in_ok-line.line, c.in_ok-line.ensures, search rules)
