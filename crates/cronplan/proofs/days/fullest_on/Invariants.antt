use Rattle.std.proofs.Common.{◌≡◌, take}
use Rattle.cronplan.specs.Days.{fullest_on}
use Rattle.cronplan.proofs.days.fullest_on.Given as goal

abbrev pub invariant-loop-moment : goal.invariant-loop-moment
invariant-loop-moment l = l.fullest ≡ fullest_on l.date (take l.moment-index l.moments)
