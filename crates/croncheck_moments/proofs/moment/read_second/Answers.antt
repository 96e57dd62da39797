use Rattle.std.proofs.Common.{sym}
use Rattle.std.specs.Fmt.{signed_decimal}
use Rattle.croncheck_moments.proofs.moment.read_second.Goals as goal

pub returns-in-None-clause-none : goal.returns-in-None-clause-none
unfolding lib.Utf8.encode
returns-in-None-clause-none c = λ none second fits is. c.in-None.ensures.cases (signed_decimal second) (sym is)
