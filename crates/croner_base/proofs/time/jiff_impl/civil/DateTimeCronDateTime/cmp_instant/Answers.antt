use Rattle.std.proofs.Common.{◌∙◌}
use Rattle.jiff_core.proofs.DateTimeLemmas.{civil_nanos-civil_seconds}
use Rattle.croner_base.proofs.time.jiff_impl.civil.DateTimeCronDateTime.cmp_instant.Goals as goal

pub returns : goal.returns
returns c = c.cmp.ensures ∙ rw (civil_nanos-civil_seconds c.args.self.now, civil_nanos-civil_seconds c.args.other.now)
