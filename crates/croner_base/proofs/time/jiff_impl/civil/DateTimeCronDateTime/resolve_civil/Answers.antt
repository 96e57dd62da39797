use Rattle.croner_base.proofs.clocks.CivilMoments.{civil_resolved, civil_unresolved}
use Rattle.std.proofs.Common.{refl}
use Rattle.croner_base.proofs.time.jiff_impl.civil.DateTimeCronDateTime.resolve_civil.Goals as goal

pub returns-in-Ok-clause-value : goal.returns-in-Ok-clause-value
returns-in-Ok-clause-value c =
    civil_resolved c.args.civil c.in-Ok.datetime (c.in-Ok.ensures.ok.0 refl) c.in-Ok.ensures.value

pub returns-in-Err-clause-err : goal.returns-in-Err-clause-err
returns-in-Err-clause-err c =
    civil_unresolved c.args.civil c.in-Err.refused (λ h. cc (c.in-Err.ensures.ok.1 h)) c.in-Err.ensures.err
