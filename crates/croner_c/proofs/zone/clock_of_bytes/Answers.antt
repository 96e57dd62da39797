use Rattle.std.proofs.Common.{inl, refl, Err}
use Rattle.croner_c.specs.declared.status.Reason.TheVariants as reasons
use Rattle.croner_c.proofs.zone.clock_of_bytes.Goals as goal

pub returns-in-Err : goal.returns-in-Err
returns-in-Err c = (Err reasons.BadZone, inl c.in-Err.ensures.cases.0, refl)
