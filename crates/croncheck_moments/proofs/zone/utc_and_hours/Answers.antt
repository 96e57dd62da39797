use Rattle.croncheck_moments.proofs.ZoneWords.{no_name}
use Rattle.croncheck_moments.proofs.zone.utc_and_hours.Goals as goal

pub returns-in_default : goal.returns-in_default
returns-in_default c = no_name _ _ c.utf8.word c.split_at_checked.ensures.variant c.in_default.is
