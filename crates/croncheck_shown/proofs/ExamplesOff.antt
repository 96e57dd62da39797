-- Worked rows of how far off a run is.
use Rattle.std.proofs.Common.{◌≡◌, refl}
use Rattle.std.specs.Fmt.{digits}
use Rattle.std.specs.Prelude.{codes}
use Rattle.croncheck_report.specs.declared.settings.Tongue.TheVariants as tongues
use Rattle.croncheck_shown.specs.Off.{off_text}

this_second : off_text tongues.English 0 ≡ codes "in 0 s"
unfolding digits
this_second = refl

less_than_a_minute : off_text tongues.English 59 ≡ codes "in 59 s"
unfolding digits
less_than_a_minute = refl

a_minute : off_text tongues.English 60 ≡ codes "in 1 min"
unfolding digits
a_minute = refl

minutes_and_seconds : off_text tongues.English 1_205 ≡ codes "in 20 min 5 s"
unfolding digits
minutes_and_seconds = refl

-- 11 hours, 20 minutes and 59 seconds
hours_and_minutes : off_text tongues.English 40_859 ≡ codes "in 11 h 20 min"
unfolding digits
hours_and_minutes = refl

a_day : off_text tongues.English 86_400 ≡ codes "in 1 d"
unfolding digits
a_day = refl

-- the last second before four days
days_and_hours : off_text tongues.Swedish 345_599 ≡ codes "om 3 d 23 h"
unfolding digits
days_and_hours = refl
