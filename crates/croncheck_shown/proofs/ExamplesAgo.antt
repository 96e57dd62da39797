-- Worked rows of how long ago a run was.
use Rattle.std.proofs.Common.{◌≡◌, ◌++◌, refl}
use Rattle.std.specs.Fmt.{digits}
use Rattle.std.specs.Prelude.{codes}
use Rattle.croner_words.specs.Swedish.{o_with_dots}
use Rattle.croncheck_report.specs.declared.settings.Tongue.TheVariants as tongues
use Rattle.croncheck_shown.specs.Ago.{ago_text}

this_second : ago_text tongues.English 0 ≡ codes "0 s ago"
unfolding digits
this_second = refl

-- 11 hours, 20 minutes and 59 seconds
hours_and_minutes : ago_text tongues.English 40_859 ≡ codes "11 h 20 min ago"
unfolding digits
hours_and_minutes = refl

days_in_swedish : ago_text tongues.Swedish 259_200 ≡ codes "f" ++ (o_with_dots ++ codes "r 3 d sedan")
unfolding digits
days_in_swedish = refl
