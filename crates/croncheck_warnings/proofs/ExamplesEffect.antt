-- Worked rows of the settings that have no effect in Debian's cron, computed from their definition.
use Rattle.std.proofs.Common.{◌≡◌, true, false, refl}
use Rattle.std.specs.Prelude.{codes}
use Rattle.croncheck_warnings.specs.Effect.{has_no_effect}

a_random_delay : has_no_effect (codes "RANDOM_DELAY=45") ≡ true
a_random_delay = refl

hours_of_anacron : has_no_effect (codes "START_HOURS_RANGE = 3-22") ≡ true
hours_of_anacron = refl

a_timer_that_is_kept : has_no_effect (codes "PERSISTENT=yes") ≡ true
a_timer_that_is_kept = refl

a_delay_in_quotes : has_no_effect (codes "'DELAY'=5") ≡ true
a_delay_in_quotes = refl

a_batch : has_no_effect (codes "BATCH=no") ≡ true
a_batch = refl

a_delay_of_another_name : has_no_effect (codes "RANDOM_DELAYS=45") ≡ false
a_delay_of_another_name = refl

a_delay_in_small_letters : has_no_effect (codes "delay=5") ≡ false
a_delay_in_small_letters = refl

a_delay_as_a_value : has_no_effect (codes "A=DELAY") ≡ false
a_delay_as_a_value = refl

a_zone_has_a_warning_of_its_own : has_no_effect (codes "CRON_TZ=UTC") ≡ false
a_zone_has_a_warning_of_its_own = refl
