-- Worked rows of the signs by which a job is starred.
use Rattle.std.proofs.Common.{◌≡◌, ◌*◌, true, false, refl}
use Rattle.std.specs.Prelude.{codes}
use Rattle.croncheck_warnings.specs.Starred.{is_starred}

-- */15 1-3 * * *: the minutes begin with a star; 0 */2 * * *: the hours do; of the nicknames @hourly has a star there
starred_minutes : is_starred (codes "*/15 1-3 * * *") ≡ true
starred_minutes = refl

starred_hours : is_starred (codes "0 */2 * * *") ≡ true
starred_hours = refl

starred_nickname : (is_starred (codes "@hourly") ≡ true) × (is_starred (codes "@daily") ≡ false)
starred_nickname = (refl, refl)

-- 0,30 2 * * *: the days alone begin with one
starred_days : is_starred (codes "0,30 2 * * *") ≡ false
starred_days = refl
