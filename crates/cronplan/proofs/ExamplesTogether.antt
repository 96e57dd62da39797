-- Worked rows of jobs that start together, computed from the definitions: of three days, on which the jobs 3 and 4 start at 02:30, and on the last
-- one 5 too; 3 starts alone at 04:00 of the first day.
use Rattle.std.proofs.Common.{◌≡◌, ℕ, pos, true, false, Global, List, [], ◌∷◌, length, slice_get, Some, None, Vec, refl}
use Rattle.std.specs.declared.cmp.Ordering.TheVariants.{Less, Greater}
use Rattle.cronplan.specs.declared.moments.Moment.{Moment}
use Rattle.cronplan.specs.declared.start.JobStart.{JobStart}
use Rattle.cronplan.specs.declared.together.Together.{Together}
use Rattle.cronplan.specs.Together.{jobs_of, jobs_at, has_several, moments_with, together_cmp}

-- a start of a job so many times, on a clock that shows UTC
abbrev start : ℕ → ℕ → ℕ → JobStart
start second job count = record { second = pos second; job = job; count = count; wall = pos second }

abbrev days : List JobStart
days = start 9_000 3 1 ∷ start 9_000 4 1 ∷ start 14_400 3 1 ∷ start 95_400 3 1 ∷ start 95_400 4 2 ∷ start 181_800 3 1 ∷ start 181_800 4 1 ∷ start 181_800 5 1 ∷ []

abbrev moment : ℕ → ℕ → Moment
moment second starts = record { second = pos second; wall = pos second; starts = starts }

abbrev moments : List Moment
moments = moment 9_000 2 ∷ moment 14_400 1 ∷ moment 95_400 3 ∷ moment 181_800 3 ∷ []

-- the jobs at each of the four; a job is one, however often it is started there
jobs : (jobs_at (pos 9_000) days ≡ 3 ∷ 4 ∷ []) × (jobs_at (pos 14_400) days ≡ 3 ∷ []) × (jobs_at (pos 95_400) days ≡ 3 ∷ 4 ∷ []) × (jobs_at (pos 181_800) days ≡ 3 ∷ 4 ∷ 5 ∷ [])
    × (jobs_of (start 9_000 3 1 ∷ start 9_000 3 2 ∷ []) ≡ 3 ∷ [])
jobs = (refl, refl, refl, refl, refl)

-- at 04:00 one job starts, and so none together with another
several : (has_several days (moment 9_000 2) ≡ true) × (has_several days (moment 14_400 1) ≡ false)
several = (refl, refl)

-- just 3 and 4 start at two moments, of which the one of the first day comes first; the three at one, 3 and 5 at none
just_these : (length (moments_with days (3 ∷ 4 ∷ []) moments) ≡ 2) × (slice_get (moments_with days (3 ∷ 4 ∷ []) moments) 0 ≡ Some (moment 9_000 2))
    × (length (moments_with days (3 ∷ 4 ∷ 5 ∷ []) moments) ≡ 1) × (slice_get (moments_with days (3 ∷ 5 ∷ []) moments) 0 ≡ None)
just_these = (refl, refl, refl, refl)

-- the set with two moments before the one with one, and of equal ones the earlier first
abbrev set : Vec ℕ Global → ℕ → ℕ → Together
set jobs moments second = record { jobs = jobs; moments = moments; first = moment second 2 }

most_first : (a b : Vec ℕ Global) → (together_cmp (set a 2 95_400) (set b 1 9_000) ≡ Less) × (together_cmp (set a 2 95_400) (set b 2 9_000) ≡ Greater)
most_first a b = (refl, refl)
