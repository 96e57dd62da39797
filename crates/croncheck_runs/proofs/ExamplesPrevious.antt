-- Worked rows of the runs before a start: how far a clock is followed back, and how a listing ends with the years.
use Rattle.std.proofs.Common.{◌≡◌, pos, true, false, refl}
use Rattle.std.specs.Prelude.{neg_ℤ}
use Rattle.croncheck_runs.specs.declared.runs.End.TheVariants as ends
use Rattle.croncheck_runs.specs.Past.{reach_of}
use Rattle.croncheck_runs.specs.Private.EndsBefore.{end_of_years}

-- of a start in 2026 down to 0001-01-01T00:00:00 UTC
of_this_year : reach_of (pos 1_795_800_000) ≡ neg_ℤ (pos 62_135_596_800)
of_this_year = refl

-- of a start before year 1 no further
before_the_years : reach_of (neg_ℤ (pos 62_135_596_801)) ≡ neg_ℤ (pos 62_135_596_801)
before_the_years = refl

-- none is left in the years that are searched: on a clock that is followed back so far, and on another one
all_years : end_of_years true ≡ ends.Over
all_years = refl

followed_years : end_of_years false ≡ ends.Window
followed_years = refl
