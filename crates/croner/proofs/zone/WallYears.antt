-- The years that a search goes through, by the wall second.
use Rattle.std.proofs.Common.{◌≡◌, true, false, ◌↔◌, refl, arith, pos, ◌<ℤ◌, ◌≤ℤ◌}
use Rattle.std.proofs.lemmas.Bool.{false≢true}
use Rattle.std.proofs.lemmas.Int.{ints, by_lt_z}
use Rattle.croner_base.specs.declared.time.civil.CivilDateTime.{CivilDateTime}
use Rattle.croner_base.specs.Civil.{wall_second}
use Rattle.croner_base.specs.Limits.{first_year, last_year}
use Rattle.croner.specs.search.Limit.{year_5000, year_2}
use Rattle.croner.proofs.zone.Ahead.{Forward, Backward}
use Rattle.croner.proofs.zone.WallSeconds.{within_forward, within_backward}

before_5000 : (c : CivilDateTime) → c.date.year <ℤ pos last_year ↔ wall_second c <ℤ year_5000
before_5000 c = (
  λ h. (within_forward Forward c true refl (λ t. h, λ lt. refl)).0 refl,
  λ h. by_lt_z c.date.year (pos last_year) (λ lt. lt)
      (λ ge. absurd (false≢true ((within_forward Forward c false refl (λ f. absurd (false≢true f), λ lt. absurd (omega (arith, ints, ge, lt)))).1 h))),
)

after_1 : (c : CivilDateTime) → pos first_year <ℤ c.date.year ↔ year_2 ≤ℤ wall_second c
after_1 c = (
  λ h. (within_backward Backward c true refl (λ t. h, λ lt. refl)).0 refl,
  λ h. by_lt_z (pos first_year) c.date.year (λ lt. lt)
      (λ ge. absurd (false≢true ((within_backward Backward c false refl (λ f. absurd (false≢true f), λ lt. absurd (omega (arith, ints, ge, lt)))).1 h))),
)

-- the first part of the conclusion shows `grind` what to match
pub within_years : (c : CivilDateTime) → (wall_second c ≡ wall_second c) × (c.date.year <ℤ pos last_year ↔ wall_second c <ℤ year_5000) × (pos first_year <ℤ c.date.year ↔ year_2 ≤ℤ wall_second c)
within_years c = (refl, before_5000 c, after_1 c)

pub ruleset wall_years = (ints, within_years)
