-- The fields of a job in few words have the shapes of their places.
use Rattle.std.proofs.Common.{◌≡◌, true, refl}
use Rattle.croner_pattern.specs.Shapes.{has_field_shapes, is_like, year_shape}
use Rattle.croner.specs.compact.Compact.{compact_meaning}
use Rattle.croner.specs.compact.WordFields.{years_field}
use Rattle.croner.specs.declared.compact.CompactCron.{CompactCron}
use Rattle.croner.specs.declared.compact.years.Years.{Years}
use Rattle.croner.specs.declared.compact.years.Years.TheVariants.{Run, Listed}

pub years_shaped : (years : Years) → is_like (years_field years).shape year_shape ≡ true
years_shaped (Run run) = refl
years_shaped (Listed listed) = listed.value.shaped

pub compact_shaped : (c : CompactCron) → has_field_shapes (compact_meaning c) ≡ true
compact_shaped c = years_shaped c.years
