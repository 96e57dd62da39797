-- The next run of a text in a zone of jiff.
use Rattle.std.specs.Prelude.{◌≡◌, ℕ, ℤ, ◌≤ℤ◌, false, List, Ok}
use Rattle.jiff.specs.ZoneView.{plain_zone}
use Rattle.jiff.specs.declared.tz.timezone.TimeZone.{TimeZone}
use Rattle.jiff.specs.declared.zoned.Zoned.{Zoned}
use Rattle.croner.specs.Meaning.{Meaning}
use Rattle.croner.specs.Zone.{at_instant}
use Rattle.croner.specs.ZonedValue.{value_moment}
use Rattle.croner.specs.ZonedZone.{zoned_zone}
use Rattle.croner.specs.parser.Grammar.{outcome}
use Rattle.croner.specs.parser.Settings.{default_settings}
use Rattle.croner.specs.search.PatternJob.{pattern_job}
use Rattle.croner.specs.search.Runs.{Counts, Nearest}
use Rattle.croner_base.specs.declared.time.Direction.TheVariants.{Forward}

-- a zoned date-time is the first run after a second, in the zone, of the pattern that a text means
pub record IsNextRun (text : List ℕ) (zone : TimeZone) (second : ℤ) (run : Zoned) : Type 0 where
  pub meaning : Meaning
  pub read : outcome default_settings text ≡ Ok meaning
  pub whole : value_moment run ≡ at_instant (zoned_zone (plain_zone zone)) (value_moment run).instant
  pub nearest : Nearest Forward false (pattern_job meaning (zoned_zone (plain_zone zone))) second (value_moment run).instant

-- the zone has no such run up to a last second
pub record HasNoneUntil (text : List ℕ) (zone : TimeZone) (second last : ℤ) : Type 0 where
  pub meaning : Meaning
  pub read : outcome default_settings text ≡ Ok meaning
  pub none : (i : ℤ) → i ≤ℤ last → ¬ (Counts Forward false (pattern_job meaning (zoned_zone (plain_zone zone))) second i)
