-- The settings of a parser: what its builder can choose, and what stands where nothing is chosen.
use Rattle.std.specs.Prelude.{ℕ, Bool, true, false, ◌||◌, ◌==◌}
use Rattle.croner.specs.declared.parser.Seconds.{Seconds}
use Rattle.croner.specs.declared.parser.Seconds.TheVariants as seconds
use Rattle.croner.specs.declared.parser.Year.{Year}
use Rattle.croner.specs.declared.parser.Year.TheVariants as year

-- the five choices
pub record Settings : Type 0 where
  pub seconds_field : Seconds
  pub year_field : Year
  pub both_days : Bool
  pub quartz : Bool
  pub sloppy : Bool

-- what is chosen where nothing is said
abbrev pub default_settings : Settings
default_settings = record { seconds_field = seconds.Optional; year_field = year.Optional; both_days = false; quartz = false; sloppy = false }

-- seconds may be written; they must be; they must not be
abbrev pub seconds_optional : Seconds → Bool
seconds_optional seconds.Optional = true
seconds_optional other = false

-- seconds have to be written
abbrev pub seconds_required : Seconds → Bool
seconds_required seconds.Required = true
seconds_required other = false

-- no seconds may be written
abbrev pub seconds_disallowed : Seconds → Bool
seconds_disallowed seconds.Disallowed = true
seconds_disallowed other = false

-- the same of the year
abbrev pub year_optional : Year → Bool
year_optional year.Optional = true
year_optional other = false

-- a year has to be written
abbrev pub year_required : Year → Bool
year_required year.Required = true
year_required other = false

-- no year may be written
abbrev pub year_disallowed : Year → Bool
year_disallowed year.Disallowed = true
year_disallowed other = false

-- the counts of fields that a text may have
abbrev pub accepts_count : Seconds → Year → ℕ → Bool
accepts_count seconds.Optional year.Optional n = (n == 5 || n == 6) || n == 7
accepts_count seconds.Optional year.Required n = n == 7
accepts_count seconds.Optional year.Disallowed n = n == 5 || n == 6
accepts_count seconds.Required year.Optional n = n == 6 || n == 7
accepts_count seconds.Required year.Required n = n == 7
accepts_count seconds.Required year.Disallowed n = n == 6
accepts_count seconds.Disallowed year.Optional n = n == 5
accepts_count seconds.Disallowed year.Required n = false
accepts_count seconds.Disallowed year.Disallowed n = n == 5
