-- How croner's parser reads the text of a job's times.
use Rattle.std.specs.Prelude.{Bool, false}
use Rattle.croner.specs.declared.parser.Seconds.TheVariants as seconds
use Rattle.croner.specs.declared.parser.Year.TheVariants as year
use Rattle.croner.specs.parser.Settings.{Settings}

-- exactly five fields, and both day fields to match or either
abbrev pub crontab_settings : Bool → Settings
crontab_settings both =
    record { seconds_field = seconds.Disallowed; year_field = year.Disallowed; both_days = both; quartz = false; sloppy = false }
