-- What contracts see of values of this crate's types.
use Rattle.croner.specs.parser.Grammar.{Texts}
use Rattle.croner_presets.specs.declared.fields.Fields.{Fields}

-- the texts of the fields
abbrev pub fields_seen : Fields → Texts
fields_seen f = record {
  seconds = f.seconds.now;
  minutes = f.minutes.now;
  hours = f.hours.now;
  days = f.days.now;
  months = f.months.now;
  days_of_week = f.weekdays.now;
  years = f.years.now;
}
