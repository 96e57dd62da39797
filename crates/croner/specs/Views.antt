-- What contracts see of a job, and of the texts of the fields.
use Rattle.croner_pattern.specs.Meaning.{Meaning, meaning_of}
use Rattle.croner.specs.declared.job.Cron.{Cron}
use Rattle.croner.specs.declared.parser.fields.FieldTexts.{FieldTexts}
use Rattle.croner.specs.parser.Grammar.{Texts}

-- a job is its pattern
abbrev pub job_of : Cron → Meaning
job_of c = meaning_of c.pattern

-- the texts behind the references
abbrev pub texts_of : FieldTexts → Texts
texts_of t = record {
  seconds = t.seconds.now;
  minutes = t.minutes.now;
  hours = t.hours.now;
  days = t.days.now;
  months = t.months.now;
  days_of_week = t.days_of_week.now;
  years = t.years.now;
}
