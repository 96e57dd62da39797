use Rattle.std.proofs.Output.{has_written_of_eq}
use Rattle.croner_base.proofs.texts.PaddedNumbers.{two_places_written}
use Rattle.cronplan_forms.proofs.date_name.DateNameDisplay.fmt.Goals as goal

pub returns-in-Some-clause-writes : goal.returns-in-Some-clause-writes
returns-in-Some-clause-writes g c = λ p ok.
    has_written_of_eq _ _ _ _ _
    (rw (c.laid_out.ensures, two_places_written c.day-day.result, c.day-day.ensures, c.short_month_name-month.ensures, c.month.ensures, c.weekday_text-weekday.ensures, c.in-Some.is))
    (c.write.ensures.writes p ok)
