use Rattle.std.proofs.Common.{◌∙◌, refl}
use Rattle.croner_base.proofs.texts.PaddedNumbers.{two_places_written}
use Rattle.cronplan_forms.proofs.calendar.moment.time_part.Goals as goal

pub returns : goal.returns
returns c =
    c.in_ok-format.ensures.ok
    ∙ rw (c.laid_out.ensures, c.laid_out-2.ensures, c.laid_out-3.ensures, two_places_written c.args.hour, two_places_written c.args.minute, two_places_written c.args.second) refl
