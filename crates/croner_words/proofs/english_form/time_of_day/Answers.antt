use Rattle.std.proofs.Common.{◌∙◌}
use Rattle.croner_base.proofs.texts.PaddedNumbers.{two_places_written}
use Rattle.croner_words.proofs.Padded.{time_with_seconds, time_without_seconds}
use Rattle.croner_words.proofs.english_form.time_of_day.Goals as goal

pub returns-in_ok-format-in-Some : goal.returns-in_ok-format-in-Some
returns-in_ok-format-in-Some c =
    c.in_ok-format-in-Some.ensures.ok
    ∙ rw (c.laid_out.ensures, c.laid_out-in-Some.ensures, c.laid_out-in-Some-2.ensures, two_places_written c.args.hour, two_places_written c.args.minute, two_places_written c.in-Some.second)
    (time_with_seconds c.args.hour c.args.minute c.in-Some.second c.args.second c.in-Some.is)

pub returns-in_ok-format-in-None : goal.returns-in_ok-format-in-None
returns-in_ok-format-in-None c =
    c.in_ok-format-in-None.ensures.ok
    ∙ rw (c.laid_out-in-None.ensures, c.laid_out-in-None-2.ensures, two_places_written c.args.hour, two_places_written c.args.minute)
    (time_without_seconds c.args.hour c.args.minute c.args.second c.in-None.is)
