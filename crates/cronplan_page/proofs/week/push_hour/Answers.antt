use Rattle.std.proofs.Common.{◌∙◌, ◌/◌, ◌%◌}
use Rattle.std.proofs.lemmas.Result.{on_ok_weaker}
use Rattle.croner_base.proofs.texts.PaddedNumbers.{two_places_written}
use Rattle.cronplan_page.proofs.week.push_hour.Goals as goal

pub returns : goal.returns
returns c =
    on_ok_weaker c.write.result
    (λ e. e ∙ rw (c.laid_out.ensures, c.laid_out-2.ensures, two_places_written (c.args.second / 3_600), two_places_written (c.args.second / 60 % 60)))
    c.write.ensures.bytes
