use Rattle.std.proofs.Common.{◌∙◌, refl, rules, FitsSigned, w32}
use Rattle.std.proofs.lemmas.Int.{to_z-of_z}
use Rattle.croner_base.proofs.texts.PaddedNumbers.{two_places_written, year_written}
use Rattle.cronplan_forms.proofs.calendar.moment.date_part.Goals as goal

pub returns : goal.returns
returns c =
    let f : FitsSigned w32 c.args.year = search rules in
    (simp to_z-of_z at c.in_ok-format.ensures.ok)
    ∙ rw (c.laid_out.ensures, c.laid_out-2.ensures, c.laid_out-3.ensures, year_written c.args.year, two_places_written c.args.month, two_places_written c.args.day) refl
