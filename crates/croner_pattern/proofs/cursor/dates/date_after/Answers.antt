use Rattle.std.proofs.Common.{sym, ◌∙◌, arith}
use Rattle.std.proofs.lemmas.Bool.{false≢true}
use Rattle.jiff_core.proofs.SignedLemmas.{signed_arith}
use Rattle.croner_base.specs.Civil.{day_of_date}
use Rattle.croner_pattern.proofs.civil.Foremost.{up_to}
use Rattle.croner_pattern.proofs.cursor.dates.date_after.Goals as goal

pub returns-else-is_reached : goal.returns-else-is_reached
returns-else-is_reached g c = λ y a.
    let on = c.in_ok-found.ensures.first y (up_to c.args.direction (day_of_date c.args.date) (day_of_date y) a.ahead) a.matches in
    false≢true (sym c.if-is_reached.false ∙ c.is_reached.ensures.1 (omega (arith, signed_arith, on, a.within)))
