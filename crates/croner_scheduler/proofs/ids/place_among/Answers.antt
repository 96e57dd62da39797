use Rattle.croner_scheduler.proofs.Places.{not_found}
use Rattle.croner_scheduler.proofs.ids.place_among.Goals as goal

pub returns-in-Err-clause-none : goal.returns-in-Err-clause-none
returns-in-Err-clause-none c = not_found c.args.ids.now c.args.id c.in-Err.field-0 c.in-Err.ensures.position
