use Rattle.std.proofs.Common.{refl, w64}
use Rattle.std.proofs.lemmas.Int.{to_z-of_z}
use Rattle.cronplan_forms.proofs.beside.Beside.on.Goals as goal

pub returns-in-Some : goal.returns-in-Some
returns-in-Some c = rw (c.in-Some.is) (c.shown_at.result, refl, rw (to_z-of_z w64 c.args.second c.ranges.second) at c.shown_at.ensures)
