use Rattle.std.proofs.Common.{sym}
use Rattle.croner_base.proofs.fields.SignPlaces.{has-place}
use Rattle.croner_base.proofs.component.text.Part.has.Goals as goal

pub returns : goal.returns
returns c =
    rw (c.place.ensures, sym c.self.view_is) (has-place c.args.sign c.self.inside.text.now c.self.inside.signs c.self.invariant)
