use Rattle.std.proofs.Common.{◌≡◌, ◌-◌, arith}
use Rattle.croner_base.specs.Private.Signs.{place_of}
use Rattle.croner_base.proofs.fields.SignPlaces.{front-boundary, signs-front}
use Rattle.croner_base.proofs.component.text.Part.part_before.Goals as goal

pub range-requires-clause-end_boundary : goal.range-requires-clause-end_boundary
range-requires-clause-end_boundary c =
    rw c.place-end.ensures (front-boundary c.args.sign c.self.inside.text.now c.self.inside.signs c.self.invariant)

pub invariant_of-result : goal.invariant_of-result
invariant_of-result c =
    let whole : place_of c.self.inside.signs c.args.sign - 0 ≡ place_of c.self.inside.signs c.args.sign = omega arith in
    rw (c.places_up_to.ensures, c.range.ensures.value, c.place-end.ensures, whole) (signs-front c.self.inside.text.now c.self.inside.signs c.args.sign c.self.invariant)
