use Rattle.std.proofs.Common.{◌≡◌, ◌∙◌, ◌<◌, length, subst, sym}
use Rattle.croner_base.specs.Private.Signs.{AreSigns}
use Rattle.croner_base.proofs.fields.SignPlaces.{back-boundary}
use Rattle.croner_base.proofs.component.text.Part.text_after.Goals as goal

pub range_from-requires : goal.range_from-requires
range_from-requires c = λ h.
    let same : c.self.inside.text.now ≡ c.text-text.result.now = c.self.view_is ∙ sym c.text-text.ensures in
    let signs = subst (λ t. AreSigns t c.self.inside.signs) same c.self.invariant in
    rw c.place-at.ensures (back-boundary c.args.sign c.text-text.result.now c.self.inside.signs signs c.text-text.utf8 (subst (λ n. n < length c.text-text.result.now) c.place-at.ensures c.if-at-text.true))
