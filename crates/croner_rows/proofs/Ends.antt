-- Where no search is promised: near an end of what a zone's backend holds.
use Rattle.std.proofs.Common.{◌≡◌, sym, ◌∙◌, ℤ, Bool, IsTrue, false}
use Rattle.std.proofs.lemmas.Bool.{false≢true}
use Rattle.croner.specs.Calm.{IsNear}
use Rattle.croner.specs.Zone.{Moment}
use Rattle.croner.specs.search.Premises.{IsSearchable}

-- where an answer says that a second near a moment isn't held
pub not_searchable : (b : Bool) (m : Moment) (i : ℤ) → IsNear m.instant i → (IsTrue b → m.zone.holds i ≡ false) → IsTrue b → IsSearchable m → ⊥
not_searchable b m i near unheld is searchable = false≢true (sym (unheld is) ∙ searchable.held.near_instants i near)
