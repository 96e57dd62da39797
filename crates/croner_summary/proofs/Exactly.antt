-- What pieces name, one by one.
use Rattle.std.proofs.Common.{◌≡◌, ℕ, ◌+◌, ◌≤◌, Bool, true, false, ◌&&◌, ◌||◌, List, refl, ap, sym, ◌∙◌, subst, arith, inl, inr}
use Rattle.std.proofs.lemmas.Bool.{cases_eq}
use Rattle.croner_summary.specs.declared.phrase.Piece.{Piece}
use Rattle.croner_base.specs.Field.{Field}
use Rattle.croner_pattern.specs.Schedule.{is_named}
use Rattle.croner_summary.specs.Order.{AreInOrder, times_named}
use Rattle.croner_summary.specs.Says.{is_in_some}
use Rattle.croner_summary.specs.Private.Exact.{AgreeBelow, NameOnceBelow, RiseWithin}

pub or_false : (a : Bool) → (a || false) ≡ a
or_false true = refl
or_false false = refl

pub or_true : (a : Bool) → (a || true) ≡ true
or_true true = refl
or_true false = refl

pub and_false : (a : Bool) → (a && false) ≡ false
and_false true = refl
and_false false = refl

-- one value more agrees
pub agree_more : (least greatest : ℕ) (pieces : List Piece) (bit : ℕ) (f : Field) (end : ℕ) → AgreeBelow least greatest pieces bit f end
    → is_in_some least greatest pieces end ≡ is_named bit f end → AgreeBelow least greatest pieces bit f (end + 1)
agree_more least greatest pieces bit f end before here value low high =
    elim (cases_eq value end) [
      | inl e ↦ ap (is_in_some least greatest pieces) e ∙ here ∙ ap (is_named bit f) (sym e)
      | inr ne ↦ before value low (omega arith)
    ]

-- and one that is named once at most
pub once_more : (least greatest : ℕ) (pieces : List Piece) (end : ℕ) → NameOnceBelow least greatest pieces end
    → times_named least greatest pieces end ≤ 1 → NameOnceBelow least greatest pieces (end + 1)
once_more least greatest pieces end before here value low high =
    elim (cases_eq value end) [
      | inl e ↦ subst (λ v. times_named least greatest pieces v ≤ 1) (sym e) here
      | inr ne ↦ before value low (omega arith)
    ]

-- pieces that passed both tests stand in order
pub in_order_of : (least greatest : ℕ) (pieces one other : List Piece) → one ≡ pieces → other ≡ pieces
    → RiseWithin least greatest one → NameOnceBelow least greatest other (greatest + 1) → AreInOrder least greatest pieces
in_order_of least greatest pieces one other one_is other_is rise once =
    let stands : RiseWithin least greatest pieces = subst (λ xs. RiseWithin least greatest xs) one_is rise in
    let below : NameOnceBelow least greatest pieces (greatest + 1) = subst (λ xs. NameOnceBelow least greatest xs (greatest + 1)) other_is once in
    record {
      within = stands.within;
      once = λ value low high. below value low (omega arith);
      rising = stands.rising;
    }
