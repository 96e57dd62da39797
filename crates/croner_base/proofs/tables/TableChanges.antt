-- The clock of a calm table changes where the table has a change, and nowhere else.
use Rattle.std.proofs.Common.{◌≡◌, ◌↔◌, ℕ, zero, suc, ◌<◌, true, refl, sym, ◌∙◌, subst, inl, inr, arith, ℤ, pos, ◌+ℤ◌, ◌-ℤ◌, ◌<ℤ◌, List, [], ◌∷◌, length, get_or}
use Rattle.std.specs.List.{All}
use Rattle.std.proofs.lemmas.Int.{ints}
use Rattle.std.proofs.lemmas.List.Elements.{All-head, All-tail}
use Rattle.croner_base.specs.declared.time.table.ClockTable.{ClockTable}
use Rattle.croner_base.specs.Calm.{IsChange}
use Rattle.croner_base.specs.Table.{are_changes, offset_at}
use Rattle.croner_base.specs.TableZone.{clock, table_zone}
use Rattle.croner_base.proofs.tables.TableCalm.{IsOffsetChange, place, at_change}
use Rattle.croner_base.proofs.tables.TableCheck.{first_change, calm_parts}
use Rattle.croner_base.proofs.tables.TableReadings.{passed, apart_after}
use Rattle.croner_base.proofs.tables.TableTests.{step_moves}

-- no change of the list lies at an instant
abbrev IsNoneAt : List (ℤ × ℤ) → ℤ → Type 0
IsNoneAt cs i = All (λ c. ¬ (c.0 ≡ i)) cs

change_listed : (o : ℤ) (cs : List (ℤ × ℤ)) (i : ℤ) → IsOffsetChange o cs i → ¬ (IsNoneAt cs i)
change_listed o [] i moved none = moved refl
change_listed o (c ∷ cs) i moved none = elim (place o c cs i moved) [
  | inl here ↦ All-head (λ (d : ℤ × ℤ). ¬ (d.0 ≡ i)) c cs none (sym here)
  | inr later ↦ change_listed c.1 cs i later.1 (All-tail (λ (d : ℤ × ℤ). ¬ (d.0 ≡ i)) c cs none)
]

moves_there : (o : ℤ) (c : ℤ × ℤ) (cs : List (ℤ × ℤ)) → are_changes o (c ∷ cs) ≡ true → IsOffsetChange o (c ∷ cs) c.0
moves_there o c cs h same =
    let f = first_change o c cs h in
    let at = at_change o c cs c.0 f.apart refl in
    step_moves o c.1 f.step (sym at.1 ∙ sym same ∙ at.0)

moves_later : (o : ℤ) (c : ℤ × ℤ) (cs : List (ℤ × ℤ)) (i : ℤ) → c.0 <ℤ i → IsOffsetChange c.1 cs i → IsOffsetChange o (c ∷ cs) i
moves_later o c cs i before moved same =
    moved (sym (passed o c cs i (omega (arith, ints, before))) ∙ same ∙ passed o c cs (i -ℤ pos 1) (omega (arith, ints, before)))

listed_moves : (o : ℤ) (cs : List (ℤ × ℤ)) (k : ℕ) (d : ℤ × ℤ) → are_changes o cs ≡ true → k < length cs → IsOffsetChange o cs (get_or cs k d).0
listed_moves o [] k d h within = absurd (omega (arith, within))
listed_moves o (c ∷ cs) zero d h within = moves_there o c cs h
listed_moves o (c ∷ []) (suc k) d h within = absurd (omega (arith, within))
listed_moves o (c ∷ e ∷ es) (suc k) d h within =
    let f = first_change o c (e ∷ es) h in
    let far = apart_after c (e ∷ es) k d (omega (arith, within)) f.apart f.rest in
    moves_later o c (e ∷ es) (get_or (e ∷ es) k d).0 (omega (arith, ints, far)) (listed_moves c.1 (e ∷ es) k d f.rest (omega (arith, within)))

plain_change : (i x y : ℤ) → x ≡ y → i +ℤ x ≡ ((i -ℤ pos 1) +ℤ y) +ℤ pos 1
plain_change i x y e = omega (arith, ints, e)

plain_offset : (i x y : ℤ) → i +ℤ x ≡ ((i -ℤ pos 1) +ℤ y) +ℤ pos 1 → x ≡ y
plain_offset i x y e = omega (arith, ints, e)

pub changes_listed : (t : ClockTable) (i : ℤ) → IsChange (table_zone t) i ↔ ¬ (IsNoneAt t.changes.items i)
unfolding clock
changes_listed t i =
    let h = (calm_parts t.first_offset t.changes.items t.calm).changes in (
      λ change. change_listed t.first_offset t.changes.items i (λ same. change (plain_change i _ _ same)),
      λ some same. some (λ k d within at. listed_moves t.first_offset t.changes.items k d h within (subst (λ (j : ℤ). offset_at t.first_offset t.changes.items j ≡ offset_at t.first_offset t.changes.items (j -ℤ pos 1)) (sym at) (plain_offset i _ _ same))),
    )
