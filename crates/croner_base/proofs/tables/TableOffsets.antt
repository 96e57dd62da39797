-- The offsets of a table around an instant.
use Rattle.std.proofs.Common.{◌≡◌, ◌⊎◌, inl, inr, false, true, refl, arith, ℤ, pos, neg_ℤ, ◌+ℤ◌, ◌≤ℤ◌, List, [], ◌∷◌, int_le}
use Rattle.jiff_core.proofs.SignedLemmas.{signed_arith}
use Rattle.croner_base.specs.Limits.{apart_limit}
use Rattle.croner_base.specs.Table.{is_apart, are_changes, offset_at, offset_limit, is_offset, is_calm_table}
use Rattle.croner_base.proofs.tables.TableCheck.{first_change, calm_parts}
use Rattle.croner_base.proofs.tables.TableTests.{lt_of, le_test, le_false, le_tells, offset_bounds}

-- an offset is at most a day
abbrev pub IsOffset : ℤ → Type 0
IsOffset o = (neg_ℤ (pos offset_limit) ≤ℤ o) × (o ≤ℤ pos offset_limit)

-- before the next change the offset stays
pub stays : (c : ℤ × ℤ) (cs : List (ℤ × ℤ)) (i : ℤ) → is_apart c cs ≡ true → i ≤ℤ (c.0 +ℤ pos apart_limit) → offset_at c.1 cs i ≡ c.1
stays c [] i h le = refl
stays c (d ∷ ds) i h le =
    let a = lt_of (c.0 +ℤ pos apart_limit) d.0 h in
    let t : int_le d.0 i ≡ false = le_false d.0 i (omega (arith, signed_arith, a)) in
    rw t

-- within two days and a second the offset changes at most once
changes_once : (o : ℤ) (cs : List (ℤ × ℤ)) (x i y : ℤ) → are_changes o cs ≡ true → x ≤ℤ i → i ≤ℤ y → y ≤ℤ (x +ℤ pos apart_limit +ℤ pos 1) → (offset_at o cs i ≡ offset_at o cs x) ⊎ (offset_at o cs i ≡ offset_at o cs y)
changes_once o [] x i y h low high near = inl refl
changes_once o (c ∷ cs) x i y h low high near = elim (le_tells c.0 i) [
  | inr early ↦ let before = le_false c.0 x (omega (arith, signed_arith, early)) in inl (rw (early.0, before))
  | inl late ↦
      let f = first_change o c cs h in
      let past = le_test c.0 y (omega (arith, signed_arith, late)) in
      elim (le_tells c.0 x) [
        | inl all ↦ rw (late.0, all.0, past) (changes_once c.1 cs x i y f.rest low high near)
        | inr before ↦
            let p = stays c cs i f.apart (omega (arith, signed_arith, before)) in
            let q = stays c cs y f.apart (omega (arith, signed_arith, before)) in
            inr (rw (late.0, past, p, q))
      ]
]

-- of a calm table
pub calm_changes_once : (o : ℤ) (cs : List (ℤ × ℤ)) (x i y : ℤ) → is_calm_table o cs ≡ true → x ≤ℤ i → i ≤ℤ y → y ≤ℤ (x +ℤ pos apart_limit +ℤ pos 1) → (offset_at o cs i ≡ offset_at o cs x) ⊎ (offset_at o cs i ≡ offset_at o cs y)
calm_changes_once o cs x i y h = changes_once o cs x i y (calm_parts o cs h).changes

-- each offset in force is at most a day
pub offset_within : (o : ℤ) (cs : List (ℤ × ℤ)) (i : ℤ) → is_offset o ≡ true → are_changes o cs ≡ true → IsOffset (offset_at o cs i)
offset_within o [] i b h = offset_bounds o b
offset_within o (c ∷ cs) i b h =
    let f = first_change o c cs h in
    elim (le_tells c.0 i) [ inl late ↦ rw late.0 (offset_within c.1 cs i f.offset_in f.rest) | inr early ↦ rw early.0 (offset_bounds o b) ]

pub calm_offset : (o : ℤ) (cs : List (ℤ × ℤ)) (i : ℤ) → is_calm_table o cs ≡ true → IsOffset (offset_at o cs i)
calm_offset o cs i h =
    let p = calm_parts o cs h in
    offset_within o cs i p.offset_in p.changes
