-- The changes that a table lists fit the types in which they stand.
use Rattle.std.proofs.Common.{◌≡◌, ℕ, zero, suc, ◌<◌, true, sym, subst, arith, ℤ, List, [], ◌∷◌, length, get_or, FitsSigned, w32, w64}
use Rattle.std.proofs.lemmas.Int.{ints}
use Rattle.croner_base.specs.declared.time.table.ClockTable.{ClockTable}
use Rattle.croner_base.specs.Table.{are_changes}
use Rattle.croner_base.proofs.tables.TableCheck.{first_change, calm_parts}
use Rattle.croner_base.proofs.tables.TableTests.{instant_bounds, offset_bounds}

-- a row's numbers fit their types
row_fits : (o : ℤ) (cs : List (ℤ × ℤ)) (n : ℕ) (d : ℤ × ℤ) → are_changes o cs ≡ true → n < length cs → FitsSigned w64 (get_or cs n d).0 × FitsSigned w32 (get_or cs n d).1
row_fits o [] n d h inside = absurd (omega (arith, inside))
row_fits o (c ∷ cs) zero d h inside =
    let f = first_change o c cs h in
    let i = instant_bounds c.0 f.instant_in in
    let b = offset_bounds c.1 f.offset_in in
    (omega (arith, ints, i), omega (arith, ints, b))
row_fits o (c ∷ cs) (suc n) d h inside = row_fits c.1 cs n d (first_change o c cs h).rest (omega (arith, inside))

pub table_fits : (t : ClockTable) (read : List (ℤ × ℤ)) (n : ℕ) (d : ℤ × ℤ) → read ≡ t.changes.items → n < length read → FitsSigned w64 (get_or read n d).0 × FitsSigned w32 (get_or read n d).1
table_fits t read n d same inside =
    row_fits t.first_offset read n d (subst (λ (cs : List (ℤ × ℤ)). are_changes t.first_offset cs ≡ true) (sym same) (calm_parts t.first_offset t.changes.items t.calm).changes) inside
