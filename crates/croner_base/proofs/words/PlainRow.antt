-- The plain row and the plain values.
use Rattle.std.proofs.Common.{◌≡◌, ◌≢◌, ℕ, ◌*◌, ◌/◌, ◌%◌, ◌<◌, ◌≤◌, false, not, eqb, List, [], get_or, take, bit_and, ap, sym, ◌∙◌, arith}
use Rattle.std.specs.Int.{bit_at}
use Rattle.std.proofs.lemmas.Bool.Decides.{nat_tests}
use Rattle.std.proofs.lemmas.List.{get_or-take}
use Rattle.std.proofs.lemmas.Nat.{mul-le}
use Rattle.std.proofs.lemmas.Nat.Bits.{and_pow, bit_at-lt, bit_at-zero}
use Rattle.croner_base.specs.Field.{room}
use Rattle.croner_base.specs.Private.words.Marked.{Marked, is_set}
use Rattle.croner_base.specs.Private.words.Rows.{width, in_row, rows_below, marks_in}
use Rattle.croner_base.proofs.words.RowPlaces.{row_before, rows_below-zero, word_within}
use Rattle.croner_base.proofs.words.Sums.{mark_one, mark_none, sums_bit, sums_past}

-- ---- the row

plain_is_one : (s : ℕ) → bit_and s 1 ≢ 0 → bit_at s 0 ≡ 1
plain_is_one s h = omega (arith, and_pow s 0, bit_at-lt s 0)

-- where plain values are supported, their row is whole
pub row_is_there : (s wide size : ℕ) → bit_and s 1 ≢ 0 → size ≡ rows_below s 8 * wide → wide ≤ size
row_is_there s wide size is long =
    let some : 1 ≤ rows_below s 8 = omega (arith, row_before s 0 8 (plain_is_one s is) (omega arith)) in
    omega (arith, mul-le 1 wide (rows_below s 8) wide some (omega arith))

-- the test of a value is its bit
is_plain : (f : Marked) (v : ℕ) → eqb (bit_at (get_or f.marks v 0) 0) 1 ≡ is_set 1 f v
is_plain f v = some (bit_at (get_or f.marks v 0) 0) (bit_and (get_or f.marks v 0) 1) (bit_at-lt (get_or f.marks v 0) 0) (omega (arith, and_pow (get_or f.marks v 0) 0))
  where
    some : (n m : ℕ) → n < 2 → m ≡ n → eqb n 1 ≡ not (eqb m 0)
    some n m h e = grind (arith, nat_tests)

-- that row shows them
pub plain_row : (words : List ℕ) (max s v : ℕ) → bit_and s 1 ≢ 0 → v < room max → in_row (take (width max) words) v ≡ is_set 1 (marks_in words max s) v
plain_row words max s v is here =
    let within : v / 64 < width max = word_within v max here in
    let none : rows_below s 0 * width max ≡ 0 = ap (λ n. n * width max) (rows_below-zero s) ∙ omega arith in
    ap (λ n. eqb n 1) (ap (λ w. bit_at w (v % 64)) (get_or-take (width max) words (v / 64) 0 within)
    ∙ mark_one words (width max) s 0 v (v / 64) (plain_is_one s is) (omega arith)
    ∙ sym (sums_bit words max s v 0 here (omega arith))) ∙ is_plain (marks_in words max s) v

-- and where they are not, none is marked
pub no_plain_row : (words : List ℕ) (max s v : ℕ) → bit_and s 1 ≡ 0 → v < room max → in_row [] v ≡ is_set 1 (marks_in words max s) v
no_plain_row words max s v off here =
    ap (λ n. eqb n 1) (bit_at-zero (v % 64) ∙ sym (sums_bit words max s v 0 here (omega arith) ∙ mark_none words (width max) s 0 v (λ one. absurd (omega (arith, and_pow s 0)))))
    ∙ is_plain (marks_in words max s) v

-- no value past the room is marked
pub none_past : (words : List ℕ) (max s v : ℕ) → room max ≤ v → is_set 1 (marks_in words max s) v ≡ false
none_past words max s v past = ap (λ n. not (eqb (bit_and n 1) 0)) (sums_past words max s v past)
