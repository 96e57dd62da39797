-- The weekdays that rows of bits stand for.
use Rattle.std.proofs.Common.{◌≡◌, ℕ, zero, suc, ◌+◌, ◌*◌, ◌^◌, ◌<◌, false, not, eqb, List, slice_index, refl, ap, sym, ◌∙◌, arith}
use Rattle.std.specs.Prelude.{◌==◌}
use Rattle.std.specs.Int.{bit_at}
use Rattle.std.proofs.lemmas.Bool.Decides.{nat_tests}
use Rattle.std.proofs.lemmas.Nat.Bits.{bit_at-lt, bit_at-zero}
use Rattle.croner_base.specs.Field.{has_any, is_marked}
use Rattle.croner_base.specs.Private.words.Rows.{number_of}
use Rattle.croner_base.proofs.fields.ModifierSets as sets
use Rattle.croner_base.proofs.words.Sums.{AreBits, number_of-bit}
use Rattle.croner_pattern.specs.Words.{has_bit}
use Rattle.croner_pattern.specs.Shapes.{weekday_shape}
use Rattle.croner.specs.compact.WordFields.{week_sum, week_field}
use Rattle.croner.proofs.compact.WordMarks.{marks_at}

abbrev row_bit : List ℕ → ℕ → ℕ → ℕ
row_bit rows w k = bit_at (slice_index rows k) w

are_bits : (rows : List ℕ) (w : ℕ) → AreBits (row_bit rows w)
are_bits rows w i = bit_at-lt (slice_index rows i) w

week_number : (rows : List ℕ) (w : ℕ) → week_sum rows w ≡ number_of (row_bit rows w) 7
unfolding number_of
week_number rows w = omega arith

week_bit : (rows : List ℕ) (k w : ℕ) → k < 7 → bit_at (week_sum rows w) k ≡ row_bit rows w k
week_bit rows k w h = ap (λ n. bit_at n k) (week_number rows w) ∙ number_of-bit (row_bit rows w) 7 k (are_bits rows w) h

not_zero : (n : ℕ) → n < 2 → not (eqb n 0) ≡ (n == 1)
not_zero zero h = refl
not_zero (suc zero) h = refl
not_zero (suc (suc n)) h = absurd (omega arith)

week_marks : (rows : List ℕ) (bits w : ℕ) → w < 7 → is_marked bits (week_field rows) w ≡ has_any (week_sum rows w) bits
week_marks rows bits w h = let small : w < 8 = omega arith in marks_at (weekday_shape 0) false (week_sum rows) bits w small

-- a row shows the weekdays of its modifier
pub shows_week : (rows : List ℕ) (k w : ℕ) → k < 7 → w < 7 → has_bit (slice_index rows k) w ≡ is_marked (2 ^ k) (week_field rows) w
shows_week rows k w hk hw =
    sym (week_marks rows (2 ^ k) w hw ∙ sets.has_bit (week_sum rows w) k ∙ ap (λ n. not (eqb n 0)) (week_bit rows k w hk)
    ∙ not_zero (row_bit rows w k) (bit_at-lt (slice_index rows k) w))

no_nth : (a b : ℕ) → a < 2 → b < 2 → has_any (a + 64 * b) 62 ≡ false
no_nth zero zero ha hb = refl
no_nth zero (suc zero) ha hb = refl
no_nth (suc zero) zero ha hb = refl
no_nth (suc zero) (suc zero) ha hb = refl
no_nth zero (suc (suc b)) ha hb = absurd (omega arith)
no_nth (suc zero) (suc (suc b)) ha hb = absurd (omega arith)
no_nth (suc (suc a)) b ha hb = absurd (omega arith)

-- with five empty rows no weekday is an nth one
pub none_nth : (rows : List ℕ) (w : ℕ) → w < 7 → slice_index rows 1 ≡ 0 → slice_index rows 2 ≡ 0 → slice_index rows 3 ≡ 0 → slice_index rows 4 ≡ 0 → slice_index rows 5 ≡ 0
    → is_marked 62 (week_field rows) w ≡ false
none_nth rows w h a b c d e =
    let bit = row_bit rows w in
    let one : bit 1 ≡ 0 = ap (λ n. bit_at n w) a ∙ bit_at-zero w in
    let two : bit 2 ≡ 0 = ap (λ n. bit_at n w) b ∙ bit_at-zero w in
    let three : bit 3 ≡ 0 = ap (λ n. bit_at n w) c ∙ bit_at-zero w in
    let four : bit 4 ≡ 0 = ap (λ n. bit_at n w) d ∙ bit_at-zero w in
    let five : bit 5 ≡ 0 = ap (λ n. bit_at n w) e ∙ bit_at-zero w in
    let sum : week_sum rows w ≡ bit 0 + 64 * bit 6 = omega (arith, one, two, three, four, five) in
    week_marks rows 62 w h ∙ ap (λ n. has_any n 62) sum ∙ no_nth (bit 0) (bit 6) (bit_at-lt (slice_index rows 0) w) (bit_at-lt (slice_index rows 6) w)

pub zero_of : (n : ℕ) → not (eqb n 0) ≡ false → n ≡ 0
zero_of n h = grind (arith, nat_tests)
