-- The marks of the fields that words stand for.
use Rattle.std.proofs.Common.{◌≡◌, ℕ, zero, suc, ◌+◌, ◌*◌, ◌-◌, ◌<◌, Bool, true, false, ◌==◌, refl, ap, sym, ◌∙◌, arith}
use Rattle.std.specs.Int.{bit_at}
use Rattle.std.proofs.lemmas.Bool.Decides.{nat_tests}
use Rattle.std.proofs.lemmas.List.FromFn.{get_or-map-range_with_len}
use Rattle.std.proofs.lemmas.Nat.Bits.{bit_at-lt}
use Rattle.croner_base.specs.Field.{Shape, room, has_any, can_ask, is_marked}
use Rattle.croner_pattern.specs.Words.{ShowsPlain, ShowsDays}
use Rattle.croner_pattern.specs.Shapes.{day_shape}
use Rattle.croner.specs.compact.WordFields.{field_of, day_field, day_sum}
use Rattle.croner.specs.declared.compact.parts.LastDay.{LastDay}

-- a value that can be asked for has a place
pub asked_room : (s : Shape) (v bits : ℕ) → can_ask s v bits ≡ true → v < room s.max
asked_room s v bits h = grind (arith, nat_tests)

-- the mark of a value is its sum
pub marks_at : (shape : Shape) (star : Bool) (sum : ℕ → ℕ) (bits v : ℕ) → v < room shape.max → is_marked bits (field_of shape star sum) v ≡ has_any (sum v) bits
marks_at shape star sum bits v h = ap (λ n. has_any n bits) (get_or-map-range_with_len sum 0 (room shape.max) v v 0 h (omega arith))

one_bit : (n : ℕ) → n < 2 → has_any n 1 ≡ (n == 1)
one_bit zero h = refl
one_bit (suc zero) h = refl
one_bit (suc (suc n)) h = absurd (omega arith)

-- a word shows the plain values of the field that it stands for
pub shows_plain : (shape : Shape) (star : Bool) (word : ℕ) → ShowsPlain (field_of shape star (bit_at word)) word
shows_plain shape star word v small asks =
    sym (marks_at shape star (bit_at word) 1 v (asked_room shape v 1 asks) ∙ one_bit (bit_at word v) (bit_at-lt word v))

two_bits : (a b : ℕ) → a < 2 → b < 2 → (has_any (a + 128 * b) 1 ≡ (a == 1)) × (has_any (a + 128 * b) 128 ≡ (b == 1))
two_bits zero zero ha hb = (refl, refl)
two_bits zero (suc zero) ha hb = (refl, refl)
two_bits (suc zero) zero ha hb = (refl, refl)
two_bits (suc zero) (suc zero) ha hb = (refl, refl)
two_bits zero (suc (suc b)) ha hb = absurd (omega arith)
two_bits (suc zero) (suc (suc b)) ha hb = absurd (omega arith)
two_bits (suc (suc a)) b ha hb = absurd (omega arith)

module _ (plain nearest : ℕ) (last : LastDay) where
  day_marks : (bits place : ℕ) → place < 31 → is_marked bits (day_field plain nearest last) (place + 1) ≡ has_any (bit_at plain place + 128 * bit_at nearest place) bits
  day_marks bits place h =
      let back : (place + 1) - 1 ≡ place = omega arith in
      marks_at day_shape false (day_sum plain nearest) bits (place + 1) (omega arith) ∙ ap (λ n. has_any (bit_at plain n + 128 * bit_at nearest n) bits) back

  -- the two words show the days
  pub shows_days : ShowsDays 31 (is_marked 1 (day_field plain nearest last)) plain
  shows_days place h = sym (day_marks 1 place h ∙ (two_bits (bit_at plain place) (bit_at nearest place) (bit_at-lt plain place) (bit_at-lt nearest place)).0)

  pub shows_nearest : ShowsDays 31 (is_marked 128 (day_field plain nearest last)) nearest
  shows_nearest place h = sym (day_marks 128 place h ∙ (two_bits (bit_at plain place) (bit_at nearest place) (bit_at-lt plain place) (bit_at-lt nearest place)).1)
