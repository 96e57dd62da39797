-- The plain values of a field as the bits of a word.
use Rattle.std.proofs.Common.{◌≡◌, ◌↔◌, ℕ, suc, ◌-◌, ◌*◌, ◌/◌, ◌%◌, ◌^◌, ◌<◌, ◌≤◌, ◌==◌, true, bit_and, inl, inr, ap, sym, ◌∙◌, subst, arith, w64, pos}
use Rattle.std.specs.Int.{bit_at, trailing_zeros, leading_zeros}
use Rattle.std.proofs.lemmas.Bool.{cases_lt, eqb-true}
use Rattle.std.proofs.lemmas.Nat.{leading_top}
use Rattle.std.proofs.lemmas.Nat.Bits.{bit_at_and, bit_at-lt, bit_at-trailing_zeros, ones_shl, ones_shr, bit_at_ones, bit_at_ones_above, bit_at_above, bit_at_mask_inside, bit_at_mask_below, bit_at-zero}
use Rattle.jiff_core.proofs.SignedLemmas.{signed_arith}
use Rattle.croner_base.specs.declared.time.Direction.{Direction}
use Rattle.croner_base.specs.declared.time.Direction.TheVariants.{Forward, Backward}
use Rattle.croner_base.specs.Field.{Field}
use Rattle.croner_base.proofs.words.WordSearch.{top_bit}
use Rattle.croner_pattern.specs.Meaning.{Meaning}
use Rattle.croner_pattern.specs.Shapes.{has_field_shapes}
use Rattle.croner_pattern.proofs.questions.FieldShapes.{field_shapes, asks_sixty, asks_hour, asks_month, marked_named}
use Rattle.croner_pattern.specs.Directions.{Precedes, Reaches}
use Rattle.croner_pattern.specs.Words.{ShowsPlain}
use Rattle.croner_pattern.proofs.civil.Ahead.{either}
use Rattle.croner_pattern.specs.Private.Cursor.{AreFrom, HoldsAll, IsOnTheWay, IsPlainWithin, IsForemost, IsNearest, NoneOn}

-- ---- bits of a word

-- the bits that a mask keeps
kept : (word mask b : ℕ) (Ahead : Type 0) → (bit_at word b ≡ 1 → bit_at mask b ≡ 1 → Ahead) → (bit_at word b ≡ 1 → Ahead → bit_at mask b ≡ 1) → (bit_at (bit_and word mask) b ≡ 1) ↔ ((bit_at word b ≡ 1) × Ahead)
kept word mask b Ahead to back = (
  λ h.
      let both = bit_at_and word mask b in
      let a : bit_at word b ≡ 1 = omega (arith, h, both, bit_at-lt word b, bit_at-lt mask b) in
      let k : bit_at mask b ≡ 1 = omega (arith, h, both, bit_at-lt word b, bit_at-lt mask b) in
      (a, to a k),
  λ h. omega (arith, bit_at_and word mask b, h.0, back h.0 h.1),
)

-- only the places of a word have bits
in_word : (word b : ℕ) → word < 2 ^ 64 → bit_at word b ≡ 1 → b < 64
in_word word b fits one = elim (cases_lt b 64) [ inl lt ↦ lt | inr le ↦ absurd (omega (arith, bit_at_above word 64 b fits le, one)) ]

pub from_forward : (word from : ℕ) → word < 2 ^ 64 → from < 64 → AreFrom Forward word from (bit_and word ((2 ^ 64 - 1) * 2 ^ from % 2 ^ 64))
from_forward word from fits small b =
    let e = ones_shl 64 from (omega arith) in
    rw e
    (kept word (2 ^ 64 - 2 ^ from) b (Reaches Forward (pos from) (pos b))
    (λ a k. elim (cases_lt b from) [
      | inl lt ↦ absurd (omega (arith, k, bit_at_mask_below from 64 b lt))
      | inr le ↦ omega (arith, signed_arith)
    ])
    (λ a ahead. bit_at_mask_inside from 64 b (omega (arith, signed_arith)) (in_word word b fits a)))

pub from_backward : (word from : ℕ) → word < 2 ^ 64 → from < 64 → AreFrom Backward word from (bit_and word ((2 ^ 64 - 1) / 2 ^ (63 - from)))
from_backward word from fits small b =
    let e = ones_shr 64 (63 - from) (omega arith) in
    rw e
    (kept word (2 ^ (64 - (63 - from)) - 1) b (Reaches Backward (pos from) (pos b))
    (λ a k. elim (cases_lt from b) [
      | inl lt ↦ absurd (omega (arith, k, bit_at_ones_above (64 - (63 - from)) b (omega arith)))
      | inr le ↦ omega (arith, signed_arith)
    ])
    (λ a ahead. bit_at_ones (64 - (63 - from)) b (omega (arith, signed_arith))))

-- a bit before which there is none
foremost_bit : (dir : Direction) (word place : ℕ) → bit_at word place ≡ 1 → ((b : ℕ) → Precedes dir (pos b) (pos place) → bit_at word b ≡ 0) → IsForemost pos (λ b. bit_at word b ≡ 1) dir place
foremost_bit dir word place one rest = record {
  is = one;
  first = λ y h. elim (either dir (pos y) (pos place)) [ inl before ↦ absurd (omega (arith, h, rest y before)) | inr on ↦ on ];
}

pub lowest_bit : (word : ℕ) → 0 < word → word < 2 ^ 64 → IsForemost pos (λ b. bit_at word b ≡ 1) Forward (trailing_zeros w64 word)
lowest_bit word some fits =
    let t = bit_at-trailing_zeros w64 word some fits in
    foremost_bit Forward word (trailing_zeros w64 word) t.1 (λ b lt. t.2 b (omega (arith, signed_arith, lt)))

pub highest_bit : (word : ℕ) → 0 < word → word < 2 ^ 64 → IsForemost pos (λ b. bit_at word b ≡ 1) Backward (63 - leading_zeros w64 word)
highest_bit word some fits =
    let t = leading_top 64 word some fits in
    let e : t.0 ≡ 63 - leading_zeros w64 word = omega (arith, t.1) in
    subst (IsForemost pos (λ b. bit_at word b ≡ 1) Backward) e
    (foremost_bit Backward word t.0 (top_bit word t.0 t.2 t.3) (λ b lt. bit_at_above word (suc t.0) b t.3 (omega (arith, signed_arith, lt))))

pub no_bit : (word b : ℕ) → word ≡ 0 → ¬ (bit_at word b ≡ 1)
no_bit word b e h = omega (arith, ap (λ n. bit_at n b) e, bit_at-zero b, h)

-- ---- the values of a field

module _ (f : Field) (dir : Direction) (min max from word : ℕ) (small : max < 63) (held : HoldsAll f min max) (shows : ShowsPlain f word) where
  plain-bit : (v : ℕ) → IsPlainWithin f min max v → bit_at word v ≡ 1
  plain-bit v p = eqb-true _ _ (shows v (omega (arith, p.high)) (held v p.low p.high) ∙ marked_named 1 f v (held v p.low p.high) ∙ p.plain)

  pub none_ahead : NoneOn pos (λ b. bit_at word b ≡ 1) dir (pos from) → NoneOn pos (IsPlainWithin f min max) dir (pos from)
  none_ahead none v on p = none v on (plain-bit v p)

  pub nearest_ahead : (found : ℕ) → IsNearest pos (λ b. bit_at word b ≡ 1) dir (pos from) found → min ≤ found → found ≤ max → IsNearest pos (IsPlainWithin f min max) dir (pos from) found
  nearest_ahead found h low high = record {
    on = h.on;
    is = record { low = low; high = high; plain = sym (marked_named 1 f found (held found low high)) ∙ sym (shows found (omega arith) (held found low high)) ∙ ap (λ n. n == 1) h.is };
    first = λ v on p. h.first v on (plain-bit v p);
  }

  -- what is found from a value on the way lies beside the others
  beside : (found v : ℕ) → IsOnTheWay dir min max from → Reaches dir (pos from) (pos found) → Reaches dir (pos found) (pos v) → min ≤ v → v ≤ max → (min ≤ found) × (found ≤ max)
  beside found v way on first low high = grind (arith, signed_arith)

  pub outside_ahead : (found : ℕ) → IsNearest pos (λ b. bit_at word b ≡ 1) dir (pos from) found → IsOnTheWay dir min max from → (min ≤ found → found ≤ max → ⊥) → NoneOn pos (IsPlainWithin f min max) dir (pos from)
  outside_ahead found h way out v on p =
      let there = beside found v way h.on (h.first v on (plain-bit v p)) p.low p.high in
      out there.0 there.1

-- ---- the fields of a pattern hold the values of their places

pub holds_seconds : (m : Meaning) → has_field_shapes m ≡ true → HoldsAll m.seconds 0 59
holds_seconds m h v low high = asks_sixty m.seconds.shape v (field_shapes m h).seconds high

pub holds_minutes : (m : Meaning) → has_field_shapes m ≡ true → HoldsAll m.minutes 0 59
holds_minutes m h v low high = asks_sixty m.minutes.shape v (field_shapes m h).minutes high

pub holds_hours : (m : Meaning) → has_field_shapes m ≡ true → HoldsAll m.hours 0 23
holds_hours m h v low high = asks_hour m.hours.shape v (field_shapes m h).hours high

pub holds_months : (m : Meaning) → has_field_shapes m ≡ true → HoldsAll m.months 1 12
holds_months m h v low high = asks_month m.months.shape v (field_shapes m h).months low high
