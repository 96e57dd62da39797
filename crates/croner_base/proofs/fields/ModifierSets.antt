-- Marks as sets: what a mark adds to the set of each modifier.
use Rattle.std.proofs.Common.{◌≡◌, ◌≢◌, ℕ, ◌*◌, ◌^◌, ◌<◌, not, ◌||◌, eqb, length, ap, sym, ◌∙◌, arith, inl, inr, get_or-set_same, get_or-set_other, eq-eqb}
use Rattle.std.specs.Int.{bit_at}
use Rattle.std.specs.Prelude.{bit_and, bit_or, max}
use Rattle.std.proofs.lemmas.Bool.{cases_eq, ne_eqb}
use Rattle.std.proofs.lemmas.Bool.Decides.{nat_tests}
use Rattle.std.proofs.lemmas.Nat.Bits.{and_pow, bit_at_or, bit_at-lt}
use Rattle.std.proofs.Math.Pow.{pow_pos}
use Rattle.std.proofs.Math.Nat.{zero-mul, one-mul}
use Rattle.croner_base.specs.Field.{Field, has_any, is_marked, with_mark}

-- a bit stands just where it is not 0
pub has_bit : (n k : ℕ) → has_any n (2 ^ k) ≡ not (eqb (bit_at n k) 0)
has_bit n k = ap not (elim (cases_eq (bit_at n k) 0) [
  | inl e ↦ eq-eqb _ 0 (and_pow n k ∙ ap (λ b. b * 2 ^ k) e ∙ zero-mul (2 ^ k)) ∙ sym (eq-eqb (bit_at n k) 0 e)
  | inr ne ↦
      let one : bit_at n k ≡ 1 = omega (arith, bit_at-lt n k) in
      let all : bit_and n (2 ^ k) ≡ 2 ^ k = and_pow n k ∙ ap (λ b. b * 2 ^ k) one ∙ one-mul (2 ^ k) in
      let some : 0 < 2 ^ k = pow_pos k in
      ne_eqb _ 0 (λ z. absurd (omega (arith, all, some, z))) ∙ sym (ne_eqb (bit_at n k) 0 ne)
])

max_zero : (x y : ℕ) → not (eqb (max x y) 0) ≡ (not (eqb x 0) || not (eqb y 0))
max_zero x y = grind (arith, nat_tests)

has_any-or : (a b k : ℕ) → has_any (bit_or a b) (2 ^ k) ≡ (has_any a (2 ^ k) || has_any b (2 ^ k))
has_any-or a b k = rw (has_bit (bit_or a b) k, has_bit a k, has_bit b k, bit_at_or a b k) (max_zero (bit_at a k) (bit_at b k))

-- the value itself gains the bits, and every other keeps its own
pub is_marked-with_mark_same : (k : ℕ) (f : Field) (v m : ℕ) → v < length f.marks → is_marked (2 ^ k) (with_mark f v m) v ≡ (is_marked (2 ^ k) f v || has_any m (2 ^ k))
is_marked-with_mark_same k f v m h = ap (λ x. has_any x (2 ^ k)) (get_or-set_same f.marks v _ 0 h) ∙ has_any-or _ m k

pub is_marked-with_mark_other : (k : ℕ) (f : Field) (v w m : ℕ) → w ≢ v → is_marked (2 ^ k) (with_mark f v m) w ≡ is_marked (2 ^ k) f w
is_marked-with_mark_other k f v w m h = ap (λ x. has_any x (2 ^ k)) (get_or-set_other f.marks v w _ 0 h)
