-- A field that names exactly one value.
use Rattle.std.proofs.Common.{◌≡◌, ℕ, zero, suc, ◌+◌, ◌-◌, ◌<◌, ◌≤◌, inl, inr, Bool, true, not, ◌&&◌, ◌==◌, length, sym, ap, ◌∙◌, arith}
use Rattle.std.proofs.lemmas.Bool.{and_parts, cases_Bool, cases_eq, cases_lt, false≢true}
use Rattle.std.proofs.lemmas.Bool.Decides.{nat_tests}
use Rattle.std.specs.List.{filter, range_with_len}
use Rattle.croner_base.specs.Field.{Field, can_ask, has_all, is_marked, marked_values, values_between}
use Rattle.croner_pattern.specs.Meaning.{Meaning}
use Rattle.croner_pattern.specs.Schedule.{is_plain, is_single, is_fixed_time}

-- of a range a filter keeps one number, and of two that pass two
one_in : (p : ℕ → Bool) (n a v : ℕ) → a ≤ v → v < a + n → p v ≡ true → 1 ≤ length (filter p (range_with_len a n))
one_in p zero a v low high e = absurd (omega arith)
one_in p (suc n) a v low high e = elim (cases_Bool (p a)) [
  | inl here ↦ rw here (omega arith)
  | inr none ↦ elim (cases_eq a v) [
    | inl same ↦ absurd (false≢true (sym none ∙ ap p same ∙ e))
    | inr other ↦ rw none (one_in p n (a + 1) v (omega arith) (omega arith) e)
  ]
]

two_in : (p : ℕ → Bool) (n a v w : ℕ) → a ≤ v → v < w → w < a + n → p v ≡ true → p w ≡ true → 2 ≤ length (filter p (range_with_len a n))
two_in p zero a v w low lt high e f = absurd (omega arith)
two_in p (suc n) a v w low lt high e f = elim (cases_Bool (p a)) [
  | inl here ↦ let rest = one_in p n (a + 1) w (omega arith) (omega arith) f in rw here (omega (arith, rest))
  | inr none ↦ elim (cases_eq a v) [
    | inl same ↦ absurd (false≢true (sym none ∙ ap p same ∙ e))
    | inr other ↦ rw none (two_in p n (a + 1) v w (omega arith) lt (omega arith) e f)
  ]
]

one_marked : (f : Field) → is_single f ≡ true → length (filter (is_marked 1 f) (values_between f.shape.min f.shape.max)) ≡ 1
one_marked f h =
    let rest : (not f.wildcard && length (marked_values 1 f) == 1) ≡ true = (and_parts (f.step == 1) _ h).1 in
    let test : (length (marked_values 1 f) == 1) ≡ true = (and_parts (not f.wildcard) _ rest).1 in
    let count : length (marked_values 1 f) ≡ 1 = grind (arith, nat_tests) in
    elim (cases_Bool (has_all f.shape.supported 1)) [
      | inl e ↦ rw e at count
      | inr e ↦ let none = rw e at count in absurd (omega (arith, none))
    ]

not_both_plain : (f : Field) (v w : ℕ) → is_single f ≡ true → f.shape.min ≤ v → v < w → w ≤ f.shape.max → is_plain f v ≡ true → is_plain f w ≡ true → ⊥
not_both_plain f v w h low lt high e g =
    let first : is_marked 1 f v ≡ true = (and_parts (can_ask f.shape v 1) _ e).1 in
    let second : is_marked 1 f w ≡ true = (and_parts (can_ask f.shape w 1) _ g).1 in
    omega (arith, one_marked f h, two_in (is_marked 1 f) (f.shape.max + 1 - f.shape.min) f.shape.min v w low lt (omega arith) first second)

-- its plain values are one
pub single-value : (f : Field) (max v w : ℕ) → is_single f ≡ true → f.shape.min ≡ 0 → f.shape.max ≡ max → v ≤ max → w ≤ max → is_plain f v ≡ true → is_plain f w ≡ true → v ≡ w
single-value f max v w h min top a b e g = elim (cases_lt v w) [
  | inl lt ↦ absurd (not_both_plain f v w h (omega arith) lt (omega arith) e g)
  | inr ge ↦ elim (cases_lt w v) [
    | inl gt ↦ absurd (not_both_plain f w v h (omega arith) gt (omega arith) g e)
    | inr le ↦ omega arith
  ]
]

pub record SingleTime (m : Meaning) : Type 0 where
  pub seconds : is_single m.seconds ≡ true
  pub minutes : is_single m.minutes ≡ true
  pub hours : is_single m.hours ≡ true

pub single_time : (m : Meaning) → is_fixed_time m ≡ true → SingleTime m
single_time m h =
    let one = and_parts _ _ h in
    let two = and_parts _ _ one.1 in
    record { seconds = one.0; minutes = two.0; hours = two.1 }
