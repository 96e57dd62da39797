-- A field of which as many values are plain as it may hold.
use Rattle.std.proofs.Common.{◌≡◌, ℕ, zero, suc, ◌+◌, ◌-◌, ◌<◌, ◌≤◌, Bool, true, eqb, length, ap, sym, ◌∙◌, subst, arith, inl, inr}
use Rattle.std.specs.List.{list_all, range_with_len}
use Rattle.std.proofs.lemmas.Bool.{and_parts, cases_eq}
use Rattle.std.proofs.lemmas.Bool.Decides.{nat_tests}
use Rattle.croner_base.specs.Field.{Field, marked_values}
use Rattle.croner_base.specs.Marks.{IsWellFormed}
use Rattle.croner_pattern.specs.Schedule.{is_plain}
use Rattle.croner_pattern.proofs.descriptions.PlainValues.{all_by_count}
use Rattle.croner_summary.specs.Private.Exact.{HasAll}

all_at : (p : ℕ → Bool) (n a value : ℕ) → list_all p (range_with_len a n) ≡ true → a ≤ value → value < a + n → p value ≡ true
all_at p zero a value h low high = absurd (omega arith)
all_at p (suc n) a value h low high =
    let both = and_parts (p a) (list_all p (range_with_len (a + 1) n)) h in
    elim (cases_eq a value) [
      | inl e ↦ subst (λ v. p v ≡ true) e both.0
      | inr ne ↦ all_at p n (a + 1) value both.1 (omega arith) (omega arith)
    ]

pub all_plain : (least greatest : ℕ) (f : Field) → IsWellFormed f → f.shape.min ≡ least → f.shape.max ≡ greatest
    → eqb (length (marked_values 1 f)) ((greatest - least) + 1) ≡ true → HasAll least greatest f
all_plain least greatest f w low high counted value within =
    let o = w.ordered in
    let n : (f.shape.max - f.shape.min) + 1 ≡ (greatest - least) + 1 = omega (arith, low, high) in
    let c : eqb (length (marked_values 1 f)) ((f.shape.max - f.shape.min) + 1) ≡ true = ap (λ k. eqb (length (marked_values 1 f)) k) n ∙ counted in
    let from : f.shape.min ≤ value = grind (arith, nat_tests, low, within) in
    let to : value ≤ f.shape.max = grind (arith, nat_tests, high, within) in
    all_at (is_plain f) ((f.shape.max + 1) - f.shape.min) f.shape.min value (sym (all_by_count f w) ∙ c) from (omega arith)
