-- Plain values that lie a step apart.
use Rattle.std.proofs.Common.{◌≡◌, ℕ, ◌+◌, ◌-◌, ◌*◌, ◌/◌, ◌%◌, ◌<◌, ◌≤◌, true, false, eqb, ltb, refl, ap, sym, ◌∙◌, arith, inl, inr}
use Rattle.std.proofs.lemmas.Bool.{and_parts, cases_eq, cases_lt}
use Rattle.std.proofs.lemmas.Bool.Decides.{nat_tests}
use Rattle.std.proofs.lemmas.Nat.{div-add-mod', mod-mul-add}
use Rattle.std.proofs.Math.Nat.{add-mod_right, mul-add-mod_self_right}
use Rattle.croner_base.specs.Field.{Field}
use Rattle.croner_pattern.specs.Schedule.{is_plain}
use Rattle.croner_summary.specs.Says.{is_stepwise}
use Rattle.croner_summary.specs.Private.Exact.{IsNextPlain}
use Rattle.croner_summary.proofs.Exactly.{and_false}
use Rattle.croner_summary.specs.Private.Spacing.{LieEvenly}

-- ---- whole numbers of steps

-- the rest of a sum of which one part is a whole number of steps
rest_of_sum : (n x y : ℕ) → x % n ≡ 0 → (x + y) % n ≡ y % n
rest_of_sum n x y whole =
    let split : x / n * n + x % n ≡ x = div-add-mod' x n in
    let is : x ≡ x / n * n = omega (arith, split, whole) in
    ap (λ k. (k + y) % n) is ∙ mul-add-mod_self_right (x / n) n y

-- seen from a later step, a distance is a whole number of steps or isn't, as from an earlier one
pub from_later : (n start first value : ℕ) → start ≤ first → first ≤ value → (first - start) % n ≡ 0 → (value - start) % n ≡ (value - first) % n
from_later n start first value low high whole =
    let split : value - start ≡ (first - start) + (value - first) = omega arith in
    ap (λ d. d % n) split ∙ rest_of_sum n (first - start) (value - first) whole

pub below_step : (n d : ℕ) → d < n → d % n ≡ d
below_step n d less =
    let z : 0 * n + d ≡ d = omega arith in
    let rest : (0 * n + d) % n ≡ d = mod-mul-add 0 n d less in
    sym (ap (λ k. k % n) z) ∙ rest

-- a whole number of steps that isn't 0 is a step at least
pub a_step_at_least : (n d : ℕ) → 0 < d → d % n ≡ 0 → n ≤ d
a_step_at_least n d some whole =
    elim (cases_lt d n) [
      | inl less ↦ let rest : d % n ≡ d = below_step n d less in absurd (omega (arith, rest, whole))
      | inr at_least ↦ at_least
    ]

pub one_step : (n d : ℕ) → d % n ≡ 0 → (d + n) % n ≡ 0
one_step n d whole = add-mod_right d n ∙ whole

pub stepwise_of : (n d : ℕ) → 0 < n → d % n ≡ 0 → is_stepwise n d ≡ true
stepwise_of n d some whole =
    let pos : ltb 0 n ≡ true = grind (arith, nat_tests) in
    let zero_rest : eqb (d % n) 0 ≡ true = grind (arith, nat_tests) in
    rw (pos, zero_rest) refl

pub not_stepwise : (n d r : ℕ) → d % n ≡ r → 0 < r → is_stepwise n d ≡ false
not_stepwise n d r rest some =
    let nz : eqb (d % n) 0 ≡ false = grind (arith, nat_tests) in
    rw nz (and_false (ltb 0 n))

pub record Whole (n d : ℕ) : Type 0 where
  pub some : 0 < n
  pub rest : d % n ≡ 0

pub rest_of_stepwise : (n d : ℕ) → is_stepwise n d ≡ true → Whole n d
rest_of_stepwise n d hit =
    let parts = and_parts (ltb 0 n) (eqb (d % n) 0) hit in
    let pos : ltb 0 n ≡ true = parts.0 in
    let zero_rest : eqb (d % n) 0 ≡ true = parts.1 in
    record { some = grind (arith, nat_tests); rest = grind (arith, nat_tests) }

-- ---- the walk from one plain value to the next

-- a next value that is a step greater goes on evenly
pub even_more : (f : Field) (first reached last step next : ℕ) → 0 < step → first ≤ reached → is_stepwise step (reached - first) ≡ true
    → LieEvenly f first reached step → IsNextPlain last f (reached + 1) next → next ≤ last → next ≡ reached + step
    → (is_stepwise step (next - first) ≡ true) × LieEvenly f first next step
even_more f first reached last step next some low on before is within there =
    let whole : (reached - first) % step ≡ 0 = (rest_of_stepwise step (reached - first) on).rest in
    let far : next - first ≡ (reached - first) + step = omega arith in
    let on_next : is_stepwise step (next - first) ≡ true = stepwise_of step (next - first) some (ap (λ d. d % step) far ∙ one_step step (reached - first) whole) in (
      on_next,
      λ value above below.
          elim (cases_lt value (reached + 1)) [
            | inl done ↦ before value above (omega arith)
            | inr after ↦
                elim (cases_lt value next) [
                  | inl between ↦
                      let rest : (value - first) % step ≡ (value - reached) % step = from_later step first reached value low (omega arith) whole in
                      let small : (value - reached) % step ≡ value - reached = below_step step (value - reached) (omega arith) in
                      is.none value after between ∙ sym (not_stepwise step (value - first) (value - reached) (rest ∙ small) (omega arith))
                  | inr last_one ↦
                      let here : value ≡ next = omega arith in
                      ap (is_plain f) here ∙ is.plain within ∙ sym (ap (λ v. is_stepwise step (v - first)) here ∙ on_next)
                ]
          ],
    )

-- where a last value is plain, the next one lies no further
pub next_within : (f : Field) (from last next : ℕ) → from ≤ last → is_plain f last ≡ true → IsNextPlain last f from next → next ≤ last
next_within f from last next low last_plain is =
    elim (cases_lt last next) [
      | inl beyond ↦ let miss : is_plain f last ≡ false = is.none last low beyond in absurd (cc)
      | inr inside ↦ inside
    ]

-- a next value that lies elsewhere ends it
pub not_even : (f : Field) (first reached last step next : ℕ) → 0 < step → first ≤ reached → reached < last → is_stepwise step (reached - first) ≡ true
    → is_plain f last ≡ true → IsNextPlain last f (reached + 1) next → (next ≡ reached + step → ⊥) → LieEvenly f first last step → ⊥
not_even f first reached last step next some low more on last_plain is other even =
    let whole : (reached - first) % step ≡ 0 = (rest_of_stepwise step (reached - first) on).rest in
    let within : next ≤ last = next_within f (reached + 1) last next (omega arith) last_plain is in
    let named : is_stepwise step (next - first) ≡ true = sym (even next (omega (arith, is.above)) within) ∙ is.plain within in
    let apart : (next - reached) % step ≡ 0 = sym (from_later step first reached next low (omega (arith, is.above)) whole) ∙ (rest_of_stepwise step (next - first) named).rest in
    let far : step ≤ next - reached = a_step_at_least step (next - reached) (omega (arith, is.above)) apart in
    elim (cases_eq next (reached + step)) [
      | inl same ↦ other same
      | inr differs ↦
          let between : reached + step < next = omega (arith, is.above) in
          let miss : is_plain f (reached + step) ≡ false = is.none (reached + step) (omega arith) between in
          let d : (reached + step) - first ≡ (reached - first) + step = omega arith in
          let on_step : is_stepwise step ((reached + step) - first) ≡ true = stepwise_of step ((reached + step) - first) some (ap (λ k. k % step) d ∙ one_step step (reached - first) whole) in
          let hit : is_plain f (reached + step) ≡ true = even (reached + step) (omega arith) (omega arith) ∙ on_step in
          absurd (cc)
    ]
