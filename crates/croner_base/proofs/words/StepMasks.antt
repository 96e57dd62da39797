-- Masks of the steps of a range, word by word.
use Rattle.std.proofs.Common.{◌≡◌, ℕ, ◌+◌, ◌-◌, ◌*◌, ◌/◌, ◌%◌, ◌^◌, ◌<◌, ◌≤◌, List, length, bit_or, refl, ap, sym, ◌∙◌, arith, inl, inr, bit_and}
use Rattle.std.specs.Int.{bit_at}
use Rattle.std.proofs.Math.Nat.{zero-mod, mod-one, mul-mod_left, add-mul-mod_self_left, add-mod_right, add-mod, add-mod-mod, mod-eq_of_lt, mod-eq-sub-mod, div-add-mod}
use Rattle.std.proofs.lemmas.Bool.{cases_eq, cases_lt}
use Rattle.std.proofs.lemmas.Nat.{div-add-mod', mod_below, pow_pos}
use Rattle.std.proofs.lemmas.Nat.Bits.{bit_at_or, bit_at-lt, bit_at-zero, bit_at_cat_low, bit_at_cat_high, bit_at-pow_same, bit_at-pow_other}
use Rattle.croner_base.specs.Private.words.Marked.{Stepped, Before, SteppedTo}
use Rattle.croner_base.specs.Private.words.Masks.{Masks, MasksTo, MasksMultiples, StandsHigher, TurnsRow}
use Rattle.croner_base.proofs.words.TurnedMarks.{with_mask, same_asked, row_whole, row_next, row_first, row_done}

-- ---- multiples of a step

-- what is added once more
add_multiple : (s x y : ℕ) → x % s ≡ 0 → (x + y) % s ≡ y % s
add_multiple s x y h =
    let e : x + y ≡ y + s * (x / s) = omega (arith, div-add-mod x s, h) in
    ap (λ n. n % s) e ∙ add-mul-mod_self_left y s (x / s)

-- a rest that changes no rest is none
no_rest : (s m e : ℕ) → m < s → e < s → (m + e) % s ≡ m → e ≡ 0
no_rest s m e a b same = elim (cases_lt (m + e) s) [
  | inl lt ↦ omega (arith, mod-eq_of_lt lt, same)
  | inr le ↦
      let less : (m + e) - s < s = omega (arith, a, b, le) in
      absurd (omega (arith, a, b, le, mod-eq-sub-mod le, mod-eq_of_lt less, same))
]

-- two numbers with the same rest lie whole steps apart
pub whole_steps : (s x y : ℕ) → 0 < s → y ≤ x → x % s ≡ y % s → (x - y) % s ≡ 0
whole_steps s x y some le same =
    let e : y + (x - y) ≡ x = omega (arith, le) in
    no_rest s (y % s) ((x - y) % s) (mod_below y s some) (mod_below (x - y) s some)
    (sym (add-mod y (x - y) s) ∙ ap (λ n. n % s) e ∙ same)

-- and numbers whole steps apart have the same rest
pub same_rest : (s x y : ℕ) → y ≤ x → (x - y) % s ≡ 0 → x % s ≡ y % s
same_rest s x y le none =
    let e : x ≡ (x - y) + y = omega (arith, le) in
    ap (λ n. n % s) e ∙ add_multiple s (x - y) y none

-- ---- bits that stand higher

low_bit : (x b : ℕ) → b < 64 → bit_at (x % 2 ^ 64) b ≡ bit_at x b
low_bit x b h = sym (bit_at_cat_low (x / 2 ^ 64) 64 (x % 2 ^ 64) b h) ∙ ap (λ n. bit_at n b) (div-add-mod' x (2 ^ 64))

pub stands_higher : (word by : ℕ) → StandsHigher (word * 2 ^ by % 2 ^ 64) word by
stands_higher word by =
    let e : word * 2 ^ by ≡ word * 2 ^ by + 0 = omega arith in
    record {
      below = λ b h lt. low_bit (word * 2 ^ by) b h ∙ ap (λ n. bit_at n b) e ∙ bit_at_cat_low word by 0 b lt ∙ bit_at-zero b;
      from = λ b h le. low_bit (word * 2 ^ by) b h ∙ ap (λ n. bit_at n b) e ∙ bit_at_cat_high word by 0 b (pow_pos by) le;
    }

pub none_higher : (word by : ℕ) → 64 ≤ by → StandsHigher 0 word by
none_higher word by past = record { below = λ b h lt. bit_at-zero b; from = λ b h le. absurd (omega (arith, past, h, le)) }

-- ---- the bits of the multiples, found by doubling

pub record FoundTo (found by step : ℕ) : Type 0 where
  pub some : 0 < by
  pub multiple : by % step ≡ 0
  pub on : (b : ℕ) → b < 64 → b < by → b % step ≡ 0 → bit_at found b ≡ 1
  pub only : (b : ℕ) → b < 64 → bit_at found b ≡ 1 → b % step ≡ 0

pub found_first : (step : ℕ) → 0 < step → FoundTo 1 step step
found_first step some =
    let one : 2 ^ 0 ≡ 1 = refl in
    record {
      some = some;
      multiple = omega (arith, ap (λ n. n % step) (let e : 1 * step ≡ step = omega arith in e), mul-mod_left 1 step);
      on = λ b h lt none.
          let zero : b ≡ 0 = omega (arith, mod-eq_of_lt lt, none) in
          ap (bit_at 1) zero ∙ bit_at-pow_same 0;
      only = λ b h is. elim (cases_eq b 0) [
        | inl zero ↦ ap (λ n. n % step) zero ∙ zero-mod step
        | inr ne ↦ absurd (omega (arith, is, bit_at-pow_other 0 b ne))
      ];
    }

-- twice as many
pub found_more : (found by step : ℕ) → FoundTo found by step → FoundTo (bit_or found (found * 2 ^ by % 2 ^ 64)) (by * 2) step
found_more found by step f =
    let higher = stands_higher found by in
    let twice : by * 2 ≡ by + by = omega arith in
    record {
      some = omega (arith, f.some);
      multiple = ap (λ n. n % step) twice ∙ add_multiple step by by f.multiple ∙ f.multiple;
      on = λ b h lt none. elim (cases_lt b by) [
        | inl low ↦ omega (arith, bit_at_or found (found * 2 ^ by % 2 ^ 64) b, f.on b h low none, bit_at-lt (found * 2 ^ by % 2 ^ 64) b)
        | inr le ↦
            let e : by + (b - by) ≡ b = omega (arith, le) in
            let rest : (b - by) % step ≡ 0 = sym (add_multiple step by (b - by) f.multiple) ∙ ap (λ n. n % step) e ∙ none in
            omega (arith, bit_at_or found (found * 2 ^ by % 2 ^ 64) b, higher.from b h le, f.on (b - by) (omega (arith, h, le)) (omega (arith, lt, le)) rest, bit_at-lt found b)
      ];
      only = λ b h is. elim (cases_eq (bit_at found b) 1) [
        | inl one ↦ f.only b h one
        | inr off ↦ elim (cases_lt b by) [
          | inl lt ↦ absurd (omega (arith, is, off, bit_at_or found (found * 2 ^ by % 2 ^ 64) b, higher.below b h lt, bit_at-lt found b))
          | inr le ↦
              let e : b ≡ by + (b - by) = omega (arith, le) in
              let one : bit_at found (b - by) ≡ 1 = omega (arith, is, off, bit_at_or found (found * 2 ^ by % 2 ^ 64) b, higher.from b h le, bit_at-lt found b) in
              ap (λ n. n % step) e ∙ add_multiple step by (b - by) f.multiple ∙ f.only (b - by) (omega (arith, h, le)) one
        ]
      ];
    }

pub found_all : (found by step : ℕ) → 64 ≤ by → FoundTo found by step → MasksMultiples found step
found_all found by step all f = record { on = λ b h. f.on b h (omega (arith, h, all)); only = λ b h. f.only b h }

-- ---- the place in the next word

pub place_back : (step place rest : ℕ) → rest ≡ 64 % step → rest ≤ place → (64 + (place - rest)) % step ≡ place % step
place_back step place rest e le =
    let sum : 64 + (place - rest) ≡ place + step * (64 / step) = omega (arith, le, e, div-add-mod 64 step) in
    ap (λ n. n % step) sum ∙ add-mul-mod_self_left place step (64 / step)

pub place_round : (step place rest : ℕ) → rest ≡ 64 % step → rest ≤ place + step → (64 + (place + step - rest)) % step ≡ place % step
place_round step place rest e le = place_back step (place + step) rest e le ∙ add-mod_right place step

-- ---- the steps of one word

-- in the first one
pub first_steps : (mask pattern first step n : ℕ) → n ≡ first / 64 → MasksMultiples pattern step → StandsHigher mask pattern (first % 64) → Masks mask n (Stepped first step)
first_steps mask pattern first step n e multiples higher = record {
  on = λ b h is.
      let d : (n * 64 + b) - first ≡ b - first % 64 = omega (arith, e, is.0) in
      higher.from b h (omega (arith, e, is.0)) ∙ multiples.on (b - first % 64) (omega (arith, h)) (ap (λ x. x % step) (sym d) ∙ is.1);
  only = λ b h one. elim (cases_lt b (first % 64)) [
    | inl lt ↦ absurd (omega (arith, one, higher.below b h lt))
    | inr le ↦
        let d : (n * 64 + b) - first ≡ b - first % 64 = omega (arith, e, le) in (
          omega (arith, e, le),
          ap (λ x. x % step) d ∙ multiples.only (b - first % 64) (omega (arith, h)) (sym (higher.from b h le) ∙ one),
        )
  ];
}

-- and in one after it, by the place of its first
pub next_steps : (mask pattern first step n place : ℕ) → 0 < step → first ≤ n * 64 → place < step → (n * 64 + place) % step ≡ first % step → MasksMultiples pattern step → StandsHigher mask pattern place
    → Masks mask n (Stepped first step)
next_steps mask pattern first step n place some behind near same multiples higher = record {
  on = λ b h is.
      let rest : (n * 64 + b) % step ≡ (n * 64 + place) % step = same_rest step (n * 64 + b) first is.0 is.1 ∙ sym same in
      elim (cases_lt b place) [
        | inl lt ↦
            let d : (n * 64 + place) - (n * 64 + b) ≡ place - b = omega (arith, lt) in
            let none : (place - b) % step ≡ 0 = ap (λ x. x % step) (sym d) ∙ whole_steps step (n * 64 + place) (n * 64 + b) some (omega (arith, lt)) (sym rest) in
            let small : place - b < step = omega (arith, near) in
            absurd (omega (arith, lt, none, mod-eq_of_lt small))
        | inr le ↦
            let d : (n * 64 + b) - (n * 64 + place) ≡ b - place = omega (arith, le) in
            higher.from b h le ∙ multiples.on (b - place) (omega (arith, h)) (ap (λ x. x % step) (sym d) ∙ whole_steps step (n * 64 + b) (n * 64 + place) some (omega (arith, le)) rest)
      ];
  only = λ b h one. elim (cases_lt b place) [
    | inl lt ↦ absurd (omega (arith, one, higher.below b h lt))
    | inr le ↦
        let above : first ≤ n * 64 + b = omega (arith, behind) in
        let d : (n * 64 + b) - (n * 64 + place) ≡ b - place = omega (arith, le) in
        let none : (b - place) % step ≡ 0 = multiples.only (b - place) (omega (arith, h)) (sym (higher.from b h le) ∙ one) in (
          above,
          whole_steps step (n * 64 + b) first some above
              (same_rest step (n * 64 + b) (n * 64 + place) (omega (arith, le)) (ap (λ x. x % step) d ∙ none) ∙ same),
        )
  ];
}

-- ---- word by word

-- the first word, whole
pub steps_begun : (xs : List ℕ) (start first step n mask : ℕ) → n ≡ first / 64 → Masks mask n (Stepped first step) → start + n < length xs
    → TurnsRow 1 xs (with_mask xs (start + n) mask) start (Before (Stepped first step) ((n + 1) * 64))
steps_begun xs start first step n mask e masks within =
    let none : TurnsRow 1 xs xs start (Before (Stepped first step) (n * 64)) = record { inside = λ i b h is. absurd (omega (arith, e, is.0.0, is.1)); kept = λ p b h outside. refl } in
    row_whole xs xs start n mask (Stepped first step) none masks within

-- where the next word's first step stands
pub first_place : (first step n place : ℕ) → n ≡ first / 64 → (64 + place) % step ≡ first % 64 % step % step → ((n + 1) * 64 + place) % step ≡ first % step
first_place first step n place e next =
    let sum : (n + 1) * 64 + place ≡ n * 64 + (64 + place) = omega arith in
    let all : n * 64 + first % 64 ≡ first = omega (arith, e) in
    ap (λ x. x % step) sum ∙ sym (add-mod-mod (n * 64) (64 + place) step) ∙ ap (λ x. (n * 64 + x) % step) next
    ∙ add-mod-mod (n * 64) (first % 64 % step) step ∙ add-mod-mod (n * 64) (first % 64) step ∙ ap (λ x. x % step) all

pub next_place : (first step n place after : ℕ) → (n * 64 + place) % step ≡ first % step → (64 + after) % step ≡ place % step → ((n + 1) * 64 + after) % step ≡ first % step
next_place first step n place after same next =
    let sum : (n + 1) * 64 + after ≡ n * 64 + (64 + after) = omega arith in
    ap (λ x. x % step) sum ∙ sym (add-mod-mod (n * 64) (64 + after) step) ∙ ap (λ x. (n * 64 + x) % step) next
    ∙ add-mod-mod (n * 64) place step ∙ same

-- the last word
pub steps_ended : (xs ys : List ℕ) (start first last step n mask to : ℕ) → n ≡ last / 64 → TurnsRow 1 xs ys start (Before (Stepped first step) (n * 64)) → Masks mask n (Stepped first step)
    → MasksTo to last n → start + n < length ys → TurnsRow 1 xs (with_mask ys (start + n) (bit_and mask to)) start (Before (Stepped first step) (last + 1))
steps_ended xs ys start first last step n mask to e done masks masks_to within =
    row_done xs _ start last n (Stepped first step) (omega (arith, e))
    (row_next xs ys start last n mask to (Stepped first step) (same_asked done (λ v is. (is.0, omega (arith, e, is.1))) (λ v is. (is.0, omega (arith, e, is.1)))) masks masks_to within)

-- where it is the first one too
pub steps_in_one : (xs : List ℕ) (start first last step n mask to : ℕ) → n ≡ first / 64 → last < (n + 1) * 64 → Masks mask n (Stepped first step)
    → MasksTo to last n → start + n < length xs → TurnsRow 1 xs (with_mask xs (start + n) (bit_and mask to)) start (Before (Stepped first step) (last + 1))
steps_in_one xs start first last step n mask to e all masks masks_to within =
    row_done xs _ start last n (Stepped first step) all
    (row_first xs start last n mask to (Stepped first step) (λ v is. omega (arith, e, is.0)) masks masks_to within)

-- each value of a range is a step of 1
pub range_steps : (xs ys : List ℕ) (start first last step : ℕ) → step ≡ 1 → TurnsRow 1 xs ys start (Before (λ v. first ≤ v) (last + 1)) → TurnsRow 1 xs ys start (SteppedTo first last step)
range_steps xs ys start first last step one done =
    same_asked done (λ v is. (is.0.0, is.1)) (λ v is. ((is.0, ap (λ s. (v - first) % s) one ∙ mod-one (v - first)), is.1))
