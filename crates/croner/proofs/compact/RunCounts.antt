-- How many numbers of a range pass a test.
use Rattle.std.proofs.Common.{◌≡◌, ℕ, zero, suc, ◌+◌, ◌-◌, ◌<◌, ◌≤◌, Bool, true, false, length, refl, ap, sym, ◌∙◌, arith, inl, inr}
use Rattle.std.specs.List.{filter, range_with_len}
use Rattle.std.proofs.lemmas.Bool.{cases_Bool, cases_lt}

-- how many of n values from a on pass
abbrev pub passing : (ℕ → Bool) → ℕ → ℕ → ℕ
passing p a n = length (filter p (range_with_len a n))

at_most : (p : ℕ → Bool) (n a : ℕ) → passing p a n ≤ n
at_most p zero a = omega arith
at_most p (suc n) a =
    let h = at_most p n (a + 1) in
    elim (cases_Bool (p a)) [ inl hit ↦ rw hit (omega (arith, h)) | inr miss ↦ rw miss (omega (arith, h)) ]

pub none_pass : (p : ℕ → Bool) (n a : ℕ) → ((v : ℕ) → a ≤ v → v < a + n → p v ≡ false) → passing p a n ≡ 0
none_pass p zero a h = refl
none_pass p (suc n) a h =
    let here = h a (omega arith) (omega arith) in
    rw here (none_pass p n (a + 1) (λ v low high. h v (omega (arith, low)) (omega (arith, high))))

pub all_pass : (p : ℕ → Bool) (n a : ℕ) → ((v : ℕ) → a ≤ v → v < a + n → p v ≡ true) → passing p a n ≡ n
all_pass p zero a h = refl
all_pass p (suc n) a h =
    let here = h a (omega arith) (omega arith) in
    let more = all_pass p n (a + 1) (λ v low high. h v (omega (arith, low)) (omega (arith, high))) in
    rw here (ap suc more)

-- where as many pass as there are, each passes
pub each_passes : (p : ℕ → Bool) (n a : ℕ) → passing p a n ≡ n → (v : ℕ) → a ≤ v → v < a + n → p v ≡ true
each_passes p zero a h v low high = absurd (omega (arith, low, high))
each_passes p (suc n) a h v low high = elim (cases_Bool (p a)) [
  | inl hit ↦
      let all : suc (passing p (a + 1) n) ≡ suc n = sym (rw hit refl) ∙ h in
      elim (cases_lt a v) [
        | inl on ↦ each_passes p n (a + 1) (omega (arith, all)) v (omega (arith, on)) (omega (arith, high))
        | inr off ↦ let here : a ≡ v = omega (arith, low, off) in sym (ap p here) ∙ hit
      ]
  | inr miss ↦
      let few : passing p (a + 1) n ≡ suc n = sym (rw miss refl) ∙ h in
      absurd (omega (arith, few, at_most p n (a + 1)))
]

in_two : (p : ℕ → Bool) (m n a : ℕ) → passing p a (m + n) ≡ passing p a m + passing p (a + m) n
in_two p zero n a =
    let here : a + 0 ≡ a = omega arith in
    let all : 0 + n ≡ n = omega arith in
    let sum : 0 + passing p a n ≡ passing p a n = omega arith in
    ap (passing p a) all ∙ sym (ap (λ x. 0 + passing p x n) here ∙ sum)
in_two p (suc m) n a =
    let more = in_two p m n (a + 1) in
    let place : (a + 1) + m ≡ a + suc m = omega arith in
    let size : suc m + n ≡ suc (m + n) = omega arith in
    let moved = more ∙ ap (λ x. passing p (a + 1) m + passing p x n) place in
    elim (cases_Bool (p a)) [
      | inl hit ↦ rw (size, hit) (omega (arith, moved))
      | inr miss ↦ rw (size, miss) moved
    ]

-- where those that pass lie from first to last, as many pass as pass of these
pub between : (p : ℕ → Bool) (first last top : ℕ) → 1 ≤ first → first ≤ last → last ≤ top
    → ((v : ℕ) → 1 ≤ v → v ≤ top → p v ≡ true → (first ≤ v) × (v ≤ last)) → passing p 1 top ≡ passing p first ((last + 1) - first)
between p first last top low order high within =
    let before = first - 1 in
    let size = (last + 1) - first in
    let rest = top - last in
    let whole : top ≡ before + (size + rest) = omega (arith, low, order, high) in
    let start : 1 + before ≡ first = omega (arith, low) in
    let end : first + size ≡ last + 1 = omega (arith, order) in
    let out : (v : ℕ) → 1 ≤ v → v ≤ top → ((first ≤ v) × (v ≤ last) → ⊥) → p v ≡ false =
    λ v from to not_in. elim (cases_Bool (p v)) [ inl hit ↦ absurd (not_in (within v from to hit)) | inr miss ↦ miss ] in
    let none_before : passing p 1 before ≡ 0 = none_pass p before 1 (λ v from to. out v from (omega (arith, to, order, high, start)) (λ r. absurd (omega (arith, r.0, to, start)))) in
    let none_after : passing p (last + 1) rest ≡ 0 = none_pass p rest (last + 1) (λ v from to. out v (omega (arith, from)) (omega (arith, to, high)) (λ r. absurd (omega (arith, r.1, from)))) in
    let split : passing p 1 top ≡ passing p 1 before + passing p (1 + before) (size + rest) = ap (passing p 1) whole ∙ in_two p before (size + rest) 1 in
    let moved : passing p (1 + before) (size + rest) ≡ passing p first (size + rest) = ap (λ x. passing p x (size + rest)) start in
    let again = in_two p size rest first in
    let past : passing p (first + size) rest ≡ passing p (last + 1) rest = ap (λ x. passing p x rest) end in
    omega (arith, split, moved, again, past, none_before, none_after)
