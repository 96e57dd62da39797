-- A mask of days, built a day at a time.
use Rattle.std.proofs.Common.{◌≡◌, ℕ, zero, suc, ◌+◌, ◌*◌, ◌-◌, ◌%◌, ◌^◌, ◌<◌, ◌≤◌, ◌≢◌, Bool, true, false, ◌&&◌, nat_lt, if◌then◌else◌, Option, None, is_some, bit_or, refl, ap, sym, ◌∙◌, arith, subst, inl, inr}
use Rattle.std.specs.Int.{bit_at, w32}
use Rattle.std.specs.List.{list_all, range_with_len}
use Rattle.std.proofs.lemmas.Bool.{cases_eq}
use Rattle.std.proofs.lemmas.Bool.Decides.{nat_tests}
use Rattle.std.proofs.lemmas.Nat.Bits.{bit_at_set_same, bit_at_set_other}
use Rattle.croner_pattern.proofs.days.JoinedTests.{and_false}

-- the days up to a number of them: each has its bit, and no other bit is set
abbrev pub MaskUpTo : (ℕ → Bool) → ℕ → ℕ → Type 0
MaskUpTo fits done mask = (place : ℕ) → bit_at mask place ≡ (if nat_lt place done && fits (place + 1) then 1 else 0)

done_last : (fits : ℕ → Bool) (done : ℕ) → (nat_lt done done && fits (done + 1)) ≡ false
done_last fits done = let same : nat_lt done done ≡ false = grind (arith, nat_tests) in rw same refl

-- the answer at one place
here : (fits : ℕ → Bool) (done : ℕ) (b : Bool) → fits (done + 1) ≡ b → (nat_lt done (done + 1) && fits (done + 1)) ≡ b
here fits done b h = let below : nat_lt done (done + 1) ≡ true = grind (arith, nat_tests) in rw below h

elsewhere : (fits : ℕ → Bool) (done place : ℕ) → place ≢ done → (nat_lt place (done + 1) && fits (place + 1)) ≡ (nat_lt place done && fits (place + 1))
elsewhere fits done place ne =
    let same : nat_lt place (done + 1) ≡ nat_lt place done = grind (arith, nat_tests) in ap (λ b. b && fits (place + 1)) same

abbrev bit_of : Bool → ℕ
bit_of b = if b then 1 else 0

pub mask-hit : (fits : ℕ → Bool) (done mask : ℕ) → done < 32 → fits (done + 1) ≡ true → MaskUpTo fits done mask → MaskUpTo fits (done + 1) (bit_or mask (1 * 2 ^ done % 2 ^ 32))
mask-hit fits done mask small hit h place = elim (cases_eq place done) [
  | inl e ↦ subst (λ p. bit_at (bit_or mask (1 * 2 ^ done % 2 ^ 32)) p ≡ bit_of (nat_lt p (done + 1) && fits (p + 1))) (sym e) (bit_at_set_same w32 mask done small ∙ ap bit_of (sym (here fits done true hit)))
  | inr ne ↦ bit_at_set_other w32 mask done small place ne ∙ h place ∙ ap bit_of (sym (elsewhere fits done place ne))
]

pub mask-miss : (fits : ℕ → Bool) (done mask : ℕ) → fits (done + 1) ≡ false → MaskUpTo fits done mask → MaskUpTo fits (done + 1) mask
mask-miss fits done mask miss h place = elim (cases_eq place done) [
  | inl e ↦ subst (λ p. bit_at mask p ≡ bit_of (nat_lt p (done + 1) && fits (p + 1))) (sym e) (h done ∙ ap bit_of (done_last fits done ∙ sym (here fits done false miss)))
  | inr ne ↦ h place ∙ ap bit_of (sym (elsewhere fits done place ne))
]

-- each of the first days is answered
all-from : {X : Type 0} (q : ℕ → Option X) (a n : ℕ) → ((x : ℕ) → a ≤ x → x < a + n → is_some (q x) ≡ true) → list_all (λ x. is_some (q x)) (range_with_len a n) ≡ true
all-from q a zero h = refl
all-from q a (suc n) h =
    rw (h a (omega arith) (omega arith)) (all-from q (a + 1) n (λ x low high. h x (omega arith) (omega arith)))

pub all-answered : {X : Type 0} (q : ℕ → Option X) (n : ℕ) → ((place : ℕ) → place < n → is_some (q (place + 1)) ≡ true) → list_all (λ x. is_some (q x)) (range_with_len 1 n) ≡ true
all-answered q n h =
    all-from q 1 n (λ x low high. let e : (x - 1) + 1 ≡ x = omega arith in subst (λ y. is_some (q y) ≡ true) e (h (x - 1) (omega arith)))

-- one of them isn't
lacks-from : {X : Type 0} (q : ℕ → Option X) (a n x : ℕ) → a ≤ x → x < a + n → q x ≡ None → list_all (λ y. is_some (q y)) (range_with_len a n) ≡ false
lacks-from q a zero x low high h = absurd (omega arith)
lacks-from q a (suc n) x low high h = elim (cases_eq a x) [
  | inl e ↦ let lacks : is_some (q a) ≡ false = ap (λ y. is_some (q y)) e ∙ ap is_some h in rw lacks refl
  | inr ne ↦ rw (lacks-from q (a + 1) n x (omega arith) (omega arith) h) (and_false (is_some (q a)))
]

pub one-lacks : {X : Type 0} (q : ℕ → Option X) (n place : ℕ) → place < n → q (place + 1) ≡ None → list_all (λ y. is_some (q y)) (range_with_len 1 n) ≡ false
one-lacks q n place high h = lacks-from q 1 n (place + 1) (omega arith) (omega arith) h
