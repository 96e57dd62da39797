-- Several modifiers, one after another: the first k of the bits are bits % 2 ^ k.
use Rattle.std.proofs.Common.{◌≡◌, ◌≢◌, ℕ, ◌+◌, ◌*◌, ◌/◌, ◌%◌, ◌^◌, ◌<◌, bit_and, ap, sym, ◌∙◌, arith, subst, inl, inr, max}
use Rattle.std.specs.Int.{bit_at}
use Rattle.std.proofs.lemmas.Bool.{cases_eq}
use Rattle.std.proofs.lemmas.Nat.{mod-pow-add, mod_below, or_shifted, pow_pos}
use Rattle.std.proofs.lemmas.Nat.Bits.{shr_and_one, bit_at_and, bit_at_or, bit_at-lt}
use Rattle.croner_base.specs.Private.words.Marked.{Marked, Turns}

low_step : (n k digit : ℕ) → bit_and (n / 2 ^ k) 1 ≡ digit → n % 2 ^ (k + 1) ≡ digit * 2 ^ k + n % 2 ^ k
low_step n k digit is = let e : k + 1 ≡ 1 + k = omega arith in ap (λ j. n % 2 ^ j) e ∙ mod-pow-add n 1 k ∙ ap (λ b. b * 2 ^ k + n % 2 ^ k) (sym (shr_and_one n k) ∙ is)

-- a bit that is not there adds nothing
pub low_none : (n k : ℕ) → bit_and (n / 2 ^ k) 1 ≢ 1 → n % 2 ^ (k + 1) ≡ n % 2 ^ k
low_none n k h = low_step n k 0 (omega (arith, shr_and_one n k, bit_at-lt n k)) ∙ omega arith

-- the first eight bits are all
pub low_all : (n : ℕ) → n < 256 → n % 2 ^ 8 ≡ n
low_all n h = omega arith

-- one more bit is the bit of that modifier
pub low_more : (n k i : ℕ) → bit_and (n / 2 ^ k) 1 ≡ 1 → bit_at (n % 2 ^ (k + 1)) i ≡ max (bit_at (n % 2 ^ k) i) (bit_at (2 ^ k) i)
low_more n k i one =
    let e : 1 * 2 ^ k ≡ 2 ^ k = omega arith in
    ap (λ m. bit_at m i) (low_step n k 1 one ∙ sym (or_shifted 1 k (n % 2 ^ k) (mod_below n (2 ^ k) (pow_pos k)))) ∙ bit_at_or (1 * 2 ^ k) (n % 2 ^ k) i
    ∙ ap (λ m. max (bit_at m i) (bit_at (n % 2 ^ k) i)) e ∙ omega arith

-- the supported modifiers have each of the bits
pub bit_supported : (s bits k : ℕ) → bit_and s bits ≡ bits → bit_and (bits / 2 ^ k) 1 ≡ 1 → bit_at s k ≡ 1
bit_supported s bits k all one = omega (arith, shr_and_one bits k, bit_at_and s bits k, ap (λ n. bit_at n k) all, bit_at-lt s k)

-- ---- turned one after another

-- a modifier that is not asked for is left as it is
pub turns_skip : (to : ℕ) (old new : Marked) (bits k : ℕ) (asked : ℕ → Type 0) → bit_and (bits / 2 ^ k) 1 ≢ 1 → Turns to old new (bits % 2 ^ k) asked
    → Turns to old new (bits % 2 ^ (k + 1)) asked
turns_skip to old new bits k asked off done = subst (λ n. Turns to old new n asked) (sym (low_none bits k off)) done

-- and one that is asked for is turned
pub turns_more : (to : ℕ) (old mid new : Marked) (bits k : ℕ) (asked : ℕ → Type 0) → bit_and (bits / 2 ^ k) 1 ≡ 1 → Turns to old mid (bits % 2 ^ k) asked
    → Turns to mid new (2 ^ k) asked → Turns to old new (bits % 2 ^ (k + 1)) asked
turns_more to old mid new bits k asked one done more = record {
  max = more.max ∙ done.max;
  supported = more.supported ∙ done.supported;
  length = more.length ∙ done.length;
  inside = λ v j is turned. elim (cases_eq (bit_at (2 ^ k) j) 1) [
    | inl now ↦ more.inside v j is now
    | inr other ↦ more.kept v j (λ _. other) ∙ done.inside v j is (omega (arith, turned, other, low_more bits k j one, bit_at-lt (2 ^ k) j, bit_at-lt (bits % 2 ^ k) j))
  ];
  kept = λ v j outside.
      more.kept v j (λ is now. outside is (omega (arith, now, low_more bits k j one, bit_at-lt (bits % 2 ^ k) j)))
      ∙ done.kept v j (λ is old. outside is (omega (arith, old, low_more bits k j one, bit_at-lt (2 ^ k) j)));
}
