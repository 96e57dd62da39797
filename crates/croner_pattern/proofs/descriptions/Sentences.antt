-- A sentence: the first character of a text, raised where it is an ASCII letter.
use Rattle.std.proofs.Common.{◌≡◌, ℕ, ◌+◌, ◌/◌, ◌<◌, ◌≤◌, false, ltb, List, ◌∷◌, ◌++◌, refl, ap, ◌∙◌, arith, inl, inr}
use Rattle.std.specs.Prelude.{codes}
use Rattle.std.specs.Char.{to_ascii_uppercase}
use Rattle.std.proofs.lemmas.Bool.{cases_Bool, cases_lt}
use Rattle.std.proofs.lemmas.Bool.Decides.{nat_tests}
use Rattle.std.proofs.lemmas.Str.{encode_ascii}
use lib.Utf8.{encode, next}
use Rattle.croner_pattern.specs.Description.{sentence}

-- a byte or a character past ASCII stays
stays : (c : ℕ) → 128 ≤ c → to_ascii_uppercase c ≡ c
stays c h =
    let a : ltb c 97 ≡ false = grind (arith, nat_tests) in
    let z : ltb c 123 ≡ false = grind (arith, nat_tests) in
    rw (a, z) refl

raised_small : (c : ℕ) → c < 128 → to_ascii_uppercase c < 128
raised_small c h =
    elim (cases_Bool (ltb c 97)) [
      | inl low ↦ rw low h
      | inr high ↦ elim (cases_Bool (ltb c 123)) [
        | inl letter ↦ rw (high, letter) (omega arith)
        | inr other ↦ rw (high, other) h
      ]
    ]

ending : (b : ℕ) (rest : List ℕ) → 128 ≤ b → (b ∷ rest) ++ codes "." ≡ sentence (b ∷ rest)
ending b rest h = let e = stays b h in rw e refl

past_ascii : (c : ℕ) (rest : List ℕ) → 128 ≤ c → (encode c ++ rest) ++ codes "." ≡ sentence (encode c ++ rest)
unfolding encode
past_ascii c rest h =
    let one : ltb c 128 ≡ false = grind (arith, nat_tests) in
    rw one (elim (cases_Bool (ltb c 2048)) [
      | inl two ↦ rw two (ending (192 + c / 64) (next c ∷ rest) (omega arith))
      | inr three ↦ rw three (elim (cases_Bool (ltb c 65536)) [
        | inl given ↦ rw given (ending (224 + c / 4096) (next (c / 64) ∷ next c ∷ rest) (omega arith))
        | inr lacking ↦ rw lacking (ending (240 + c / 262144) (next (c / 4096) ∷ next (c / 64) ∷ next c ∷ rest) (omega arith))
      ])
    ])

pub raised : (c : ℕ) (rest : List ℕ) → (encode (to_ascii_uppercase c) ++ rest) ++ codes "." ≡ sentence (encode c ++ rest)
raised c rest =
    elim (cases_lt c 128) [
      | inl low ↦
          let plain = encode_ascii c low in
          let up = encode_ascii (to_ascii_uppercase c) (raised_small c low) in
          rw (plain, up) refl
      | inr high ↦ ap (λ u. (encode u ++ rest) ++ codes ".") (stays c high) ∙ past_ascii c rest high
    ]
