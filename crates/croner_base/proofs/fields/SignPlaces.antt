-- The first places of signs: in a text, from a place of it on, and in its front.
use Rattle.std.proofs.Common.{◌≡◌, ℕ, ◌+◌, ◌<◌, ◌≤◌, Bool, true, false, not, cond, eqb, ltb, List, length, take, drop, get_or, refl, ap, sym, ◌∙◌, subst, arith, lit<, inl, inr}
use Rattle.std.proofs.Math.ListN.{drop_of_length-le}
use Rattle.std.proofs.lemmas.Bool.{cases_lt, lt-ltb, le-ltb, eqb-true}
use Rattle.std.proofs.lemmas.List.{drop_more, get_or-take, length-take-le}
use Rattle.std.proofs.lemmas.List.Sums.{position_or_len_is, fails_before_first, passes_at_first, prefix_len-le-length}
use Rattle.std.proofs.lemmas.Str.{IsCharBoundary-end, IsCharBoundary-before_ascii, IsCharBoundary-after_ascii}
use Rattle.std.specs.List.{position_or_len}
use Rattle.std.specs.Str.{IsCharBoundary, IsUtf8}
use Rattle.croner_base.specs.declared.component.text.Sign.{Sign}
use Rattle.croner_base.specs.declared.component.text.Sign.TheVariants.{Hash, Dash, Slash, LetterL, LetterW}
use Rattle.croner_base.specs.declared.component.text.Signs.{Signs}
use Rattle.croner_base.specs.Part.{contains_byte}
use Rattle.croner_base.specs.Private.Signs.{AreSigns, all_at, byte_of, with_byte, place_of, places_up_to}
use Rattle.croner_base.proofs.fields.TextPieces.{position_of_contains, position_of_none}

abbrev is_sign : Sign → ℕ → Bool
is_sign sign = λ b. eqb b (byte_of sign)

abbrev place_in : Sign → List ℕ → ℕ
place_in sign bs = position_or_len (is_sign sign) bs

-- each place is the first one of its sign from a place of the text on
abbrev pub SignsFrom : List ℕ → ℕ → Signs → Type 0
SignsFrom bs at s = (sign : Sign) → place_of s sign ≡ at + place_in sign (drop at bs)

small : (sign : Sign) → byte_of sign < 128
small Hash = lit< tt
small Dash = lit< tt
small Slash = lit< tt
small LetterL = lit< tt
small LetterW = lit< tt

place_within : (sign : Sign) (bs : List ℕ) → place_in sign bs ≤ length bs
place_within sign bs = prefix_len-le-length (λ b. not (is_sign sign b)) bs

-- ---- what the place says

has_by : (sign : Sign) (bs : List ℕ) (b : Bool) → contains_byte (byte_of sign) bs ≡ b → ltb (place_in sign bs) (length bs) ≡ b
has_by sign bs true h = lt-ltb (place_in sign bs) (length bs) (position_of_contains (byte_of sign) bs h)
has_by sign bs false h = le-ltb (place_in sign bs) (length bs) (position_of_none (byte_of sign) bs h)

pub has-place : (sign : Sign) (bs : List ℕ) (s : Signs) → AreSigns bs s → ltb (place_of s sign) (length bs) ≡ contains_byte (byte_of sign) bs
has-place sign bs s h = ap (λ n. ltb n (length bs)) (h sign) ∙ has_by sign bs (contains_byte (byte_of sign) bs) refl

sign_at : (sign : Sign) (bs : List ℕ) → place_in sign bs < length bs → get_or bs (place_in sign bs) 0 < 128
sign_at sign bs h =
    subst (λ b. b < 128) (sym (eqb-true (get_or bs (place_in sign bs) 0) (byte_of sign) (passes_at_first (is_sign sign) bs 0 h))) (small sign)

-- a text can be cut in front of a sign
place_boundary : (sign : Sign) (bs : List ℕ) → IsCharBoundary bs (place_in sign bs)
place_boundary sign bs = elim (cases_lt (place_in sign bs) (length bs)) [
  | inl h ↦ IsCharBoundary-before_ascii bs (place_in sign bs) h (sign_at sign bs h)
  | inr h ↦ (let end : length bs ≡ place_in sign bs = omega (arith, place_within sign bs) in subst (IsCharBoundary bs) end (IsCharBoundary-end bs))
]

pub front-boundary : (sign : Sign) (bs : List ℕ) (s : Signs) → AreSigns bs s → IsCharBoundary bs (place_of s sign)
front-boundary sign bs s h = subst (IsCharBoundary bs) (sym (h sign)) (place_boundary sign bs)

-- and after it
pub back-boundary : (sign : Sign) (bs : List ℕ) (s : Signs) → AreSigns bs s → IsUtf8 bs → place_of s sign < length bs → IsCharBoundary bs (place_of s sign + 1)
back-boundary sign bs s h utf8 within =
    subst (λ n. IsCharBoundary bs (n + 1)) (sym (h sign))
    (let inside : place_in sign bs < length bs = subst (λ n. n < length bs) (h sign) within in IsCharBoundary-after_ascii bs (place_in sign bs) utf8 inside (sign_at sign bs inside))

-- ---- the front of a text

place_take : (sign : Sign) (bs : List ℕ) (end : ℕ) → end ≤ length bs → place_in sign (take end bs) ≡ cond (ltb (place_in sign bs) end) (place_in sign bs) end
place_take sign bs end fits =
    let long : length (take end bs) ≡ end = length-take-le end bs fits in
    elim (cases_lt (place_in sign bs) end) [
      | inl h ↦ position_or_len_is (is_sign sign) (take end bs) (place_in sign bs) 0 (omega (arith, h, long))
          (λ k lt. ap (is_sign sign) (get_or-take end bs k 0 (omega (arith, h, lt))) ∙ fails_before_first (is_sign sign) bs k 0 lt)
          (λ lt. ap (is_sign sign) (get_or-take end bs (place_in sign bs) 0 h) ∙ passes_at_first (is_sign sign) bs 0 (omega (arith, h, fits)))
          ∙ sym (ap (λ b. cond b (place_in sign bs) end) (lt-ltb (place_in sign bs) end h))
      | inr h ↦ position_or_len_is (is_sign sign) (take end bs) end 0 (omega (arith, long))
          (λ k lt. ap (is_sign sign) (get_or-take end bs k 0 lt) ∙ fails_before_first (is_sign sign) bs k 0 (omega (arith, h, lt)))
          (λ lt. absurd (omega (arith, lt, long)))
          ∙ sym (ap (λ b. cond b (place_in sign bs) end) (le-ltb (place_in sign bs) end h))
    ]

place_up_to : (sign : Sign) (s : Signs) (end : ℕ) → place_of (places_up_to s end) sign ≡ cond (ltb (place_of s sign) end) (place_of s sign) end
place_up_to Hash s end = refl
place_up_to Dash s end = refl
place_up_to Slash s end = refl
place_up_to LetterL s end = refl
place_up_to LetterW s end = refl

pub signs-front : (bs : List ℕ) (s : Signs) (cut : Sign) → AreSigns bs s → AreSigns (take (place_of s cut) bs) (places_up_to s (place_of s cut))
signs-front bs s cut h = λ sign.
    let end : ℕ = place_of s cut in
    let fits : end ≤ length bs = subst (λ n. n ≤ length bs) (sym (h cut)) (place_within cut bs) in
    place_up_to sign s end ∙ ap (λ n. cond (ltb n end) n end) (h sign) ∙ sym (place_take sign bs end fits)

-- ---- from the end on

all_places : (sign : Sign) (at : ℕ) → place_of (all_at at) sign ≡ at + 0
all_places Hash at = omega arith
all_places Dash at = omega arith
all_places Slash at = omega arith
all_places LetterL at = omega arith
all_places LetterW at = omega arith

pub signs-end : (bs : List ℕ) → SignsFrom bs (length bs) (all_at (length bs))
signs-end bs = λ sign. all_places sign (length bs) ∙ sym (ap (λ xs. length bs + place_in sign xs) (drop_of_length-le bs {i = length bs} (omega arith)))

place_met : (sign : Sign) (s : Signs) (byte at : ℕ) → place_of (with_byte s byte at) sign ≡ cond (eqb byte (byte_of sign)) at (place_of s sign)
place_met Hash s byte at = refl
place_met Dash s byte at = refl
place_met Slash s byte at = refl
place_met LetterL s byte at = refl
place_met LetterW s byte at = refl

next_by : (b : Bool) (at n : ℕ) → cond b at (at + 1 + n) ≡ at + cond (not b) (1 + n) 0
next_by true at n = omega arith
next_by false at n = omega arith

pub signs-with_byte : (bs : List ℕ) (at : ℕ) (s : Signs) → at < length bs → SignsFrom bs (at + 1) s → SignsFrom bs at (with_byte s (get_or bs at 0) at)
signs-with_byte bs at s within h = λ sign.
    place_met sign s (get_or bs at 0) at
    ∙ ap (λ n. cond (is_sign sign (get_or bs at 0)) at n) (h sign)
    ∙ next_by (is_sign sign (get_or bs at 0)) at (place_in sign (drop (at + 1) bs))
    ∙ sym (ap (λ xs. at + place_in sign xs) (drop_more bs at 0 within))

pub signs-start : (bs : List ℕ) (s : Signs) → SignsFrom bs 0 s → AreSigns bs s
signs-start bs s h = λ sign. let same : 0 + place_in sign bs ≡ place_in sign bs = omega arith in h sign ∙ same
