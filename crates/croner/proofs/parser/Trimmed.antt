-- Texts that begin and end with no white space: what `trim` gives, and what it leaves as it is.
use Rattle.std.proofs.Common.{◌≡◌, ◌⊎◌, ℕ, Bool, true, false, cond, eqb, ◌&&◌, List, [], ◌∷◌, ◌++◌, length, refl, ap, sym, ◌∙◌, arith, inl, inr}
use Rattle.std.proofs.lemmas.Bool.{ne_eqb, and_parts, and_from, cond_both}
use Rattle.std.proofs.lemmas.Str.{chars-encodes, encodes-chars, scalars-chars}
use Rattle.std.specs.Char.{is_whitespace}
use Rattle.std.specs.Str.{IsUtf8, chars, encode_utf8_all, all_scalars, trim, trim_start, trim_end, skip_leading_whitespace, drop_trailing_whitespace}
use lib.Utf8.{scalar}

-- the first character, and the last one, is white space
abbrev pub begins_white : List ℕ → Bool
begins_white [] = false
begins_white (c ∷ cs) = is_whitespace c

abbrev pub ends_white : List ℕ → Bool
ends_white [] = false
ends_white (c ∷ []) = is_whitespace c
ends_white (c ∷ d ∷ cs) = ends_white (d ∷ cs)

-- the text spells characters of which neither the first nor the last is white space
pub record IsTrimmed (text : List ℕ) : Type 0 where
  pub cs : List ℕ
  pub scalars : all_scalars cs ≡ true
  pub spells : encode_utf8_all cs ≡ text
  pub begins : begins_white cs ≡ false
  pub ends : ends_white cs ≡ false

-- ---- what is trimmed

scalars_skipped : (cs : List ℕ) → all_scalars cs ≡ true → all_scalars (skip_leading_whitespace cs) ≡ true
scalars_skipped [] h = refl
scalars_skipped (c ∷ cs) h =
    cond_both (is_whitespace c) (skip_leading_whitespace cs) (c ∷ cs) (λ xs. all_scalars xs ≡ true) (λ _. scalars_skipped cs (and_parts (scalar c) (all_scalars cs) h).1) (λ _. h)

scalars_dropped : (cs : List ℕ) → all_scalars cs ≡ true → all_scalars (drop_trailing_whitespace cs) ≡ true
scalars_dropped [] h = refl
scalars_dropped (c ∷ cs) h =
    let parts = and_parts (scalar c) (all_scalars cs) h in
    cond_both (is_whitespace c && eqb (length (drop_trailing_whitespace cs)) 0) [] (c ∷ drop_trailing_whitespace cs) (λ xs. all_scalars xs ≡ true) (λ _. refl)
    (λ _. and_from (scalar c) (all_scalars (drop_trailing_whitespace cs)) parts.0 (scalars_dropped cs parts.1))

skipped_begins : (cs : List ℕ) → begins_white (skip_leading_whitespace cs) ≡ false
skipped_begins [] = refl
skipped_begins (c ∷ cs) =
    cond_both (is_whitespace c) (skip_leading_whitespace cs) (c ∷ cs) (λ xs. begins_white xs ≡ false) (λ _. skipped_begins cs) (λ h. h)

dropped_begins : (cs : List ℕ) → begins_white cs ≡ false → begins_white (drop_trailing_whitespace cs) ≡ false
dropped_begins [] h = refl
dropped_begins (c ∷ cs) h =
    cond_both (is_whitespace c && eqb (length (drop_trailing_whitespace cs)) 0) [] (c ∷ drop_trailing_whitespace cs) (λ xs. begins_white xs ≡ false) (λ _. refl) (λ _. h)

first_false : (a : Bool) → (a && true) ≡ false → a ≡ false
first_false true h = h
first_false false h = refl

one_more : (c : ℕ) (ds : List ℕ) → (is_whitespace c && eqb (length ds) 0) ≡ false → ends_white ds ≡ false → ends_white (c ∷ ds) ≡ false
one_more c [] h k = first_false (is_whitespace c) h
one_more c (d ∷ ds) h k = k

dropped_ends : (cs : List ℕ) → ends_white (drop_trailing_whitespace cs) ≡ false
dropped_ends [] = refl
dropped_ends (c ∷ cs) =
    cond_both (is_whitespace c && eqb (length (drop_trailing_whitespace cs)) 0) [] (c ∷ drop_trailing_whitespace cs) (λ xs. ends_white xs ≡ false) (λ _. refl)
    (λ h. one_more c (drop_trailing_whitespace cs) h (dropped_ends cs))

pub trim_trims : (text : List ℕ) → IsUtf8 text → IsTrimmed (trim text)
unfolding trim_start trim_end
trim_trims text utf8 =
    let cs = skip_leading_whitespace (chars text) in
    let scalars = scalars_skipped (chars text) (scalars-chars text utf8) in
    record {
      cs = drop_trailing_whitespace cs;
      scalars = scalars_dropped cs scalars;
      spells = ap (λ xs. encode_utf8_all (drop_trailing_whitespace xs)) (sym (chars-encodes cs scalars));
      begins = dropped_begins cs (skipped_begins (chars text));
      ends = dropped_ends cs;
    }

-- ---- what stays

skip_nothing : (cs : List ℕ) → begins_white cs ≡ false → skip_leading_whitespace cs ≡ cs
skip_nothing [] h = refl
skip_nothing (c ∷ cs) h = ap (λ b. cond b (skip_leading_whitespace cs) (c ∷ cs)) h

not_empty : (b : Bool) (xs : List ℕ) → cond (b && false) [] xs ≡ xs
not_empty true xs = refl
not_empty false xs = refl

drop_nothing : (cs : List ℕ) → ends_white cs ≡ false → drop_trailing_whitespace cs ≡ cs
drop_nothing [] h = refl
drop_nothing (c ∷ []) h = ap (λ b. cond (b && true) [] (c ∷ [])) h
drop_nothing (c ∷ d ∷ cs) h =
    let some : eqb (length (d ∷ cs)) 0 ≡ false = ne_eqb (length (d ∷ cs)) 0 (λ e. omega (arith, e)) in
    ap (λ xs. cond (is_whitespace c && eqb (length xs) 0) [] (c ∷ xs)) (drop_nothing (d ∷ cs) h) ∙ ap (λ b. cond (is_whitespace c && b) [] (c ∷ d ∷ cs)) some
    ∙ not_empty (is_whitespace c) (c ∷ d ∷ cs)

pub trimmed_stays : (text : List ℕ) → IsUtf8 text → begins_white (chars text) ≡ false → ends_white (chars text) ≡ false → trim text ≡ text
unfolding trim_start trim_end
trimmed_stays text utf8 begins ends =
    let start : trim_start text ≡ text = ap encode_utf8_all (skip_nothing (chars text) begins) ∙ encodes-chars text utf8 in
    ap trim_end start ∙ ap encode_utf8_all (drop_nothing (chars text) ends) ∙ encodes-chars text utf8

-- ---- the ends of a list

-- a list is empty, or its last item stands after others
pub from_end : (cs : List ℕ) → (cs ≡ []) ⊎ ((front : List ℕ) × (c : ℕ) × (cs ≡ front ++ c ∷ []))
from_end [] = inl refl
from_end (c ∷ cs) = elim (from_end cs) [
  | inl none ↦ inr ([], c, ap (λ xs. c ∷ xs) none)
  | inr some ↦ inr (c ∷ some.0, some.1, ap (λ xs. c ∷ xs) some.2)
]

pub ends_at : (front : List ℕ) (c : ℕ) → ends_white (front ++ c ∷ []) ≡ is_whitespace c
ends_at [] c = refl
ends_at (d ∷ []) c = refl
ends_at (d ∷ e ∷ front) c = ends_at (e ∷ front) c

pub scalar_at : (front : List ℕ) (c : ℕ) → all_scalars (front ++ c ∷ []) ≡ true → scalar c ≡ true
scalar_at [] c h = (and_parts (scalar c) true h).0
scalar_at (d ∷ front) c h = scalar_at front c (and_parts (scalar d) (all_scalars (front ++ c ∷ [])) h).1
