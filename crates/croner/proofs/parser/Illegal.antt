-- The first character of a word that its field doesn't take, looked for from the front.
use Rattle.std.proofs.Common.{◌≡◌, ℕ, ◌<◌, ◌≤◌, true, false, cond, List, [], ◌∷◌, length, get_or, take, drop, Some, ap, sym, ◌∙◌, arith, refl, inl, inr}
use Rattle.std.proofs.lemmas.Bool.{false≢true, cases_lt}
use Rattle.std.proofs.lemmas.Bool.Decides.{nat_tests}
use Rattle.std.proofs.lemmas.List.{length-drop}
use Rattle.std.proofs.lemmas.Str.{IsCharBoundary-after_ascii}
use Rattle.std.specs.Str.{IsUtf8, IsCharBoundary}
use Rattle.croner.specs.declared.parser.fault.PatternField.{PatternField}
use Rattle.croner.specs.declared.parser.fault.PatternField.TheVariants as fields
use Rattle.croner.specs.parser.Cut.{Piece, name_of}
use Rattle.croner.specs.parser.Faults.{after_name, from_illegal}
use Rattle.croner.specs.parser.Grammar.{is_list_character, takes}
use Rattle.croner.specs.Private.parser.Steps.{HasNoName, IsAfterLegal, IsAfterName}

pub named : (field : PatternField) (text : List ℕ) (name : Piece) → name_of (take 3 text) ≡ Some name → 3 ≤ length text → from_illegal field text ≡ from_illegal field (drop 3 text)
named field [] name e long = absurd (omega (arith, long))
named field (a ∷ []) name e long = absurd (omega (arith, long))
named field (a ∷ b ∷ []) name e long = absurd (omega (arith, long))
named field (a ∷ b ∷ c ∷ rest) name e long =
    ap (λ p. after_name p (cond (takes field a) (from_illegal field (b ∷ c ∷ rest)) (a ∷ b ∷ c ∷ rest)) (from_illegal field rest)) e

pub unnamed : (field : PatternField) (a : ℕ) (rest : List ℕ) → HasNoName (a ∷ rest) → from_illegal field (a ∷ rest) ≡ cond (takes field a) (from_illegal field rest) (a ∷ rest)
unnamed field a [] h = refl
unnamed field a (b ∷ []) h = refl
unnamed field a (b ∷ c ∷ rest) h =
    ap (λ p. after_name p (cond (takes field a) (from_illegal field (b ∷ c ∷ rest)) (a ∷ b ∷ c ∷ rest)) (from_illegal field rest)) h

high_list : (c : ℕ) → 128 ≤ c → is_list_character c ≡ false
high_list c h = grind (arith, nat_tests)

high_taken : (field : PatternField) (c : ℕ) → 128 ≤ c → takes field c ≡ false
high_taken fields.Seconds c h = high_list c h
high_taken fields.Minutes c h = high_list c h
high_taken fields.Hours c h = high_list c h
high_taken fields.DayOfMonth c h = grind (arith, nat_tests)
high_taken fields.Month c h = high_list c h
high_taken fields.Weekday c h = grind (arith, nat_tests)
high_taken fields.Year c h = high_list c h

-- what a field takes is of one byte
taken_small : (field : PatternField) (c : ℕ) → takes field c ≡ true → c < 128
taken_small field c h = elim (cases_lt c 128) [
  | inl small ↦ small
  | inr high ↦ absurd (false≢true (sym (high_taken field c high) ∙ h))
]

pub boundary_after : (field : PatternField) (text : List ℕ) → IsUtf8 text → 0 < length text → takes field (get_or text 0 0) ≡ true → IsCharBoundary text 1
boundary_after field text utf8 some h = IsCharBoundary-after_ascii text 0 utf8 some (taken_small field (get_or text 0 0) h)

-- ---- one step

pub name_legal : (field : PatternField) (text rest : List ℕ) → IsAfterName text rest → IsAfterLegal field text rest
name_legal field text rest h = record {
  shorter = omega (arith, ap length h.back, length-drop 3 text, h.some);
  same = named field text h.name h.begins h.some ∙ ap (from_illegal field) (sym h.back);
}

pub character_legal : (field : PatternField) (text : List ℕ) → 0 < length text → HasNoName text → takes field (get_or text 0 0) ≡ true → IsAfterLegal field text (drop 1 text)
character_legal field [] some none h = absurd (omega (arith, some))
character_legal field (a ∷ rest) some none h = record {
  shorter = omega arith;
  same = unnamed field a rest none ∙ ap (λ b. cond b (from_illegal field rest) (a ∷ rest)) h;
}

pub nothing_legal : (field : PatternField) (text : List ℕ) → HasNoName text → (0 < length text → takes field (get_or text 0 0) ≡ false) → from_illegal field text ≡ text
nothing_legal field [] none h = refl
nothing_legal field (a ∷ rest) none h =
    unnamed field a rest none ∙ ap (λ b. cond b (from_illegal field rest) (a ∷ rest)) (h (omega arith))
