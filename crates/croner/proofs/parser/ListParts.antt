-- The parts of a list, as they are written and as they are read.
use Rattle.std.proofs.Common.{◌≡◌, ◌⊎◌, ℕ, zero, suc, ◌+◌, ◌<◌, Bool, true, false, not, cond, eqb, ◌&&◌, List, [], ◌∷◌, ◌++◌, length, map, get_or, Option, Some, None, option_map, refl, add-one, ap, sym, ◌∙◌, subst, arith, inl, inr}
use Rattle.std.specs.Prelude.{if◌then◌else◌}
use Rattle.std.proofs.lemmas.Bool.{false≢true, and_parts, and_from, cases_Bool, cond-true, cond-false, eqb-true, ltb-true}
use Rattle.std.proofs.lemmas.Bool.Decides.{nat_tests}
use Rattle.std.proofs.lemmas.List.Splits.{slice_split-cons_yes, slice_split-cons_no}
use Rattle.std.specs.Char.{to_ascii_uppercase}
use Rattle.std.specs.List.{flat_map, list_all, onto_first}
use Rattle.std.specs.Str.{str_to_ascii_uppercase, trim, trim_start, trim_end, chars}
use Rattle.croner_base.specs.Field.{Shape}
use Rattle.croner_base.specs.Part.{pieces_at, part_of, parts_of, parts_read}
use Rattle.croner_base.specs.Reading.{Reading, nothing, ◌then◌}
use Rattle.croner.specs.declared.parser.fault.PatternField.{PatternField}
use Rattle.croner.specs.declared.parser.fault.PatternField.TheVariants as fields
use Rattle.croner.specs.parser.Cut.{Piece, month, weekday, single, months, weekdays, letters, ArePieces, decimal_of, weekday_number, expansion, replaced, cut_of}
use Rattle.croner.specs.parser.Grammar.{starred, without_plus, without_sign}
use Rattle.croner.specs.Private.parser.Places.{has_part}
use Rattle.croner.proofs.parser.Cuts.{cut_found}
use Rattle.croner.proofs.parser.Expanded.{is_digit, decimal_digits, weekday_small}
use Rattle.croner.proofs.parser.ReplacedWords.{all_at}
use Rattle.std.proofs.lemmas.Option.{none-some, same_Some}

-- ---- the first part that is refused isn't empty

nothing_read : (f : Shape) (part : List ℕ) → (cond (eqb (length (trim part)) 0) nothing (part_of f (trim part))).accepted ≡ false → 0 < length part
unfolding trim_start trim_end chars
nothing_read f [] h = absurd (false≢true (sym h))
nothing_read f (c ∷ cs) h = omega arith

refused_first : (one next : Reading) → one.accepted ≡ false → (one then next).accepted ≡ false
refused_first one next h = ap (λ b. (cond b (record { done = one.done ++ next.done; accepted = next.accepted }) one).accepted) h ∙ h

read_first : (one next : Reading) → one.accepted ≡ true → (one then next).accepted ≡ next.accepted
read_first one next h = ap (λ b. (cond b (record { done = one.done ++ next.done; accepted = next.accepted }) one).accepted) h

past_first : (part : List ℕ) (parts : List (List ℕ)) (n : ℕ) → get_or (part ∷ parts) (n + 1) [] ≡ get_or parts n []
past_first part parts n = ap (λ m. get_or (part ∷ parts) m []) (add-one n)

pub unread_some : (f : Shape) (parts : List (List ℕ)) → (parts_of f parts).accepted ≡ false → 0 < length (get_or parts (parts_read f parts) [])
unread_some f [] h = absurd (false≢true (sym h))
unread_some f (part ∷ parts) h =
    let one : Reading = cond (eqb (length (trim part)) 0) nothing (part_of f (trim part)) in
    elim (cases_Bool one.accepted) [
      | inl read ↦
          let alone : (parts_of f (part ∷ [])).accepted ≡ true = read_first one nothing read in
          let rest = unread_some f parts (sym (read_first one (parts_of f parts) read) ∙ h) in
          subst (λ n. 0 < length (get_or (part ∷ parts) n [])) (sym (cond-true ((parts_of f (part ∷ [])).accepted) (parts_read f parts + 1) 0 alone)) (subst (λ (p : List ℕ). 0 < length p) (sym (past_first part parts (parts_read f parts))) rest)
      | inr refused ↦
          let alone : (parts_of f (part ∷ [])).accepted ≡ false = refused_first one nothing refused in
          subst (λ n. 0 < length (get_or (part ∷ parts) n [])) (sym (cond-false ((parts_of f (part ∷ [])).accepted) (parts_read f parts + 1) 0 alone)) (nothing_read f part refused)
    ]

-- ---- a part of the list's text

beyond_first : (c : ℕ) (k : ℕ) (ps : List (List ℕ)) → get_or (onto_first c ps) (suc k) [] ≡ get_or ps (suc k) []
beyond_first c k [] = refl
beyond_first c k (p ∷ ps) = refl

part_after : (c : ℕ) (cs : List ℕ) (k : ℕ) → eqb c 44 ≡ true → 0 < length (get_or ([] ∷ pieces_at 44 cs) k []) → ((n : ℕ) → 0 < length (get_or (pieces_at 44 cs) n []) → has_part n cs ≡ true) → has_part k (c ∷ cs) ≡ true
part_after c cs zero is_so h again = absurd (omega (arith, h))
part_after c cs (suc n) is_so h again = cond-true (eqb c 44) (has_part n cs) (has_part (suc n) cs) is_so ∙ again n h

part_inside : (c : ℕ) (cs : List ℕ) (k : ℕ) → eqb c 44 ≡ false → 0 < length (get_or (onto_first c (pieces_at 44 cs)) k []) → ((n : ℕ) → 0 < length (get_or (pieces_at 44 cs) n []) → has_part n cs ≡ true) → has_part k (c ∷ cs) ≡ true
part_inside c cs zero is_not h again = ap not is_not
part_inside c cs (suc n) is_not h again =
    cond-false (eqb c 44) (has_part n cs) (has_part (suc n) cs) is_not ∙ again (suc n) (subst (λ p. 0 < length p) (beyond_first c n (pieces_at 44 cs)) h)

pub part_there : (text : List ℕ) (k : ℕ) → 0 < length (get_or (pieces_at 44 text) k []) → has_part k text ≡ true
part_there [] zero h = absurd (omega (arith, h))
part_there [] (suc k) h = absurd (omega (arith, h))
part_there (c ∷ cs) k h = elim (cases_Bool (eqb c 44)) [
  | inl is_so ↦
      part_after c cs k is_so (subst (λ (ps : List (List ℕ)). 0 < length (get_or ps k [])) (slice_split-cons_yes (λ b. eqb b 44) c cs is_so) h) (part_there cs)
  | inr is_not ↦
      part_inside c cs k is_not (subst (λ (ps : List (List ℕ)). 0 < length (get_or ps k [])) (slice_split-cons_no (λ b. eqb b 44) c cs is_not) h) (part_there cs)
]

-- ---- bytes that are no comma

abbrev pub is_no_comma : ℕ → Bool
is_no_comma b = not (eqb b 44)

no_comma : (b : ℕ) → is_no_comma b ≡ true → eqb b 44 ≡ false
no_comma b h = grind (arith, nat_tests, h)

-- a part of what stands after such bytes is one of the whole
part_on : (xs rest : List ℕ) (k : ℕ) → list_all is_no_comma xs ≡ true → has_part k rest ≡ true → has_part k (xs ++ rest) ≡ true
part_on [] rest k h p = p
part_on (x ∷ xs) rest zero h p = (and_parts (is_no_comma x) (list_all is_no_comma xs) h).0
part_on (x ∷ xs) rest (suc k) h p =
    let parts = and_parts (is_no_comma x) (list_all is_no_comma xs) h in
    cond-false (eqb x 44) (has_part k (xs ++ rest)) (has_part (suc k) (xs ++ rest)) (no_comma x parts.0) ∙ part_on xs rest (suc k) parts.1 p

-- and the first part has such bytes, or it is a part of what stands after them
pub part_off : (xs rest : List ℕ) (k : ℕ) → list_all is_no_comma xs ≡ true → has_part k (xs ++ rest) ≡ true → (k ≡ 0) ⊎ (has_part k rest ≡ true)
part_off xs rest zero h p = inl refl
part_off [] rest (suc k) h p = inr p
part_off (x ∷ xs) rest (suc k) h p =
    let parts = and_parts (is_no_comma x) (list_all is_no_comma xs) h in
    part_off xs rest (suc k) parts.1 (sym (cond-false (eqb x 44) (has_part k (xs ++ rest)) (has_part (suc k) (xs ++ rest)) (no_comma x parts.0)) ∙ p)

first_part : (xs rest : List ℕ) → 0 < length xs → list_all is_no_comma xs ≡ true → has_part 0 (xs ++ rest) ≡ true
first_part [] rest some h = absurd (omega (arith, some))
first_part (x ∷ xs) rest some h = (and_parts (is_no_comma x) (list_all is_no_comma xs) h).0

-- other such bytes may stand there
part_swapped : (xs ys rest now : List ℕ) (k : ℕ) → list_all is_no_comma xs ≡ true → 0 < length ys → list_all is_no_comma ys ≡ true → (has_part k now ≡ true → has_part k rest ≡ true) → has_part k (xs ++ now) ≡ true → has_part k (ys ++ rest) ≡ true
part_swapped xs ys rest now k h some g again p = elim (part_off xs now k h p) [
  | inl front ↦ subst (λ n. has_part n (ys ++ rest) ≡ true) (sym front) (first_part ys rest some g)
  | inr after ↦ part_on ys rest k g (again after)
]

digit_no_comma : (b : ℕ) → is_digit b ≡ true → is_no_comma b ≡ true
digit_no_comma b h = grind (arith, nat_tests)

digits_no_comma : (ds : List ℕ) → list_all is_digit ds ≡ true → list_all is_no_comma ds ≡ true
digits_no_comma [] h = refl
digits_no_comma (d ∷ ds) h =
    let parts = and_parts (is_digit d) (list_all is_digit ds) h in
    and_from (is_no_comma d) (list_all is_no_comma ds) (digit_no_comma d parts.0) (digits_no_comma ds parts.1)

-- ---- names

abbrev is_letters : List ℕ → Bool
is_letters name = (cond (eqb (length name) 0) false true) && (list_all is_no_comma name && not (eqb (get_or name 0 0) 43))

record AreLetters (name : List ℕ) : Type 0 where
  some : 0 < length name
  plain : list_all is_no_comma name ≡ true
  no_plus : eqb (get_or name 0 0) 43 ≡ false

not_empty : (xs : List ℕ) → cond (eqb (length xs) 0) false true ≡ true → 0 < length xs
not_empty [] h = absurd (false≢true h)
not_empty (x ∷ xs) h = omega arith

no_sign : (b : Bool) → not b ≡ true → b ≡ false
no_sign true h = sym h
no_sign false h = refl

are_letters : (name : List ℕ) → is_letters name ≡ true → AreLetters name
are_letters name h =
    let one = and_parts (cond (eqb (length name) 0) false true) _ h in
    let two = and_parts (list_all is_no_comma name) _ one.1 in
    record { some = not_empty name one.0; plain = two.0; no_plus = no_sign (eqb (get_or name 0 0) 43) two.1 }

month_letters : (n : ℕ) → n < 12 → AreLetters (get_or months n [])
month_letters n h = are_letters (get_or months n []) (all_at is_letters months n refl h)

weekday_letters : (n : ℕ) → n < 7 → AreLetters (get_or weekdays n [])
weekday_letters n h = are_letters (get_or weekdays n []) (all_at is_letters weekdays n refl h)

-- a part of a text whose names are replaced is one of the text
part_of_pieces : (quartz after_dash : Bool) (ps : List Piece) (k : ℕ) → ArePieces ps → has_part k (expansion quartz after_dash ps) ≡ true → has_part k (flat_map letters ps) ≡ true
part_of_pieces quartz after_dash [] k legal h = h
part_of_pieces quartz after_dash (month n ∷ ps) k legal h =
    let small = ltb-true n 12 legal.0 in
    let l = month_letters n small in
    part_swapped (decimal_of (n + 1)) (get_or months n []) (flat_map letters ps) (expansion quartz false ps) k (digits_no_comma (decimal_of (n + 1)) (decimal_digits (n + 1) (omega (arith, small)))) l.some l.plain
    (part_of_pieces quartz false ps k legal.1) h
part_of_pieces quartz after_dash (weekday n ∷ ps) k legal h =
    let small = ltb-true n 7 legal.0 in
    let l = weekday_letters n small in
    let number = weekday_number quartz after_dash n in
    part_swapped (decimal_of number) (get_or weekdays n []) (flat_map letters ps) (expansion quartz false ps) k (digits_no_comma (decimal_of number) (decimal_digits number (weekday_small quartz after_dash n small))) l.some l.plain
    (part_of_pieces quartz false ps k legal.1) h
part_of_pieces quartz after_dash (single c ∷ ps) zero legal h = h
part_of_pieces quartz after_dash (single c ∷ ps) (suc k) legal h = elim (cases_Bool (eqb c 44)) [
  | inl is_so ↦
      cond-true (eqb c 44) (has_part k (flat_map letters ps)) (has_part (suc k) (flat_map letters ps)) is_so
      ∙ part_of_pieces quartz (eqb c 45) ps k legal.1 (sym (cond-true (eqb c 44) (has_part k (expansion quartz (eqb c 45) ps)) (has_part (suc k) (expansion quartz (eqb c 45) ps)) is_so) ∙ h)
  | inr is_not ↦
      cond-false (eqb c 44) (has_part k (flat_map letters ps)) (has_part (suc k) (flat_map letters ps)) is_not
      ∙ part_of_pieces quartz (eqb c 45) ps (suc k) legal.1 (sym (cond-false (eqb c 44) (has_part k (expansion quartz (eqb c 45) ps)) (has_part (suc k) (expansion quartz (eqb c 45) ps)) is_not) ∙ h)
]

-- ---- the sign in front

-- a part of a text without its sign is one of the text
part_with_plus : (text : List ℕ) (k : ℕ) → has_part k (without_plus text) ≡ true → has_part k text ≡ true
part_with_plus [] k h = h
part_with_plus (c ∷ cs) k h = elim (cases_Bool (eqb c 43)) [
  | inl is_so ↦
      let plus : eqb c 44 ≡ false = ap (λ b. eqb b 44) (eqb-true c 43 is_so) in
      part_on (c ∷ []) cs k (and_from (is_no_comma c) true (ap not plus) refl) (ap (has_part k) (sym (cond-true (eqb c 43) cs (c ∷ cs) is_so)) ∙ h)
  | inr is_not ↦ ap (has_part k) (sym (cond-false (eqb c 43) cs (c ∷ cs) is_not)) ∙ h
]

stays : (text : List ℕ) → eqb (get_or text 0 0) 43 ≡ false → without_plus text ≡ text
stays [] h = refl
stays (c ∷ cs) h = cond-false (eqb c 43) cs (c ∷ cs) h

front_letters : (name rest : List ℕ) → AreLetters name → without_plus (name ++ rest) ≡ name ++ rest
front_letters [] rest l = absurd (omega (arith, l.some))
front_letters (c ∷ cs) rest l = stays (c ∷ (cs ++ rest)) l.no_plus

part_unsigned : (quartz : Bool) (ps : List Piece) (k : ℕ) → ArePieces ps → has_part k (without_plus (expansion quartz false ps)) ≡ true → has_part k (without_plus (flat_map letters ps)) ≡ true
part_unsigned quartz [] k legal h = h
part_unsigned quartz (month n ∷ ps) k legal h =
    ap (has_part k) (front_letters (get_or months n []) (flat_map letters ps) (month_letters n (ltb-true n 12 legal.0)))
    ∙ part_of_pieces quartz false (month n ∷ ps) k legal (part_with_plus (expansion quartz false (month n ∷ ps)) k h)
part_unsigned quartz (weekday n ∷ ps) k legal h =
    ap (has_part k) (front_letters (get_or weekdays n []) (flat_map letters ps) (weekday_letters n (ltb-true n 7 legal.0)))
    ∙ part_of_pieces quartz false (weekday n ∷ ps) k legal (part_with_plus (expansion quartz false (weekday n ∷ ps)) k h)
part_unsigned quartz (single c ∷ ps) k legal h = elim (cases_Bool (eqb c 43)) [
  | inl is_so ↦
      ap (has_part k) (cond-true (eqb c 43) (flat_map letters ps) (c ∷ flat_map letters ps) is_so)
      ∙ part_of_pieces quartz (eqb c 45) ps k legal.1 (ap (has_part k) (sym (cond-true (eqb c 43) (expansion quartz (eqb c 45) ps) (c ∷ expansion quartz (eqb c 45) ps) is_so)) ∙ h)
  | inr is_not ↦
      ap (has_part k) (cond-false (eqb c 43) (flat_map letters ps) (c ∷ flat_map letters ps) is_not)
      ∙ part_of_pieces quartz false (single c ∷ ps) k legal (ap (has_part k) (sym (cond-false (eqb c 43) (expansion quartz (eqb c 45) ps) (c ∷ expansion quartz (eqb c 45) ps) is_not)) ∙ h)
]

-- ---- signs and small letters

question_comma : (c : ℕ) → eqb (cond (eqb c 63) 42 c) 44 ≡ eqb c 44
question_comma c = elim (cases_Bool (eqb c 63)) [
  | inl is_so ↦ rw is_so (sym (ap (λ b. eqb b 44) (eqb-true c 63 is_so)))
  | inr is_not ↦ rw is_not refl
]

raised_comma : (c : ℕ) → eqb (to_ascii_uppercase c) 44 ≡ eqb c 44
raised_comma c = elim (cases_Bool (eqb c 44)) [
  | inl is_so ↦ let same : to_ascii_uppercase c ≡ 44 = grind (arith, nat_tests, is_so) in ap (λ b. eqb b 44) same ∙ sym is_so
  | inr is_not ↦ let other : eqb (to_ascii_uppercase c) 44 ≡ false = grind (arith, nat_tests, is_not) in other ∙ sym is_not
]

raised_plus : (c : ℕ) → eqb (to_ascii_uppercase c) 43 ≡ eqb c 43
raised_plus c = elim (cases_Bool (eqb c 43)) [
  | inl is_so ↦ let same : to_ascii_uppercase c ≡ 43 = grind (arith, nat_tests, is_so) in ap (λ b. eqb b 43) same ∙ sym is_so
  | inr is_not ↦ let other : eqb (to_ascii_uppercase c) 43 ≡ false = grind (arith, nat_tests, is_not) in other ∙ sym is_not
]

-- bytes that are changed one by one, and no comma with them, have the same parts
part_mapped : (f : ℕ → ℕ) → ((c : ℕ) → eqb (f c) 44 ≡ eqb c 44) → (text : List ℕ) (k : ℕ) → has_part k (map f text) ≡ has_part k text
part_mapped f same [] zero = refl
part_mapped f same [] (suc k) = refl
part_mapped f same (c ∷ cs) zero = ap not (same c)
part_mapped f same (c ∷ cs) (suc k) =
    ap (λ b. cond b (has_part k (map f cs)) (has_part (suc k) (map f cs))) (same c)
    ∙ ap (λ x. cond (eqb c 44) x (has_part (suc k) (map f cs))) (part_mapped f same cs k) ∙ ap (λ x. cond (eqb c 44) (has_part k cs) x) (part_mapped f same cs (suc k))

pub part_starred : (text : List ℕ) (k : ℕ) → has_part k (starred text) ≡ has_part k text
part_starred text k = part_mapped (λ c. cond (eqb c 63) 42 c) question_comma text k

part_raised : (text : List ℕ) (k : ℕ) → has_part k (str_to_ascii_uppercase text) ≡ has_part k text
part_raised text k = part_mapped to_ascii_uppercase raised_comma text k

plus_raised : (text : List ℕ) → without_plus (str_to_ascii_uppercase text) ≡ str_to_ascii_uppercase (without_plus text)
plus_raised [] = refl
plus_raised (c ∷ cs) = elim (cases_Bool (eqb c 43)) [
  | inl is_so ↦
      cond-true (eqb (to_ascii_uppercase c) 43) (str_to_ascii_uppercase cs) (str_to_ascii_uppercase (c ∷ cs)) (raised_plus c ∙ is_so)
      ∙ ap str_to_ascii_uppercase (sym (cond-true (eqb c 43) cs (c ∷ cs) is_so))
  | inr is_not ↦
      cond-false (eqb (to_ascii_uppercase c) 43) (str_to_ascii_uppercase cs) (str_to_ascii_uppercase (c ∷ cs)) (raised_plus c ∙ is_not)
      ∙ ap str_to_ascii_uppercase (sym (cond-false (eqb c 43) cs (c ∷ cs) is_not))
]

sign_raised : (field : PatternField) (text : List ℕ) → without_sign field (str_to_ascii_uppercase text) ≡ str_to_ascii_uppercase (without_sign field text)
sign_raised fields.Seconds text = refl
sign_raised fields.Minutes text = refl
sign_raised fields.Hours text = refl
sign_raised fields.DayOfMonth text = refl
sign_raised fields.Month text = refl
sign_raised fields.Weekday text = plus_raised text
sign_raised fields.Year text = refl

cut_part : (quartz : Bool) (field : PatternField) (ps : List Piece) (k : ℕ) → ArePieces ps → has_part k (without_sign field (expansion quartz false ps)) ≡ true → has_part k (without_sign field (flat_map letters ps)) ≡ true
cut_part quartz fields.Seconds ps k legal h = part_of_pieces quartz false ps k legal h
cut_part quartz fields.Minutes ps k legal h = part_of_pieces quartz false ps k legal h
cut_part quartz fields.Hours ps k legal h = part_of_pieces quartz false ps k legal h
cut_part quartz fields.DayOfMonth ps k legal h = part_of_pieces quartz false ps k legal h
cut_part quartz fields.Month ps k legal h = part_of_pieces quartz false ps k legal h
cut_part quartz fields.Weekday ps k legal h = part_unsigned quartz ps k legal h
cut_part quartz fields.Year ps k legal h = part_of_pieces quartz false ps k legal h

found_part : (quartz : Bool) (field : PatternField) (word now : List ℕ) (k : ℕ) (o : Option (List Piece)) → cut_of word ≡ o → option_map (expansion quartz false) o ≡ Some now → has_part k (without_sign field now) ≡ true → has_part k (without_sign field word) ≡ true
found_part quartz field word now k None e f h = absurd (none-some now f)
found_part quartz field word now k (Some ps) e f h =
    let cut = cut_found word ps e in
    let p = cut_part quartz field ps k cut.legal (ap (λ t. has_part k (without_sign field t)) (same_Some (expansion quartz false ps) now f) ∙ h) in
    ap (λ t. has_part k (without_sign field t)) (sym cut.spells) ∙ p

-- a part of a word that is raised and whose names are replaced is one of the word
pub written_part : (quartz : Bool) (field : PatternField) (word now : List ℕ) (k : ℕ) → replaced quartz false (str_to_ascii_uppercase word) ≡ Some now → has_part k (without_sign field now) ≡ true → has_part k (without_sign field word) ≡ true
written_part quartz field word now k e h =
    let up = str_to_ascii_uppercase word in
    let p = found_part quartz field up now k (cut_of up) refl e h in
    sym (part_raised (without_sign field word) k) ∙ ap (has_part k) (sym (sign_raised field word)) ∙ p
