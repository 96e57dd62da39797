-- A word in which no character is illegal is legal when its names are replaced.
use Rattle.std.proofs.Common.{◌≡◌, ℕ, zero, suc, ◌-◌, ◌≤◌, drop, drop_at, get_or, subst, ◌<◌, Bool, true, false, eqb, List, [], ◌∷◌, ◌++◌, length, Some, refl, ap, sym, ◌∙◌, arith, inl, inr}
use Rattle.std.proofs.lemmas.Bool.{false≢true, and_parts, and_from, cases_Bool, cond-true, cond-false, eqb-true}
use Rattle.std.proofs.lemmas.Bool.Decides.{nat_tests}
use Rattle.std.proofs.lemmas.List.{append_assoc, get_or-map, length-append, length-map}
use Rattle.std.proofs.lemmas.List.Folds.{list_all-append}
use Rattle.std.proofs.lemmas.Str.{IsCharBoundary-at_seam, cons_from_encodes}
use Rattle.std.specs.Char.{encode_utf8, to_ascii_uppercase}
use Rattle.std.specs.Str.{IsCharBoundary, IsUtf8, all_scalars, str_to_ascii_uppercase}
use lib.Utf8.{scalar}
use Rattle.std.specs.List.{list_all}
use Rattle.croner.specs.declared.parser.fault.PatternField.{PatternField}
use Rattle.croner.specs.declared.parser.fault.PatternField.TheVariants as fields
use Rattle.croner.specs.parser.Cut.{is_lost, shown, replaced}
use Rattle.croner.specs.parser.Faults.{from_illegal}
use Rattle.croner.specs.parser.Grammar.{is_list_character, is_replaced_legal, is_word_legal, takes, takes_all, without_plus, without_sign}
use Rattle.croner.specs.Private.parser.Places.{IsIllegalFrom}
use Rattle.croner.specs.Private.parser.Steps.{with_front, HasNoName}
use Rattle.croner.proofs.parser.Cuts.{names_of}
use Rattle.croner.proofs.parser.Expanded.{is_digit}
use Rattle.croner.proofs.parser.Illegal.{named, unnamed}
use Rattle.croner.proofs.parser.Names.{replaced_single}
use Rattle.croner.proofs.parser.ReplacedWords.{first, second, third, is_capital, name_first, is_number}

-- ---- one character

plain_kept : (c : ℕ) → is_list_character c ≡ true → is_lost c ≡ false
plain_kept c h = grind (arith, nat_tests)

taken_kept : (field : PatternField) (c : ℕ) → takes field c ≡ true → is_lost c ≡ false
taken_kept fields.Seconds c h = plain_kept c h
taken_kept fields.Minutes c h = plain_kept c h
taken_kept fields.Hours c h = plain_kept c h
taken_kept fields.DayOfMonth c h = grind (arith, nat_tests)
taken_kept fields.Month c h = plain_kept c h
taken_kept fields.Weekday c h = grind (arith, nat_tests)
taken_kept fields.Year c h = plain_kept c h

plain_digit : (c : ℕ) → is_digit c ≡ true → is_list_character c ≡ true
plain_digit c h = grind (arith, nat_tests)

digit_taken : (field : PatternField) (c : ℕ) → is_digit c ≡ true → takes field c ≡ true
digit_taken fields.Seconds c h = plain_digit c h
digit_taken fields.Minutes c h = plain_digit c h
digit_taken fields.Hours c h = plain_digit c h
digit_taken fields.DayOfMonth c h = grind (arith, nat_tests)
digit_taken fields.Month c h = plain_digit c h
digit_taken fields.Weekday c h = grind (arith, nat_tests)
digit_taken fields.Year c h = plain_digit c h

digits_taken : (field : PatternField) (ds : List ℕ) → list_all is_digit ds ≡ true → takes_all field ds ≡ true
digits_taken field [] h = refl
digits_taken field (d ∷ ds) h =
    let parts = and_parts (is_digit d) (list_all is_digit ds) h in
    and_from (takes field d) (takes_all field ds) (digit_taken field d parts.0) (digits_taken field ds parts.1)

-- ---- a word

-- a word has a cut, and the field takes what stands for it
abbrev IsLegalNow : Bool → Bool → PatternField → List ℕ → Type 0
IsLegalNow quartz after_dash field word = (now : List ℕ) × (replaced quartz after_dash word ≡ Some now) × (takes_all field now ≡ true)

legal_char : (quartz after_dash : Bool) (field : PatternField) (c : ℕ) (word : List ℕ) → HasNoName (c ∷ word) → ((dash : Bool) → from_illegal field word ≡ [] → IsLegalNow quartz dash field word)
    → from_illegal field (c ∷ word) ≡ [] → IsLegalNow quartz after_dash field (c ∷ word)
legal_char quartz after_dash field c word none again e = elim (cases_Bool (takes field c)) [
  | inl taken ↦
      let k = again (eqb c 45) (sym (unnamed field c word none ∙ cond-true (takes field c) (from_illegal field word) (c ∷ word) taken) ∙ e) in (
        c ∷ k.0,
        replaced_single quartz after_dash c word none (taken_kept field c taken) ∙ ap (with_front (c ∷ [])) k.1,
        and_from (takes field c) (takes_all field k.0) taken k.2,
      )
  | inr other ↦
      absurd (omega (arith, ap length (sym (unnamed field c word none ∙ cond-false (takes field c) (from_illegal field word) (c ∷ word) other) ∙ e)))
]

legal_word : (quartz after_dash : Bool) (field : PatternField) (word : List ℕ) → from_illegal field word ≡ [] → IsLegalNow quartz after_dash field word
legal_word quartz after_dash field [] e = ([], refl, refl)
legal_word quartz after_dash field (a ∷ []) e =
    legal_char quartz after_dash field a [] (second a [] refl) (λ dash h. legal_word quartz dash field [] h) e
legal_word quartz after_dash field (a ∷ b ∷ []) e =
    legal_char quartz after_dash field a (b ∷ []) (third a b [] refl) (λ dash h. legal_word quartz dash field (b ∷ []) h) e
legal_word quartz after_dash field (a ∷ b ∷ c ∷ word) e = elim (names_of (a ∷ b ∷ c ∷ [])) [
  | inl none ↦ legal_char quartz after_dash field a (b ∷ c ∷ word) none (λ dash h. legal_word quartz dash field (b ∷ c ∷ word) h) e
  | inr some ↦
      let p = some.0 in
      let number = is_number quartz after_dash p (a ∷ b ∷ c ∷ []) some.2 some.3 refl in
      let k = legal_word quartz false field word (sym (named field (a ∷ b ∷ c ∷ word) p some.1 (omega arith)) ∙ e) in (
        shown quartz after_dash p ++ k.0,
        name_first quartz after_dash a b c word p some.1 ∙ ap (λ d. with_front (shown quartz after_dash p) (replaced quartz d word)) number.no_dash ∙ ap (with_front (shown quartz after_dash p)) k.1,
        list_all-append (takes field) (shown quartz after_dash p) k.0 ∙ and_from (takes_all field (shown quartz after_dash p)) (takes_all field k.0) (digits_taken field (shown quartz after_dash p) number.digits) k.2,
      )
]

-- ---- with its sign

plain_legal : (quartz : Bool) (field : PatternField) (word : List ℕ) → ((text : List ℕ) → without_sign field text ≡ text) → from_illegal field word ≡ [] → is_word_legal quartz field word ≡ true
plain_legal quartz field word same e =
    let k = legal_word quartz false field word e in
    ap (is_replaced_legal field) k.1 ∙ ap (takes_all field) (same k.0) ∙ k.2

plus_taken : (field : PatternField) (text : List ℕ) → takes_all field text ≡ true → takes_all field (without_plus text) ≡ true
plus_taken field [] h = refl
plus_taken field (c ∷ cs) h = elim (cases_Bool (eqb c 43)) [
  | inl is_so ↦ ap (takes_all field) (cond-true (eqb c 43) cs (c ∷ cs) is_so) ∙ (and_parts (takes field c) (takes_all field cs) h).1
  | inr is_not ↦ ap (takes_all field) (cond-false (eqb c 43) cs (c ∷ cs) is_not) ∙ h
]

weekday_legal : (quartz : Bool) (word : List ℕ) → from_illegal fields.Weekday (without_plus word) ≡ [] → is_word_legal quartz fields.Weekday word ≡ true
weekday_legal quartz [] e = refl
weekday_legal quartz (c ∷ cs) e = elim (cases_Bool (eqb c 43)) [
  | inl is_so ↦
      let k = legal_word quartz (eqb c 45) fields.Weekday cs (ap (from_illegal fields.Weekday) (sym (cond-true (eqb c 43) cs (c ∷ cs) is_so)) ∙ e) in
      let is_plus : c ≡ 43 = eqb-true c 43 is_so in
      let whole : replaced quartz false (c ∷ cs) ≡ Some (c ∷ k.0) =
      replaced_single quartz false c cs (first (c ∷ cs) (ap is_capital is_plus)) (ap is_lost is_plus) ∙ ap (with_front (c ∷ [])) k.1 in
      ap (is_replaced_legal fields.Weekday) whole ∙ ap (takes_all fields.Weekday) (cond-true (eqb c 43) k.0 (c ∷ k.0) is_so) ∙ k.2
  | inr is_not ↦
      let k = legal_word quartz false fields.Weekday (c ∷ cs) (ap (from_illegal fields.Weekday) (sym (cond-false (eqb c 43) cs (c ∷ cs) is_not)) ∙ e) in
      ap (is_replaced_legal fields.Weekday) k.1 ∙ plus_taken fields.Weekday k.0 k.2
]

word_legal : (quartz : Bool) (field : PatternField) (word : List ℕ) → from_illegal field (without_sign field word) ≡ [] → is_word_legal quartz field word ≡ true
word_legal quartz fields.Seconds word e = plain_legal quartz fields.Seconds word (λ text. refl) e
word_legal quartz fields.Minutes word e = plain_legal quartz fields.Minutes word (λ text. refl) e
word_legal quartz fields.Hours word e = plain_legal quartz fields.Hours word (λ text. refl) e
word_legal quartz fields.DayOfMonth word e = plain_legal quartz fields.DayOfMonth word (λ text. refl) e
word_legal quartz fields.Month word e = plain_legal quartz fields.Month word (λ text. refl) e
word_legal quartz fields.Weekday word e = weekday_legal quartz word e
word_legal quartz fields.Year word e = plain_legal quartz fields.Year word (λ text. refl) e

some_left : (cs : List ℕ) → (cs ≡ [] → ⊥) → 0 < length cs
some_left [] h = absurd (h refl)
some_left (c ∷ cs) h = omega arith

-- a word that is not legal has a character that is not
pub illegal_left : (quartz : Bool) (field : PatternField) (word : List ℕ) → is_word_legal quartz field word ≡ false → 0 < length (from_illegal field (without_sign field word))
illegal_left quartz field word h =
    some_left (from_illegal field (without_sign field word)) (λ e. false≢true (sym h ∙ word_legal quartz field word e))

-- ---- where it begins

-- a text ends with another
abbrev EndsWith : List ℕ → List ℕ → Type 0
EndsWith text rest = (front : List ℕ) × (text ≡ front ++ rest)

char_end : (field : PatternField) (c : ℕ) (word : List ℕ) → HasNoName (c ∷ word) → EndsWith word (from_illegal field word) → EndsWith (c ∷ word) (from_illegal field (c ∷ word))
char_end field c word none again = elim (cases_Bool (takes field c)) [
  | inl taken ↦
      (c ∷ again.0, ap (λ xs. c ∷ xs) again.1 ∙ ap (λ xs. c ∷ (again.0 ++ xs)) (sym (unnamed field c word none ∙ cond-true (takes field c) (from_illegal field word) (c ∷ word) taken)))
  | inr other ↦ ([], sym (unnamed field c word none ∙ cond-false (takes field c) (from_illegal field word) (c ∷ word) other))
]

illegal_end : (field : PatternField) (word : List ℕ) → EndsWith word (from_illegal field word)
illegal_end field [] = ([], refl)
illegal_end field (a ∷ []) = char_end field a [] (second a [] refl) (illegal_end field [])
illegal_end field (a ∷ b ∷ []) = char_end field a (b ∷ []) (third a b [] refl) (illegal_end field (b ∷ []))
illegal_end field (a ∷ b ∷ c ∷ word) = elim (names_of (a ∷ b ∷ c ∷ [])) [
  | inl none ↦ char_end field a (b ∷ c ∷ word) none (illegal_end field (b ∷ c ∷ word))
  | inr some ↦
      let k = illegal_end field word in
      (a ∷ b ∷ c ∷ k.0, ap (λ xs. a ∷ b ∷ c ∷ xs) k.1 ∙ ap (λ xs. a ∷ b ∷ c ∷ (k.0 ++ xs)) (sym (named field (a ∷ b ∷ c ∷ word) some.0 some.1 (omega arith))))
]

plus_end : (text : List ℕ) → EndsWith text (without_plus text)
plus_end [] = ([], refl)
plus_end (c ∷ cs) = elim (cases_Bool (eqb c 43)) [
  | inl is_so ↦ (c ∷ [], ap (λ xs. c ∷ xs) (sym (cond-true (eqb c 43) cs (c ∷ cs) is_so)))
  | inr is_not ↦ ([], sym (cond-false (eqb c 43) cs (c ∷ cs) is_not))
]

pub sign_end : (field : PatternField) (text : List ℕ) → (front : List ℕ) × (text ≡ front ++ without_sign field text)
sign_end fields.Seconds text = ([], refl)
sign_end fields.Minutes text = ([], refl)
sign_end fields.Hours text = ([], refl)
sign_end fields.DayOfMonth text = ([], refl)
sign_end fields.Month text = ([], refl)
sign_end fields.Weekday text = plus_end text
sign_end fields.Year text = ([], refl)

rest_end : (field : PatternField) (word : List ℕ) → EndsWith word (from_illegal field (without_sign field word))
rest_end field word =
    let one = sign_end field word in
    let two = illegal_end field (without_sign field word) in
    (one.0 ++ two.0, one.1 ∙ ap (λ xs. one.0 ++ xs) two.1 ∙ sym (append_assoc one.0 two.0 (from_illegal field (without_sign field word))))

pub rest_short : (field : PatternField) (word rest : List ℕ) → rest ≡ from_illegal field (without_sign field word) → length rest ≤ length word
rest_short field word rest e =
    let k = rest_end field word in
    omega (arith, ap length e, ap length k.1, length-append k.0 (from_illegal field (without_sign field word)))

high_raised : (c : ℕ) → 128 ≤ c → to_ascii_uppercase c ≡ c
high_raised c h = grind (arith, nat_tests, h)

map_drop : (n : ℕ) (xs : List ℕ) → str_to_ascii_uppercase (drop n xs) ≡ drop n (str_to_ascii_uppercase xs)
map_drop zero xs = refl
map_drop (suc n) [] = refl
map_drop (suc n) (x ∷ xs) = map_drop n xs

-- a boundary of the raised text is one of the text
raised_boundary : (word : List ℕ) (at : ℕ) → IsCharBoundary (str_to_ascii_uppercase word) at → IsCharBoundary word at
raised_boundary word at b =
    let same = length-map word to_ascii_uppercase in (
      omega (arith, b.0, same),
      λ l high.
          let byte : get_or (str_to_ascii_uppercase word) at 0 ≡ get_or word at 0 = get_or-map to_ascii_uppercase word at 0 0 l ∙ high_raised (get_or word at 0) high in
          subst (λ c. 192 ≤ c) byte (b.1 (omega (arith, same, l)) (subst (λ c. 128 ≤ c) (sym byte) high)),
    )

pub illegal_from : (field : PatternField) (word raised rest : List ℕ) → raised ≡ str_to_ascii_uppercase word → rest ≡ from_illegal field (without_sign field raised) → IsUtf8 rest → IsIllegalFrom field word (length raised - length rest)
illegal_from field word raised rest e f utf8 =
    let up = str_to_ascii_uppercase word in
    let is_rest : rest ≡ from_illegal field (without_sign field up) = f ∙ ap (λ x. from_illegal field (without_sign field x)) e in
    let k = rest_end field up in
    let spelled : up ≡ k.0 ++ rest = k.1 ∙ ap (λ x. k.0 ++ x) (sym is_rest) in
    let at = length raised - length rest in
    let long : length k.0 ≡ at = omega (arith, ap length e, ap length spelled, length-append k.0 rest) in
    record {
      starts = raised_boundary word at (subst (IsCharBoundary up) long (IsCharBoundary-at_seam up k.0 rest spelled utf8));
      first = sym is_rest ∙ sym (drop_at k.0 rest at long) ∙ ap (drop at) (sym spelled) ∙ sym (map_drop at word);
    }

-- the first character of a text
pub first_char : (text rest : List ℕ) (c : ℕ) → IsUtf8 text → text ≡ encode_utf8 c ++ rest → (scalar c ≡ true) × IsUtf8 rest
first_char text rest c utf8 e =
    let k = cons_from_encodes utf8.0 rest c (utf8.1.1 ∙ e) in
    let parts = and_parts (scalar c) (all_scalars k.0) (ap all_scalars (sym k.1) ∙ utf8.1.0) in
    (parts.0, (k.0, (parts.1, k.2)))
