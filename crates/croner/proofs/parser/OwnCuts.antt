-- An accepted text is its own: it has no small letter, no capital but `L` and `W`, and no `@`. So it is raised to itself, is no
-- nickname, and is its own cut, in which each byte stands for itself.
use Rattle.std.proofs.Common.{◌≡◌, ℕ, suc, ◌<◌, ◌≤◌, Bool, true, false, cond, eqb, ltb, leb, not, ◌||◌, List, [], ◌∷◌, ◌++◌, length, map, Some, None, refl, ap, sym, ◌∙◌, subst, arith, inl, inr}
use Rattle.std.proofs.lemmas.Bool.{and_parts, and_from, or_from, cases_Bool, cases_lt, cond-true, cond-false}
use Rattle.std.proofs.lemmas.Bool.Decides.{nat_tests}
use Rattle.std.proofs.lemmas.List.Folds.{list_all-append}
use Rattle.std.proofs.lemmas.Option.{none-some, same_Some}
use Rattle.std.proofs.lemmas.List.{map-append}
use Rattle.std.proofs.lemmas.Str.{encode_ascii}
use Rattle.std.proofs.lemmas.Str.Ascii.{uppercase_ascii, uppercase_is}
use Rattle.std.specs.Char.{encode_utf8, is_whitespace, is_not_whitespace, to_ascii_uppercase}
use Rattle.std.specs.List.{flat_map, list_all}
use Rattle.std.specs.Str.{IsUtf8, NonePass, NoCharPasses, all_scalars, encode_utf8_all, str_to_ascii_uppercase}
use lib.Utf8.{scalar, low_scalar}
use Rattle.croner_base.specs.Part.{contains_byte}
use Rattle.croner.specs.parser.Cut.{single, letters, is_lost, ArePieces, expansion, replaced}
use Rattle.croner.specs.parser.Grammar.{Texts, seven, fields_of, settled, starred, without_plus, is_list_character, is_for_days, is_for_weekdays, are_legal}
use Rattle.croner.specs.parser.Settings.{Settings, accepts_count}
use Rattle.croner.specs.parser.Words.{AreWords}
use Rattle.croner.proofs.parser.Cuts.{cut_is}
use Rattle.croner.proofs.parser.Names.{AreHigh, high_bytes}

-- below the letters and `@`, or `L` or `W`, or past ASCII
abbrev pub is_own : ℕ → Bool
is_own c = ltb c 64 || (eqb c 76 || (eqb c 87 || leb 128 c))

-- ---- one byte

own_kept : (c : ℕ) → is_own c ≡ true → is_lost c ≡ false
own_kept c h = grind (arith, nat_tests)

own_raised : (c : ℕ) → is_own c ≡ true → to_ascii_uppercase c ≡ c
own_raised c h = grind (arith, nat_tests)

own_no_at : (c : ℕ) → is_own c ≡ true → eqb c 64 ≡ false
own_no_at c h = grind (arith, nat_tests)

plain_own : (c : ℕ) → is_list_character c ≡ true → is_own c ≡ true
plain_own c h = grind (arith, nat_tests)

days_own : (c : ℕ) → is_for_days c ≡ true → is_own c ≡ true
days_own c h = grind (arith, nat_tests)

weekdays_own : (c : ℕ) → is_for_weekdays c ≡ true → is_own c ≡ true
weekdays_own c h = grind (arith, nat_tests)

white_own : (c : ℕ) → is_whitespace c ≡ true → c < 128 → is_own c ≡ true
white_own c h small = grind (arith, nat_tests)

high_own : (c : ℕ) → 128 ≤ c → is_own c ≡ true
high_own c h = grind (arith, nat_tests)

-- ---- a text of such bytes

pub text_raised : (text : List ℕ) → list_all is_own text ≡ true → str_to_ascii_uppercase text ≡ text
text_raised [] h = refl
text_raised (c ∷ cs) h =
    let parts = and_parts (is_own c) (list_all is_own cs) h in
    ap (λ x. x ∷ str_to_ascii_uppercase cs) (own_raised c parts.0) ∙ ap (λ xs. c ∷ xs) (text_raised cs parts.1)

pub text_no_at : (text : List ℕ) → list_all is_own text ≡ true → contains_byte 64 text ≡ false
text_no_at [] h = refl
text_no_at (c ∷ cs) h =
    let parts = and_parts (is_own c) (list_all is_own cs) h in
    or_from (eqb c 64) (contains_byte 64 cs) (own_no_at c parts.0) (text_no_at cs parts.1)

spelled : (text : List ℕ) → flat_map letters (map single text) ≡ text
spelled [] = refl
spelled (c ∷ cs) = ap (λ xs. c ∷ xs) (spelled cs)

pieces : (text : List ℕ) → list_all is_own text ≡ true → ArePieces (map single text)
pieces [] h = tt
pieces (c ∷ cs) h =
    let parts = and_parts (is_own c) (list_all is_own cs) h in (own_kept c parts.0, pieces cs parts.1)

expanded : (quartz after_dash : Bool) (text : List ℕ) → expansion quartz after_dash (map single text) ≡ text
expanded quartz after_dash [] = refl
expanded quartz after_dash (c ∷ cs) = ap (λ xs. c ∷ xs) (expanded quartz (eqb c 45) cs)

pub text_own_cut : (quartz : Bool) (text : List ℕ) → list_all is_own text ≡ true → replaced quartz false text ≡ Some text
text_own_cut quartz text h =
    let cut = cut_is text (map single text) (record { spells = spelled text; legal = pieces text h }) in
    let found : replaced quartz false text ≡ Some (expansion quartz false (map single text)) = rw cut refl in
    found ∙ ap Some (expanded quartz false text)

-- ---- a raised text is text

raised_high : (bs : List ℕ) → AreHigh bs → str_to_ascii_uppercase bs ≡ bs
raised_high [] h = refl
raised_high (b ∷ bs) h =
    let first = h 0 (omega arith) in
    ap (λ x. x ∷ str_to_ascii_uppercase bs) ((uppercase_is b).2 (omega (arith, first))) ∙ ap (λ xs. b ∷ xs) (raised_high bs (λ k l. h (suc k) (omega (arith, l))))

pub raised_char : (c : ℕ) → str_to_ascii_uppercase (encode_utf8 c) ≡ encode_utf8 (to_ascii_uppercase c)
raised_char c = elim (cases_lt c 128) [
  | inl small ↦ ap str_to_ascii_uppercase (encode_ascii c small) ∙ sym (encode_ascii (to_ascii_uppercase c) (uppercase_ascii c small))
  | inr high ↦ raised_high (encode_utf8 c) (high_bytes c high) ∙ ap encode_utf8 (sym ((uppercase_is c).2 (omega (arith, high))))
]

raised_scalar : (c : ℕ) → scalar c ≡ true → scalar (to_ascii_uppercase c) ≡ true
raised_scalar c h = elim (cases_lt c 128) [
  | inl small ↦ let low = uppercase_ascii c small in low_scalar (to_ascii_uppercase c) (omega (arith, low))
  | inr high ↦ ap scalar ((uppercase_is c).2 (omega (arith, high))) ∙ h
]

raised_chars : (cs : List ℕ) → all_scalars cs ≡ true → (all_scalars (map to_ascii_uppercase cs) ≡ true) × (encode_utf8_all (map to_ascii_uppercase cs) ≡ str_to_ascii_uppercase (encode_utf8_all cs))
raised_chars [] h = (refl, refl)
raised_chars (c ∷ cs) h =
    let parts = and_parts (scalar c) (all_scalars cs) h in
    let rest = raised_chars cs parts.1 in (
      and_from (scalar (to_ascii_uppercase c)) (all_scalars (map to_ascii_uppercase cs)) (raised_scalar c parts.0) rest.0,
      ap (λ x. x ++ encode_utf8_all (map to_ascii_uppercase cs)) (sym (raised_char c)) ∙ ap (λ xs. str_to_ascii_uppercase (encode_utf8 c) ++ xs) rest.1
          ∙ sym (map-append to_ascii_uppercase (encode_utf8 c) (encode_utf8_all cs)),
    )

pub raised : (text : List ℕ) → IsUtf8 text → IsUtf8 (str_to_ascii_uppercase text)
raised text utf8 =
    let k = raised_chars utf8.0 utf8.1.0 in
    (map to_ascii_uppercase utf8.0, (k.0, k.1 ∙ ap str_to_ascii_uppercase utf8.1.1))

-- ---- an accepted text

own_join : (a b : List ℕ) → list_all is_own a ≡ true → list_all is_own b ≡ true → list_all is_own (a ++ b) ≡ true
own_join a b h k = list_all-append is_own a b ∙ and_from (list_all is_own a) (list_all is_own b) h k

high_all : (bs : List ℕ) → AreHigh bs → list_all is_own bs ≡ true
high_all [] h = refl
high_all (b ∷ bs) h =
    and_from (is_own b) (list_all is_own bs) (high_own b (h 0 (omega arith))) (high_all bs (λ k l. h (suc k) (omega (arith, l))))

white_char : (w : ℕ) → is_whitespace w ≡ true → list_all is_own (encode_utf8 w) ≡ true
white_char w h = elim (cases_lt w 128) [
  | inl small ↦ ap (list_all is_own) (encode_ascii w small) ∙ and_from (is_own w) true (white_own w h small) refl
  | inr high ↦ high_all (encode_utf8 w) (high_bytes w high)
]

is_white : (b : Bool) → not b ≡ false → b ≡ true
is_white true h = refl
is_white false h = sym h

gap_own : (cs : List ℕ) → NonePass is_not_whitespace cs → list_all is_own (encode_utf8_all cs) ≡ true
gap_own [] h = refl
gap_own (c ∷ cs) h =
    own_join (encode_utf8 c) (encode_utf8_all cs) (white_char c (is_white (is_whitespace c) h.0)) (gap_own cs h.1)

gap_text : (text : List ℕ) → NoCharPasses is_not_whitespace text → list_all is_own text ≡ true
gap_text text h = ap (list_all is_own) (sym h.1) ∙ gap_own h.0 h.2

-- a text whose words are such is such
pub words_own : (ws : List (List ℕ)) (text : List ℕ) → AreWords text ws → list_all (list_all is_own) ws ≡ true → list_all is_own text ≡ true
words_own [] text h own = gap_text text h
words_own (w ∷ ws) text h own =
    let parts = and_parts (list_all is_own w) (list_all (list_all is_own) ws) own in
    let s = h.1 in
    ap (list_all is_own) s.spells ∙ own_join s.gap (w ++ h.0) (gap_text s.gap s.is_gap) (own_join w h.0 parts.0 (words_own ws h.0 h.2 parts.1))

all_plain : (text : List ℕ) → list_all is_list_character text ≡ true → list_all is_own text ≡ true
all_plain [] h = refl
all_plain (c ∷ cs) h =
    let parts = and_parts (is_list_character c) (list_all is_list_character cs) h in
    and_from (is_own c) (list_all is_own cs) (plain_own c parts.0) (all_plain cs parts.1)

starred_own : (c : ℕ) → (eqb c 63 ≡ false → is_own c ≡ true) → is_own c ≡ true
starred_own c h = elim (cases_Bool (eqb c 63)) [
  | inl is_so ↦ grind (arith, nat_tests, is_so)
  | inr is_not ↦ h is_not
]

-- characters that pass a test of own characters, once each `?` is a star, are own
all_starred : (test : ℕ → Bool) → ((c : ℕ) → test c ≡ true → is_own c ≡ true) → (text : List ℕ) → list_all test (starred text) ≡ true → list_all is_own text ≡ true
all_starred test own [] h = refl
all_starred test own (c ∷ cs) h =
    let parts = and_parts (test (cond (eqb c 63) 42 c)) (list_all test (starred cs)) h in
    and_from (is_own c) (list_all is_own cs) (starred_own c (λ is_not. own c (ap test (sym (cond-false (eqb c 63) 42 c is_not)) ∙ parts.0))) (all_starred test own cs parts.1)

plus_own : (text : List ℕ) → list_all is_for_weekdays (starred (without_plus text)) ≡ true → list_all is_own text ≡ true
plus_own [] h = refl
plus_own (c ∷ cs) h = elim (cases_Bool (eqb c 43)) [
  | inl is_so ↦
      let first : is_own c ≡ true = grind (arith, nat_tests, is_so) in
      and_from (is_own c) (list_all is_own cs) first (all_starred is_for_weekdays weekdays_own cs (ap (λ xs. list_all is_for_weekdays (starred xs)) (sym (cond-true (eqb c 43) cs (c ∷ cs) is_so)) ∙ h))
  | inr is_not ↦ all_starred is_for_weekdays weekdays_own (c ∷ cs) (ap (λ xs. list_all is_for_weekdays (starred xs)) (sym (cond-false (eqb c 43) cs (c ∷ cs) is_not)) ∙ h)
]

record OwnTexts (t : Texts) : Type 0 where
  seconds : list_all is_own t.seconds ≡ true
  minutes : list_all is_own t.minutes ≡ true
  hours : list_all is_own t.hours ≡ true
  days : list_all is_own t.days ≡ true
  months : list_all is_own t.months ≡ true
  days_of_week : list_all is_own t.days_of_week ≡ true
  years : list_all is_own t.years ≡ true

legal_own : (t : Texts) → are_legal (settled t) ≡ true → OwnTexts t
legal_own t h =
    let p1 = and_parts (list_all is_list_character t.seconds) _ h in
    let p2 = and_parts (list_all is_list_character t.minutes) _ p1.1 in
    let p3 = and_parts (list_all is_list_character t.hours) _ p2.1 in
    let p4 = and_parts (list_all is_for_days (starred t.days)) _ p3.1 in
    let p5 = and_parts (list_all is_list_character t.months) _ p4.1 in
    let p6 = and_parts (list_all is_for_weekdays (starred (without_plus t.days_of_week))) (list_all is_list_character t.years) p5.1 in
    record {
      seconds = all_plain t.seconds p1.0;
      minutes = all_plain t.minutes p2.0;
      hours = all_plain t.hours p3.0;
      days = all_starred is_for_days days_own t.days p4.0;
      months = all_plain t.months p5.0;
      days_of_week = plus_own t.days_of_week p6.0;
      years = all_plain t.years p6.1;
    }

cons_own : (w : List ℕ) (ws : List (List ℕ)) → list_all is_own w ≡ true → list_all (list_all is_own) ws ≡ true → list_all (list_all is_own) (w ∷ ws) ≡ true
cons_own w ws h k = and_from (list_all is_own w) (list_all (list_all is_own) ws) h k

seven_own : (ws : List (List ℕ)) (t : Texts) → seven ws ≡ Some t → OwnTexts t → list_all (list_all is_own) ws ≡ true
seven_own [] t e o = absurd (none-some t e)
seven_own (a ∷ []) t e o = absurd (none-some t e)
seven_own (a ∷ b ∷ []) t e o = absurd (none-some t e)
seven_own (a ∷ b ∷ c ∷ []) t e o = absurd (none-some t e)
seven_own (a ∷ b ∷ c ∷ d ∷ []) t e o = absurd (none-some t e)
seven_own (a ∷ b ∷ c ∷ d ∷ e1 ∷ []) t e o =
    let p = subst OwnTexts (sym (same_Some _ t e)) o in
    cons_own a (b ∷ c ∷ d ∷ e1 ∷ []) p.minutes (cons_own b (c ∷ d ∷ e1 ∷ []) p.hours (cons_own c (d ∷ e1 ∷ []) p.days (cons_own d (e1 ∷ []) p.months (cons_own e1 [] p.days_of_week refl))))
seven_own (a ∷ b ∷ c ∷ d ∷ e1 ∷ f ∷ []) t e o =
    let p = subst OwnTexts (sym (same_Some _ t e)) o in
    cons_own a (b ∷ c ∷ d ∷ e1 ∷ f ∷ []) p.seconds (cons_own b (c ∷ d ∷ e1 ∷ f ∷ []) p.minutes (cons_own c (d ∷ e1 ∷ f ∷ []) p.hours (cons_own d (e1 ∷ f ∷ []) p.days (cons_own e1 (f ∷ []) p.months (cons_own f [] p.days_of_week refl)))))
seven_own (a ∷ b ∷ c ∷ d ∷ e1 ∷ f ∷ g ∷ []) t e o =
    let p = subst OwnTexts (sym (same_Some _ t e)) o in
    cons_own a (b ∷ c ∷ d ∷ e1 ∷ f ∷ g ∷ []) p.seconds (cons_own b (c ∷ d ∷ e1 ∷ f ∷ g ∷ []) p.minutes (cons_own c (d ∷ e1 ∷ f ∷ g ∷ []) p.hours (cons_own d (e1 ∷ f ∷ g ∷ []) p.days (cons_own e1 (f ∷ g ∷ []) p.months (cons_own f (g ∷ []) p.days_of_week (cons_own g [] p.years refl))))))
seven_own (a ∷ b ∷ c ∷ d ∷ e1 ∷ f ∷ g ∷ h ∷ ws) t e o = absurd (none-some t e)

pub accepted_own : (s : Settings) (ws : List (List ℕ)) (t : Texts) → fields_of s ws ≡ Some t → are_legal (settled t) ≡ true → list_all (list_all is_own) ws ≡ true
accepted_own s ws t e legal = elim (cases_Bool (accepts_count s.seconds_field s.year_field (length ws))) [
  | inl is_so ↦ seven_own ws t (sym (cond-true (accepts_count s.seconds_field s.year_field (length ws)) (seven ws) None is_so) ∙ e) (legal_own t legal)
  | inr is_not ↦ absurd (none-some t (sym (cond-false (accepts_count s.seconds_field s.year_field (length ws)) (seven ws) None is_not) ∙ e))
]

-- no text without words is accepted
pub some_words : (s : Settings) (t : Texts) → fields_of s [] ≡ Some t → ⊥
some_words s t e = elim (cases_Bool (accepts_count s.seconds_field s.year_field 0)) [
  | inl is_so ↦ none-some t (sym (cond-true (accepts_count s.seconds_field s.year_field 0) (seven []) None is_so) ∙ e)
  | inr is_not ↦ none-some t (sym (cond-false (accepts_count s.seconds_field s.year_field 0) (seven []) None is_not) ∙ e)
]
