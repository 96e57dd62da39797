-- A refused text has what it is refused for in the word of the field: the text as it was handed in, with its own letters and
-- names.
use Rattle.std.proofs.Common.{◌≡◌, ◌⊎◌, ℕ, ◌<◌, ◌≤◌, ◌-◌, Bool, true, false, cond, eqb, ◌&&◌, ◌||◌, List, [], ◌∷◌, length, get_or, Option, Some, None, Result, Ok, Err, unwrap_or, is_some, refl, ap, sym, ◌∙◌, subst, arith, lit<, lit≤, inl, inr}
use Rattle.std.specs.Prelude.{codes}
use Rattle.std.proofs.lemmas.Bool.{false≢true, and_parts, and_from, cases_Bool, cond-true, cond-false, cond_both, eq-eqb}
use Rattle.std.proofs.lemmas.Bool.Decides.{nat_tests}
use Rattle.std.proofs.lemmas.List.{length-map, get_or-map}
use Rattle.std.proofs.lemmas.Option.{none-some, same_Some}
use Rattle.std.proofs.lemmas.Slice.Eq.{bytes_eq-Decides}
use Rattle.std.specs.List.{list_all}
use Rattle.std.specs.Str.{IsUtf8, bytes_eq, str_to_ascii_uppercase, trim, trim_start, trim_end, chars}
use Rattle.croner_base.specs.Part.{contains_byte, parts_of, pieces_at, star_read}
use Rattle.croner_base.specs.Field.{Shape}
use Rattle.croner_pattern.specs.Meaning.{Meaning}
use Rattle.croner.specs.declared.parser.fault.PatternField.{PatternField}
use Rattle.croner.specs.declared.parser.fault.PatternField.TheVariants as fields
use Rattle.croner.specs.parser.Cut.{replaced}
use Rattle.croner.specs.parser.Faults.{place_of_field, place_of_word, word_at, word_of}
use Rattle.croner.specs.parser.Grammar.{Refusal, Empty, Invalid, Illegal, Texts, are_legal, are_read, fields_of, first_failing, has_plus, illegal_field, illegal_word, is_for_days, is_for_weekdays, is_list_character, is_read, is_replaced_legal, is_word_legal, meaning, of_fields, of_legal, of_letter, of_replaced, of_trimmed, outcome, settled, seven, shape_of, start_of, starred, takes, takes_all, text_of_field, unread, unread_field, unread_part, without_plus, without_sign}
use Rattle.croner.specs.parser.Settings.{Settings, accepts_count}
use Rattle.croner.specs.parser.Words.{words}
use Rattle.croner.specs.Private.parser.Places.{HasCause, HasCauseInSight, IsWritten, has_part}
use Rattle.croner.proofs.parser.FieldReads.{all_hold, all_read, first_false, no_nickname}
use Rattle.croner.proofs.parser.GivenWords.{given_utf8, no_at_given, no_words, words_given}
use Rattle.croner.proofs.parser.LegalWords.{illegal_left}
use Rattle.croner.proofs.parser.ListParts.{part_starred, part_there, unread_some, written_part}
use Rattle.croner.proofs.parser.OwnCuts.{raised}
use Rattle.croner.proofs.parser.ReplacedWords.{all_at, is_cut, lost_word, replaced_words, written}

-- ---- the first of seven that fails

each_field : (P : PatternField → Type 0) → P fields.Seconds → P fields.Minutes → P fields.Hours → P fields.DayOfMonth → P fields.Month → P fields.Weekday → P fields.Year → (field : PatternField) → P field
each_field P a b c d e f g fields.Seconds = a
each_field P a b c d e f g fields.Minutes = b
each_field P a b c d e f g fields.Hours = c
each_field P a b c d e f g fields.DayOfMonth = d
each_field P a b c d e f g fields.Month = e
each_field P a b c d e f g fields.Weekday = f
each_field P a b c d e f g fields.Year = g

failing_at : (P : PatternField → Type 0) (a b c d e f : Bool) → (a ≡ false → P fields.Seconds) → (b ≡ false → P fields.Minutes) → (c ≡ false → P fields.Hours) → (d ≡ false → P fields.DayOfMonth) → (e ≡ false → P fields.Month) → (f ≡ false → P fields.Weekday)
    → (a ≡ true → b ≡ true → c ≡ true → d ≡ true → e ≡ true → f ≡ true → P fields.Year) → P (first_false a b c d e f)
failing_at P false b c d e f s m h w n k y = s refl
failing_at P true false c d e f s m h w n k y = m refl
failing_at P true true false d e f s m h w n k y = h refl
failing_at P true true true false e f s m h w n k y = w refl
failing_at P true true true true false f s m h w n k y = n refl
failing_at P true true true true true false s m h w n k y = k refl
failing_at P true true true true true true s m h w n k y = y refl refl refl refl refl refl

-- where not all fields pass, the first that fails does fail
failing : (test : PatternField → List ℕ → Bool) (t : Texts) → (((field : PatternField) → test field (text_of_field field t) ≡ true) → ⊥) → test (first_failing test t) (text_of_field (first_failing test t) t) ≡ false
failing test t not_all =
    let P : PatternField → Type 0 = λ field. test field (text_of_field field t) ≡ false in
    failing_at P (test fields.Seconds t.seconds) (test fields.Minutes t.minutes) (test fields.Hours t.hours) (test fields.DayOfMonth t.days) (test fields.Month t.months) (test fields.Weekday t.days_of_week)
    (λ x. x) (λ x. x) (λ x. x) (λ x. x) (λ x. x) (λ x. x)
    (λ a b c d e f. elim (cases_Bool (test fields.Year t.years)) [
      | inl g ↦ absurd (not_all (each_field (λ field. test field (text_of_field field t) ≡ true) a b c d e f g))
      | inr g ↦ g
    ])

-- ---- the words of the fields

-- a field's text is the word at its place
record Seat (ws : List (List ℕ)) (field : PatternField) (text : List ℕ) : Type 0 where
  reaches : cond (eqb (length ws) 5) 1 0 ≤ place_of_field field
  within : place_of_field field - cond (eqb (length ws) 5) 1 0 < length ws
  is_word : get_or ws (place_of_field field - cond (eqb (length ws) 5) 1 0) [] ≡ text

-- or the field isn't written
abbrev Seated : List (List ℕ) → PatternField → List ℕ → Type 0
Seated ws field text = ((field ≡ fields.Seconds) × (text ≡ codes "0")) ⊎ (((field ≡ fields.Year) × (text ≡ codes "*")) ⊎ Seat ws field text)

seat : (ws : List (List ℕ)) (t : Texts) (field : PatternField) → seven ws ≡ Some t → Seated ws field (text_of_field field t)
seat [] t field e = absurd (none-some t e)
seat (a ∷ []) t field e = absurd (none-some t e)
seat (a ∷ b ∷ []) t field e = absurd (none-some t e)
seat (a ∷ b ∷ c ∷ []) t field e = absurd (none-some t e)
seat (a ∷ b ∷ c ∷ d ∷ []) t field e = absurd (none-some t e)
seat (a ∷ b ∷ c ∷ d ∷ f ∷ []) t field e =
    let ws = a ∷ b ∷ c ∷ d ∷ f ∷ [] in
    subst (λ u. Seated ws field (text_of_field field u)) (same_Some _ t e) (each_field (λ x. Seated ws x (text_of_field x (record { seconds = codes "0"; minutes = a; hours = b; days = c; months = d; days_of_week = f; years = codes "*" })))
    (inl (refl, refl)) (inr (inr (record { reaches = lit≤ tt; within = lit< tt; is_word = refl }))) (inr (inr (record { reaches = lit≤ tt; within = lit< tt; is_word = refl })))
    (inr (inr (record { reaches = lit≤ tt; within = lit< tt; is_word = refl }))) (inr (inr (record { reaches = lit≤ tt; within = lit< tt; is_word = refl }))) (inr (inr (record { reaches = lit≤ tt; within = lit< tt; is_word = refl })))
    (inr (inl (refl, refl))) field)
seat (a ∷ b ∷ c ∷ d ∷ f ∷ g ∷ []) t field e =
    let ws = a ∷ b ∷ c ∷ d ∷ f ∷ g ∷ [] in
    subst (λ u. Seated ws field (text_of_field field u)) (same_Some _ t e) (each_field (λ x. Seated ws x (text_of_field x (record { seconds = a; minutes = b; hours = c; days = d; months = f; days_of_week = g; years = codes "*" })))
    (inr (inr (record { reaches = lit≤ tt; within = lit< tt; is_word = refl }))) (inr (inr (record { reaches = lit≤ tt; within = lit< tt; is_word = refl }))) (inr (inr (record { reaches = lit≤ tt; within = lit< tt; is_word = refl })))
    (inr (inr (record { reaches = lit≤ tt; within = lit< tt; is_word = refl }))) (inr (inr (record { reaches = lit≤ tt; within = lit< tt; is_word = refl }))) (inr (inr (record { reaches = lit≤ tt; within = lit< tt; is_word = refl })))
    (inr (inl (refl, refl))) field)
seat (a ∷ b ∷ c ∷ d ∷ f ∷ g ∷ h ∷ []) t field e =
    let ws = a ∷ b ∷ c ∷ d ∷ f ∷ g ∷ h ∷ [] in
    subst (λ u. Seated ws field (text_of_field field u)) (same_Some _ t e) (each_field (λ x. Seated ws x (text_of_field x (record { seconds = a; minutes = b; hours = c; days = d; months = f; days_of_week = g; years = h })))
    (inr (inr (record { reaches = lit≤ tt; within = lit< tt; is_word = refl }))) (inr (inr (record { reaches = lit≤ tt; within = lit< tt; is_word = refl }))) (inr (inr (record { reaches = lit≤ tt; within = lit< tt; is_word = refl })))
    (inr (inr (record { reaches = lit≤ tt; within = lit< tt; is_word = refl }))) (inr (inr (record { reaches = lit≤ tt; within = lit< tt; is_word = refl }))) (inr (inr (record { reaches = lit≤ tt; within = lit< tt; is_word = refl })))
    (inr (inr (record { reaches = lit≤ tt; within = lit< tt; is_word = refl }))) field)
seat (a ∷ b ∷ c ∷ d ∷ f ∷ g ∷ h ∷ i ∷ ws) t field e = absurd (none-some t e)

seven_all : (test : List ℕ → Bool) (ws : List (List ℕ)) (t : Texts) → seven ws ≡ Some t → ((field : PatternField) → test (text_of_field field t) ≡ true) → list_all test ws ≡ true
seven_all test [] t e all = refl
seven_all test (a ∷ []) t e all = absurd (none-some t e)
seven_all test (a ∷ b ∷ []) t e all = absurd (none-some t e)
seven_all test (a ∷ b ∷ c ∷ []) t e all = absurd (none-some t e)
seven_all test (a ∷ b ∷ c ∷ d ∷ []) t e all = absurd (none-some t e)
seven_all test (a ∷ b ∷ c ∷ d ∷ f ∷ []) t e all =
    let p = subst (λ u. (field : PatternField) → test (text_of_field field u) ≡ true) (sym (same_Some _ t e)) all in
    and_from (test a) _ (p fields.Minutes) (and_from (test b) _ (p fields.Hours) (and_from (test c) _ (p fields.DayOfMonth) (and_from (test d) _ (p fields.Month) (and_from (test f) true (p fields.Weekday) refl))))
seven_all test (a ∷ b ∷ c ∷ d ∷ f ∷ g ∷ []) t e all =
    let p = subst (λ u. (field : PatternField) → test (text_of_field field u) ≡ true) (sym (same_Some _ t e)) all in
    and_from (test a) _ (p fields.Seconds) (and_from (test b) _ (p fields.Minutes) (and_from (test c) _ (p fields.Hours) (and_from (test d) _ (p fields.DayOfMonth) (and_from (test f) _ (p fields.Month) (and_from (test g) true (p fields.Weekday) refl)))))
seven_all test (a ∷ b ∷ c ∷ d ∷ f ∷ g ∷ h ∷ []) t e all =
    let p = subst (λ u. (field : PatternField) → test (text_of_field field u) ≡ true) (sym (same_Some _ t e)) all in
    and_from (test a) _ (p fields.Seconds) (and_from (test b) _ (p fields.Minutes) (and_from (test c) _ (p fields.Hours) (and_from (test d) _ (p fields.DayOfMonth) (and_from (test f) _ (p fields.Month) (and_from (test g) _ (p fields.Weekday) (and_from (test h) true (p fields.Year) refl))))))
seven_all test (a ∷ b ∷ c ∷ d ∷ f ∷ g ∷ h ∷ i ∷ ws) t e all = absurd (none-some t e)

accepted_seven : (s : Settings) (ws : List (List ℕ)) (t : Texts) → fields_of s ws ≡ Some t → seven ws ≡ Some t
accepted_seven s ws t e = elim (cases_Bool (accepts_count s.seconds_field s.year_field (length ws))) [
  | inl is_so ↦ sym (cond-true (accepts_count s.seconds_field s.year_field (length ws)) (seven ws) None is_so) ∙ e
  | inr is_not ↦ absurd (none-some t (sym (cond-false (accepts_count s.seconds_field s.year_field (length ws)) (seven ws) None is_not) ∙ e))
]

-- ---- the same words as they were given

-- the text as it is read
abbrev read_text : List ℕ → List ℕ
read_text text = trim (str_to_ascii_uppercase text)

raised_count : (text : List ℕ) → IsUtf8 text → length (words (read_text text)) ≡ length (words text)
raised_count text utf8 = ap length (words_given text utf8) ∙ length-map (words text) str_to_ascii_uppercase

-- a seat among as many words is one in the text
written_here : (text : List ℕ) (n : ℕ) (field : PatternField) → n ≡ length (words text) → cond (eqb n 5) 1 0 ≤ place_of_field field → place_of_field field - cond (eqb n 5) 1 0 < n → IsWritten text field
written_here text n field same reaches within = record {
  reaches = subst (λ k. cond (eqb k 5) 1 0 ≤ place_of_field field) same reaches;
  within = subst (λ k. place_of_field field - cond (eqb k 5) 1 0 < k) same within;
}

raised_word : (text : List ℕ) (field : PatternField) (w : List ℕ) → IsUtf8 text → Seat (words (read_text text)) field w → IsWritten text field × (word_of text field ≡ w)
raised_word text field w utf8 s =
    let count = raised_count text utf8 in
    let here = written_here text (length (words (read_text text))) field count s.reaches s.within in
    let at : get_or (words (read_text text)) (place_of_word text field) [] ≡ w =
    ap (λ n. get_or (words (read_text text)) (place_of_field field - cond (eqb n 5) 1 0) []) (sym count) ∙ s.is_word in (
      here,
      sym (get_or-map str_to_ascii_uppercase (words text) (place_of_word text field) [] [] here.within)
          ∙ ap (λ ws. get_or ws (place_of_word text field) []) (sym (words_given text utf8)) ∙ at,
    )

-- a word of the text whose names are replaced
record Replaced (quartz : Bool) (text : List ℕ) (field : PatternField) (now : List ℕ) : Type 0 where
  is_written : IsWritten text field
  same : replaced quartz false (word_of text field) ≡ Some now

some_is : (o : Option (List ℕ)) → is_some o ≡ true → o ≡ Some (unwrap_or o [])
some_is None h = absurd (false≢true h)
some_is (Some t) h = refl

replaced_word : (quartz : Bool) (text now : List ℕ) (field : PatternField) (w : List ℕ) → IsUtf8 text → replaced quartz false (read_text text) ≡ Some now → Seat (words now) field w → Replaced quartz text field w
replaced_word quartz text now field w utf8 e s =
    let up = words (read_text text) in
    let r = replaced_words quartz (read_text text) now (given_utf8 text utf8) e in
    let same_count : length (words now) ≡ length up = ap length r.0 ∙ length-map up (written quartz) in
    let count = same_count ∙ raised_count text utf8 in
    let here = written_here text (length (words now)) field count s.reaches s.within in
    let place = place_of_word text field in
    let inside : place < length up = subst (λ n. place < n) (sym (raised_count text utf8)) here.within in
    let raised : get_or up place [] ≡ word_of text field =
    ap (λ ws. get_or ws place []) (words_given text utf8) ∙ get_or-map str_to_ascii_uppercase (words text) place [] [] here.within in
    let at : get_or (words now) place [] ≡ w = ap (λ n. get_or (words now) (place_of_field field - cond (eqb n 5) 1 0) []) (sym count) ∙ s.is_word in
    let is_now : written quartz (word_of text field) ≡ w =
    ap (written quartz) (sym raised) ∙ sym (get_or-map (written quartz) up place [] [] inside) ∙ ap (λ ws. get_or ws place []) (sym r.0) ∙ at in
    let cut : is_cut quartz (word_of text field) ≡ true = ap (is_cut quartz) (sym raised) ∙ all_at (is_cut quartz) up place r.1 inside in
    record { is_written = here; same = some_is (replaced quartz false (word_of text field)) cut ∙ ap Some is_now }

-- ---- an illegal character

illegal_here : (quartz : Bool) (text : List ℕ) (field : PatternField) → IsWritten text field → is_word_legal quartz field (word_of text field) ≡ false → HasCause text (Illegal field)
illegal_here quartz text field here h = (here, illegal_left quartz field (word_of text field) h)

legal_cut : (quartz : Bool) (field : PatternField) (o : Option (List ℕ)) → is_replaced_legal field o ≡ true → is_some o ≡ true
legal_cut quartz field None h = absurd (false≢true h)
legal_cut quartz field (Some w) h = refl

default_second : (quartz : Bool) → is_word_legal quartz fields.Seconds (codes "0") ≡ true
default_second true = refl
default_second false = refl

default_year : (quartz : Bool) → is_word_legal quartz fields.Year (codes "*") ≡ true
default_year true = refl
default_year false = refl

-- of a text that has no cut
letter_cause : (quartz : Bool) (text : List ℕ) (t : Texts) → IsUtf8 text → replaced quartz false (read_text text) ≡ None → seven (words (read_text text)) ≡ Some t → HasCause text (Illegal (illegal_word quartz t))
letter_cause quartz text t utf8 none e =
    let field = illegal_word quartz t in
    let lost = lost_word quartz (read_text text) (given_utf8 text utf8) none in
    let fails : is_word_legal quartz field (text_of_field field t) ≡ false =
    failing (is_word_legal quartz) t
    (λ all. false≢true (sym lost ∙ seven_all (is_cut quartz) (words (read_text text)) t e (λ x. legal_cut quartz x (replaced quartz false (text_of_field x t)) (all x)))) in
    elim (seat (words (read_text text)) t field e) [
      | inl second ↦ absurd (false≢true (sym fails ∙ ap (λ x. is_word_legal quartz x (text_of_field field t)) second.0 ∙ ap (is_word_legal quartz fields.Seconds) second.1 ∙ default_second quartz))
      | inr more ↦ elim more [
        | inl year ↦ absurd (false≢true (sym fails ∙ ap (λ x. is_word_legal quartz x (text_of_field field t)) year.0 ∙ ap (is_word_legal quartz fields.Year) year.1 ∙ default_year quartz))
        | inr s ↦
            let k = raised_word text field (text_of_field field t) utf8 s in
            illegal_here quartz text field k.0 (ap (is_word_legal quartz field) k.1 ∙ fails)
      ]
    ]

-- ---- of a text that has one

question_taken : (c : ℕ) → takes fields.DayOfMonth (cond (eqb c 63) 42 c) ≡ takes fields.DayOfMonth c
question_taken c = elim (cases_Bool (eqb c 63)) [
  | inl is_so ↦ let yes : takes fields.DayOfMonth c ≡ true = grind (arith, nat_tests, is_so) in ap (λ b. takes fields.DayOfMonth (cond b 42 c)) is_so ∙ sym yes
  | inr is_not ↦ ap (λ b. takes fields.DayOfMonth (cond b 42 c)) is_not
]

question_of_week : (c : ℕ) → takes fields.Weekday (cond (eqb c 63) 42 c) ≡ takes fields.Weekday c
question_of_week c = elim (cases_Bool (eqb c 63)) [
  | inl is_so ↦ let yes : takes fields.Weekday c ≡ true = grind (arith, nat_tests, is_so) in ap (λ b. takes fields.Weekday (cond b 42 c)) is_so ∙ sym yes
  | inr is_not ↦ ap (λ b. takes fields.Weekday (cond b 42 c)) is_not
]

starred_taken : (field : PatternField) → ((c : ℕ) → takes field (cond (eqb c 63) 42 c) ≡ takes field c) → (text : List ℕ) → takes_all field (starred text) ≡ takes_all field text
starred_taken field same [] = refl
starred_taken field same (c ∷ cs) =
    ap (λ b. b && takes_all field (starred cs)) (same c) ∙ ap (λ b. takes field c && b) (starred_taken field same cs)

-- the text of a field that is settled is taken where the text is
settled_taken : (field : PatternField) (t : Texts) → takes_all field (text_of_field field (settled t)) ≡ takes_all field (without_sign field (text_of_field field t))
settled_taken fields.Seconds t = refl
settled_taken fields.Minutes t = refl
settled_taken fields.Hours t = refl
settled_taken fields.DayOfMonth t = starred_taken fields.DayOfMonth question_taken t.days
settled_taken fields.Month t = refl
settled_taken fields.Weekday t = starred_taken fields.Weekday question_of_week (without_plus t.days_of_week)
settled_taken fields.Year t = refl

star_for_days : (c : ℕ) → takes fields.DayOfMonth (cond (eqb c 63) 42 c) ≡ true → is_for_days (cond (eqb c 63) 42 c) ≡ true
star_for_days c h = elim (cases_Bool (eqb c 63)) [
  | inl is_so ↦ ap (λ b. is_for_days (cond b 42 c)) is_so
  | inr is_not ↦
      let k : takes fields.DayOfMonth c ≡ true = ap (λ b. takes fields.DayOfMonth (cond b 42 c)) (sym is_not) ∙ h in
      let yes : is_for_days c ≡ true = grind (arith, nat_tests, is_not, k) in
      ap (λ b. is_for_days (cond b 42 c)) is_not ∙ yes
]

star_for_weekdays : (c : ℕ) → takes fields.Weekday (cond (eqb c 63) 42 c) ≡ true → is_for_weekdays (cond (eqb c 63) 42 c) ≡ true
star_for_weekdays c h = elim (cases_Bool (eqb c 63)) [
  | inl is_so ↦ ap (λ b. is_for_weekdays (cond b 42 c)) is_so
  | inr is_not ↦
      let k : takes fields.Weekday c ≡ true = ap (λ b. takes fields.Weekday (cond b 42 c)) (sym is_not) ∙ h in
      let yes : is_for_weekdays c ≡ true = grind (arith, nat_tests, is_not, k) in
      ap (λ b. is_for_weekdays (cond b 42 c)) is_not ∙ yes
]

all_stars : (wide narrow : ℕ → Bool) → ((c : ℕ) → wide (cond (eqb c 63) 42 c) ≡ true → narrow (cond (eqb c 63) 42 c) ≡ true) → (text : List ℕ) → list_all wide (starred text) ≡ true → list_all narrow (starred text) ≡ true
all_stars wide narrow each [] h = refl
all_stars wide narrow each (c ∷ cs) h =
    let parts = and_parts (wide (cond (eqb c 63) 42 c)) (list_all wide (starred cs)) h in
    and_from (narrow (cond (eqb c 63) 42 c)) (list_all narrow (starred cs)) (each c parts.0) (all_stars wide narrow each cs parts.1)

-- where each field takes its text, all are legal
taken_legal : (t : Texts) → ((field : PatternField) → takes_all field (text_of_field field (settled t)) ≡ true) → are_legal (settled t) ≡ true
taken_legal t all =
    all_hold (list_all is_list_character t.seconds) (list_all is_list_character t.minutes) (list_all is_list_character t.hours) (list_all is_for_days (starred t.days)) (list_all is_list_character t.months)
    (list_all is_for_weekdays (starred (without_plus t.days_of_week))) (list_all is_list_character t.years) (all fields.Seconds) (all fields.Minutes) (all fields.Hours)
    (all_stars (takes fields.DayOfMonth) is_for_days star_for_days t.days (all fields.DayOfMonth)) (all fields.Month)
    (all_stars (takes fields.Weekday) is_for_weekdays star_for_weekdays (without_plus t.days_of_week) (all fields.Weekday)) (all fields.Year)

character_cause : (quartz : Bool) (text now : List ℕ) (t : Texts) → IsUtf8 text → replaced quartz false (read_text text) ≡ Some now → seven (words now) ≡ Some t → are_legal (settled t) ≡ false → HasCause text (Illegal (illegal_field (settled t)))
character_cause quartz text now t utf8 cut e illegal =
    let field = illegal_field (settled t) in
    let fails : takes_all field (text_of_field field (settled t)) ≡ false = failing takes_all (settled t) (λ all. false≢true (sym illegal ∙ taken_legal t all)) in
    let unsettled : takes_all field (without_sign field (text_of_field field t)) ≡ false = sym (settled_taken field t) ∙ fails in
    elim (seat (words now) t field e) [
      | inl second ↦ absurd (false≢true (sym unsettled ∙ ap (λ x. takes_all x (without_sign x (text_of_field field t))) second.0 ∙ ap (takes_all fields.Seconds) second.1))
      | inr more ↦ elim more [
        | inl year ↦ absurd (false≢true (sym unsettled ∙ ap (λ x. takes_all x (without_sign x (text_of_field field t))) year.0 ∙ ap (takes_all fields.Year) year.1))
        | inr s ↦
            let k = replaced_word quartz text now field (text_of_field field t) utf8 cut s in
            illegal_here quartz text field k.is_written (ap (is_replaced_legal field) k.same ∙ unsettled)
      ]
    ]

-- ---- a refused part

lone_star : (shape : Shape) → (parts_of shape (codes "*" ∷ [])).accepted ≡ false
unfolding trim_start trim_end chars lib.Utf8.encode
lone_star shape = refl

unread_part_some : (s : Settings) (field : PatternField) (text : List ℕ) → is_read s field text ≡ false → has_part (unread_part s field text) text ≡ true
unread_part_some s field text h =
    let shape = (start_of s (shape_of s field)).shape in
    let refused : (parts_of shape (pieces_at 44 text)).accepted ≡ false = elim (cases_Bool (bytes_eq text (codes "*"))) [
      | inl star ↦ subst (λ t. (parts_of shape (pieces_at 44 t)).accepted ≡ false) (sym ((bytes_eq-Decides text (codes "*")).0 star)) (lone_star shape)
      | inr list ↦ ap (λ b. (cond b (star_read shape) (parts_of shape (pieces_at 44 text))).accepted) (sym list) ∙ h
    ] in
    part_there text (unread_part s field text) (unread_some shape (pieces_at 44 text) refused)

second_read : (s : Settings) → is_read s fields.Seconds (codes "0") ≡ true
unfolding trim_start trim_end chars lib.Utf8.encode
second_read s = refl

year_read : (s : Settings) → is_read s fields.Year (codes "*") ≡ true
year_read s = refl

-- a part of a field's text that is settled is one of the text without its sign
settled_part : (field : PatternField) (t : Texts) (k : ℕ) → has_part k (text_of_field field (settled t)) ≡ has_part k (without_sign field (text_of_field field t))
settled_part fields.Seconds t k = refl
settled_part fields.Minutes t k = refl
settled_part fields.Hours t k = refl
settled_part fields.DayOfMonth t k = part_starred t.days k
settled_part fields.Month t k = refl
settled_part fields.Weekday t k = part_starred (without_plus t.days_of_week) k
settled_part fields.Year t k = refl

-- the texts of the fields that are not written are read
second_settled : (t : Texts) (field : PatternField) → field ≡ fields.Seconds → text_of_field field t ≡ codes "0" → text_of_field field (settled t) ≡ codes "0"
second_settled t fields.Seconds e h = h
second_settled t fields.Minutes e h = absurd (cc)
second_settled t fields.Hours e h = absurd (cc)
second_settled t fields.DayOfMonth e h = absurd (cc)
second_settled t fields.Month e h = absurd (cc)
second_settled t fields.Weekday e h = absurd (cc)
second_settled t fields.Year e h = absurd (cc)

year_settled : (t : Texts) (field : PatternField) → field ≡ fields.Year → text_of_field field t ≡ codes "*" → text_of_field field (settled t) ≡ codes "*"
year_settled t fields.Seconds e h = absurd (cc)
year_settled t fields.Minutes e h = absurd (cc)
year_settled t fields.Hours e h = absurd (cc)
year_settled t fields.DayOfMonth e h = absurd (cc)
year_settled t fields.Month e h = absurd (cc)
year_settled t fields.Weekday e h = absurd (cc)
year_settled t fields.Year e h = h

each_read : (s : Settings) (t : Texts) → ((field : PatternField) → is_read s field (text_of_field field t) ≡ true) → are_read s t ≡ true
each_read s t all =
    all_read s t (all fields.Seconds) (all fields.Minutes) (all fields.Hours) (all fields.DayOfMonth) (all fields.Month) (all fields.Weekday) (all fields.Year)

part_cause : (s : Settings) (text now : List ℕ) (t : Texts) → IsUtf8 text → replaced s.quartz false (read_text text) ≡ Some now → seven (words now) ≡ Some t → are_read s (settled t) ≡ false → HasCause text (unread s (settled t))
part_cause s text now t utf8 cut e refused =
    let field = unread_field s (settled t) in
    let here = text_of_field field (settled t) in
    let fails : is_read s field here ≡ false = failing (is_read s) (settled t) (λ all. false≢true (sym refused ∙ each_read s (settled t) all)) in
    let part = unread_part s field here in
    let there : has_part part (without_sign field (text_of_field field t)) ≡ true = sym (settled_part field t part) ∙ unread_part_some s field here fails in
    elim (seat (words now) t field e) [
      | inl second ↦ absurd (false≢true (sym fails ∙ ap (is_read s field) (second_settled t field second.0 second.1) ∙ ap (λ x. is_read s x (codes "0")) second.0 ∙ second_read s))
      | inr more ↦ elim more [
        | inl year ↦ absurd (false≢true (sym fails ∙ ap (is_read s field) (year_settled t field year.0 year.1) ∙ ap (λ x. is_read s x (codes "*")) year.0 ∙ year_read s))
        | inr seat_of ↦
            let k = replaced_word s.quartz text now field (text_of_field field t) utf8 cut seat_of in
            (k.is_written, written_part s.quartz field (word_at text (place_of_word text field)) (text_of_field field t) part k.same there)
      ]
    ]

-- ---- the whole

abbrev Explained : List ℕ → Result Meaning Refusal → Type 0
Explained text r = (refusal : Refusal) → r ≡ Err refusal → HasCause text refusal

abbrev refusal_in : Result Meaning Refusal → Refusal
refusal_in (Ok m) = Empty
refusal_in (Err refusal) = refusal

told : (text : List ℕ) (refusal : Refusal) → HasCause text refusal → Explained text (Err refusal)
told text refusal h = λ other e. subst (HasCause text) (ap refusal_in e) h

accepted : (text : List ℕ) (m : Meaning) → Explained text (Ok m)
accepted text m = λ refusal e. absurd (cc)

fields_told : (s : Settings) (text now : List ℕ) (f : Option Texts) → IsUtf8 text → 0 < length (words text) → replaced s.quartz false (read_text text) ≡ Some now → fields_of s (words now) ≡ f → Explained text (of_fields s now f)
fields_told s text now None utf8 some cut e = told text Invalid some
fields_told s text now (Some t) utf8 some cut e =
    let is_seven = accepted_seven s (words now) t e in
    let and = s.both_days || has_plus t.days_of_week in
    cond_both (are_legal (settled t)) (of_legal s now (settled t) and) (Err (Illegal (illegal_field (settled t)))) (Explained text)
    (λ legal. cond_both (are_read s (settled t)) (Ok (meaning s now (settled t) and)) (Err (unread s (settled t))) (Explained text) (λ read. accepted text (meaning s now (settled t) and))
    (λ refused. told text (unread s (settled t)) (part_cause s text now t utf8 cut is_seven refused)))
    (λ illegal. told text (Illegal (illegal_field (settled t))) (character_cause s.quartz text now t utf8 cut is_seven illegal))

letter_told : (s : Settings) (text : List ℕ) (f : Option Texts) → IsUtf8 text → 0 < length (words text) → replaced s.quartz false (read_text text) ≡ None → fields_of s (words (read_text text)) ≡ f → Explained text (of_letter s f)
letter_told s text None utf8 some none e = told text Invalid some
letter_told s text (Some t) utf8 some none e =
    told text (Illegal (illegal_word s.quartz t)) (letter_cause s.quartz text t utf8 none (accepted_seven s (words (read_text text)) t e))

replaced_told : (s : Settings) (text : List ℕ) (o : Option (List ℕ)) → IsUtf8 text → 0 < length (words text) → replaced s.quartz false (read_text text) ≡ o → Explained text (of_replaced s (read_text text) o)
replaced_told s text None utf8 some e = letter_told s text (fields_of s (words (read_text text))) utf8 some e refl
replaced_told s text (Some now) utf8 some e = fields_told s text now (fields_of s (words now)) utf8 some e refl

no_list : (ws : List (List ℕ)) → (ws ≡ [] → ⊥) → 0 < length ws
no_list [] h = absurd (h refl)
no_list (w ∷ ws) h = omega arith

some_words : (text : List ℕ) → IsUtf8 text → eqb (length (read_text text)) 0 ≡ false → 0 < length (words text)
some_words text utf8 h =
    let some = no_list (words (read_text text)) (λ e. false≢true (sym h ∙ eq-eqb (length (read_text text)) 0 (no_words (str_to_ascii_uppercase text) (raised text utf8) e))) in
    subst (λ n. 0 < n) (raised_count text utf8) some

outcome_told : (s : Settings) (text : List ℕ) → IsUtf8 text → contains_byte 64 text ≡ false → Explained text (outcome s text)
outcome_told s text utf8 no_at =
    let same = no_nickname s (read_text text) (no_at_given text utf8 no_at) in
    cond_both (eqb (length (read_text text)) 0) (Err Empty) (of_trimmed s (read_text text)) (Explained text) (λ empty. told text Empty tt)
    (λ some. subst (λ full. Explained text (of_replaced s full (replaced s.quartz false full))) (sym same)
    (replaced_told s text (replaced s.quartz false (read_text text)) utf8 (some_words text utf8 some) refl))

-- a refused text has what it is refused for
pub has_cause : (s : Settings) (text : List ℕ) (refusal : Refusal) → IsUtf8 text → outcome s text ≡ Err refusal → HasCauseInSight text refusal
has_cause s text refusal utf8 e = λ no_at. outcome_told s text utf8 no_at refusal e
