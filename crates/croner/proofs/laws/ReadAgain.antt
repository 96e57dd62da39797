-- The text of an accepted pattern, read again with the same settings, means the same.
use Rattle.std.proofs.Common.{◌≡◌, ℕ, Bool, true, false, cond, eqb, ◌||◌, List, [], ◌∷◌, ◌++◌, length, Option, Some, None, Result, Ok, Err, refl, ap, sym, ◌∙◌, subst, arith, inl, inr}
use Rattle.std.proofs.lemmas.Bool.{false≢true, ne_eqb, cases_Bool, cond_both, cond-true, cond-false}
use Rattle.std.proofs.lemmas.Option.{none-some, same_Some}
use Rattle.std.proofs.lemmas.Str.{NoCharPasses-nil}
use Rattle.std.specs.Char.{is_not_whitespace}
use Rattle.std.specs.List.{flat_map, list_all}
use Rattle.std.specs.Prelude.{codes}
use Rattle.std.specs.Str.{IsUtf8, bytes_eq, encode_utf8_all, all_scalars, trim, str_to_ascii_uppercase}
use Rattle.croner_base.specs.declared.errors.CronError.{CronError}
use Rattle.croner_base.specs.Part.{contains_byte}
use Rattle.croner_pattern.specs.Meaning.{Meaning}
use Rattle.croner.specs.parser.Gives.{Fails}
use Rattle.croner.specs.parser.Cut.{Piece, letters, IsCut, cut_of, expansion, replaced}
use Rattle.croner.specs.parser.Grammar.{Texts, Refusal, Empty, Invalid, Illegal, outcome, of_trimmed, of_letter, of_replaced, of_fields, of_settled, of_legal, fields_of, settled, has_plus, are_legal, are_read, illegal_field, illegal_word, unread, nickname_of, nicknamed, meaning}
use Rattle.croner.specs.parser.Settings.{Settings, seconds_required, year_required}
use Rattle.croner.specs.parser.Words.{words}
use Rattle.croner.proofs.parser.Cuts.{cut_found}
use Rattle.croner.proofs.parser.Expanded.{expanded_trimmed, no_at_in, no_at_before}
use Rattle.croner.proofs.parser.FieldReads.{no_nickname, trimmed_outcome}
use Rattle.croner.proofs.parser.OwnCuts.{is_own, raised, text_raised, text_no_at, text_own_cut, words_own, accepted_own, some_words}
use Rattle.croner.proofs.parser.Trimmed.{IsTrimmed, begins_white, ends_white, trim_trims, trimmed_stays}
use Rattle.croner.proofs.parser.WordLists.{are_words, words_are}

-- ---- what an accepted text has

err_ok : (e : Refusal) (m : Meaning) → ◌≡◌ {A = Result Meaning Refusal} (Err e) (Ok m) → ⊥
err_ok e m h = cc

ok_same : (m n : Meaning) → ◌≡◌ {A = Result Meaning Refusal} (Ok m) (Ok n) → m ≡ n
ok_same m n e = cc

-- the fields of the text that was replaced, and that it is kept
record Accepts (s : Settings) (text : List ℕ) (m : Meaning) : Type 0 where
  fields : Texts
  counted : fields_of s (words text) ≡ Some fields
  legal : are_legal (settled fields) ≡ true
  kept : m.text ≡ text

legal_text : (s : Settings) (text : List ℕ) (t : Texts) (and : Bool) (m : Meaning) → of_legal s text t and ≡ Ok m → m.text ≡ text
legal_text s text t and m e = elim (cases_Bool (are_read s t)) [
  | inl is_so ↦ sym (ap (λ x. x.text) (ok_same (meaning s text t and) m (sym (cond-true (are_read s t) (Ok (meaning s text t and)) (Err (unread s t)) is_so) ∙ e)))
  | inr is_not ↦ absurd (err_ok (unread s t) m (sym (cond-false (are_read s t) (Ok (meaning s text t and)) (Err (unread s t)) is_not) ∙ e))
]

settled_parts : (s : Settings) (text : List ℕ) (t : Texts) (and : Bool) (m : Meaning) → of_settled s text t and ≡ Ok m → (are_legal t ≡ true) × (m.text ≡ text)
settled_parts s text t and m e = elim (cases_Bool (are_legal t)) [
  | inl is_so ↦ (is_so, legal_text s text t and m (sym (cond-true (are_legal t) (of_legal s text t and) (Err (Illegal (illegal_field t))) is_so) ∙ e))
  | inr is_not ↦ absurd (err_ok (Illegal (illegal_field t)) m (sym (cond-false (are_legal t) (of_legal s text t and) (Err (Illegal (illegal_field t))) is_not) ∙ e))
]

fields_parts : (s : Settings) (text : List ℕ) (o : Option Texts) (m : Meaning) → fields_of s (words text) ≡ o → of_fields s text o ≡ Ok m → Accepts s text m
fields_parts s text None m e h = absurd (err_ok Invalid m h)
fields_parts s text (Some t) m e h =
    let k = settled_parts s text (settled t) (s.both_days || has_plus t.days_of_week) m h in
    record { fields = t; counted = e; legal = k.0; kept = k.1 }

-- a text that was replaced, and what it means
abbrev Replaces : Settings → List ℕ → Meaning → Type 0
Replaces s full m = (text : List ℕ) × (replaced s.quartz false full ≡ Some text) × (of_fields s text (fields_of s (words text)) ≡ Ok m)

no_letter : (s : Settings) (o : Option Texts) (m : Meaning) → of_letter s o ≡ Ok m → ⊥
no_letter s None m h = err_ok Invalid m h
no_letter s (Some given) m h = err_ok (Illegal (illegal_word s.quartz given)) m h

replaced_parts : (s : Settings) (full : List ℕ) (o : Option (List ℕ)) (m : Meaning) → replaced s.quartz false full ≡ o → of_replaced s full o ≡ Ok m → Replaces s full m
replaced_parts s full None m e h = absurd (no_letter s (fields_of s (words full)) m h)
replaced_parts s full (Some text) m e h = (text, e, h)

outcome_parts : (s : Settings) (given : List ℕ) (m : Meaning) → outcome s given ≡ Ok m → Replaces s (nicknamed s (trim (str_to_ascii_uppercase given))) m
outcome_parts s given m e =
    let text = trim (str_to_ascii_uppercase given) in
    let full = nicknamed s text in
    elim (cases_Bool (eqb (length text) 0)) [
      | inl is_so ↦ absurd (err_ok Empty m (sym (cond-true (eqb (length text) 0) (Err Empty) (of_trimmed s text) is_so) ∙ e))
      | inr is_not ↦ replaced_parts s full (replaced s.quartz false full) m refl (sym (cond-false (eqb (length text) 0) (Err Empty) (of_trimmed s text) is_not) ∙ e)
    ]

-- ---- the text before its names were replaced is trimmed

plainly : (bs : List ℕ) → all_scalars bs ≡ true → encode_utf8_all bs ≡ bs → begins_white bs ≡ false → ends_white bs ≡ false → IsTrimmed bs
plainly bs s e b l = record { cs = bs; scalars = s; spells = e; begins = b; ends = l }

abbrev whole : Bool → Bool → List ℕ → List ℕ
whole needs_seconds needs_year name = cond needs_seconds (codes "0 ") [] ++ name ++ cond needs_year (codes " *") []

-- what holds with and without a zero before it and a star after it
each_way : (P : Bool → Bool → Type 0) → P true true → P true false → P false true → P false false → (a b : Bool) → P a b
each_way P x y z w true true = x
each_way P x y z w true false = y
each_way P x y z w false true = z
each_way P x y z w false false = w

yearly : (a b : Bool) → IsTrimmed (whole a b (codes "0 0 1 1 *"))
unfolding lib.Utf8.encode
yearly = each_way (λ a b. IsTrimmed (whole a b (codes "0 0 1 1 *"))) (plainly _ refl refl refl refl) (plainly _ refl refl refl refl) (plainly _ refl refl refl refl) (plainly _ refl refl refl refl)

monthly : (a b : Bool) → IsTrimmed (whole a b (codes "0 0 1 * *"))
unfolding lib.Utf8.encode
monthly = each_way (λ a b. IsTrimmed (whole a b (codes "0 0 1 * *"))) (plainly _ refl refl refl refl) (plainly _ refl refl refl refl) (plainly _ refl refl refl refl) (plainly _ refl refl refl refl)

weekly : (a b : Bool) → IsTrimmed (whole a b (codes "0 0 * * SUN"))
unfolding lib.Utf8.encode
weekly = each_way (λ a b. IsTrimmed (whole a b (codes "0 0 * * SUN"))) (plainly _ refl refl refl refl) (plainly _ refl refl refl refl) (plainly _ refl refl refl refl) (plainly _ refl refl refl refl)

daily : (a b : Bool) → IsTrimmed (whole a b (codes "0 0 * * *"))
unfolding lib.Utf8.encode
daily = each_way (λ a b. IsTrimmed (whole a b (codes "0 0 * * *"))) (plainly _ refl refl refl refl) (plainly _ refl refl refl refl) (plainly _ refl refl refl refl) (plainly _ refl refl refl refl)

hourly : (a b : Bool) → IsTrimmed (whole a b (codes "0 * * * *"))
unfolding lib.Utf8.encode
hourly = each_way (λ a b. IsTrimmed (whole a b (codes "0 * * * *"))) (plainly _ refl refl refl refl) (plainly _ refl refl refl refl) (plainly _ refl refl refl refl) (plainly _ refl refl refl refl)

-- the pattern of a nickname, or the text itself
named_by : (text : List ℕ) (P : List ℕ → Type 0) → P (codes "0 0 1 1 *") → P (codes "0 0 1 * *") → P (codes "0 0 * * SUN") → P (codes "0 0 * * *") → P (codes "0 * * * *") → P text → P (nickname_of text)
named_by text P y m w d h t =
    cond_both (bytes_eq text (codes "@YEARLY") || bytes_eq text (codes "@ANNUALLY")) (codes "0 0 1 1 *") _ P (λ _. y)
    (λ _. cond_both (bytes_eq text (codes "@MONTHLY")) (codes "0 0 1 * *") _ P (λ _. m)
    (λ _. cond_both (bytes_eq text (codes "@WEEKLY")) (codes "0 0 * * SUN") _ P (λ _. w)
    (λ _. cond_both (bytes_eq text (codes "@DAILY")) (codes "0 0 * * *") _ P (λ _. d)
    (λ _. cond_both (bytes_eq text (codes "@HOURLY")) (codes "0 * * * *") text P (λ _. h) (λ _. t)))))

-- a text with an @ that is no nickname keeps it
still_at : (a b : Bool) (text : List ℕ) → contains_byte 64 text ≡ true → contains_byte 64 (whole a b text) ≡ false → ⊥
still_at a b text at none =
    let front = no_at_in (cond a (codes "0 ") [] ++ text) (cond b (codes " *") []) none in
    let k = no_at_in (cond a (codes "0 ") []) text front.0 in
    false≢true (sym k.1 ∙ at)

full_trimmed : (s : Settings) (text : List ℕ) → IsTrimmed text → contains_byte 64 (nicknamed s text) ≡ false → IsTrimmed (nicknamed s text)
full_trimmed s text t none =
    let a = seconds_required s.seconds_field in
    let b = year_required s.year_field in
    elim (cases_Bool (contains_byte 64 text)) [
      | inl is_so ↦
          let same : nicknamed s text ≡ whole a b (nickname_of text) = cond-true (contains_byte 64 text) (whole a b (nickname_of text)) text is_so in
          subst IsTrimmed (sym same)
          (named_by text (λ name. contains_byte 64 (whole a b name) ≡ false → IsTrimmed (whole a b name))
          (λ _. yearly a b) (λ _. monthly a b) (λ _. weekly a b) (λ _. daily a b) (λ _. hourly a b) (λ h. absurd (still_at a b text is_so h))
          (ap (contains_byte 64) (sym same) ∙ none))
      | inr is_not ↦ subst IsTrimmed (sym (no_nickname s text is_not)) t
    ]

-- ---- the text read again

-- the cut of a text, where what was replaced is known
abbrev Expands : Bool → List ℕ → List ℕ → Type 0
Expands quartz full text = (ps : List Piece) × IsCut full ps × (expansion quartz false ps ≡ text)

cut_parts : (quartz : Bool) (full text : List ℕ) (o : Option (List Piece)) → cut_of full ≡ o → replaced quartz false full ≡ Some text → Expands quartz full text
cut_parts quartz full text None e h =
    let none : replaced quartz false full ≡ None = rw e refl in absurd (none-some text (sym none ∙ h))
cut_parts quartz full text (Some ps) e h =
    let some : replaced quartz false full ≡ Some (expansion quartz false ps) = rw e refl in
    (ps, cut_found full ps e, same_Some (expansion quartz false ps) text (sym some ∙ h))

again_trimmed : (s : Settings) (given text : List ℕ) → IsUtf8 given → IsUtf8 text → list_all is_own text ≡ true → replaced s.quartz false (nicknamed s (trim (str_to_ascii_uppercase given))) ≡ Some text → trim text ≡ text
again_trimmed s given text utf8 is_text own e =
    let before = trim (str_to_ascii_uppercase given) in
    let full = nicknamed s before in
    let k = cut_parts s.quartz full text (cut_of full) refl e in
    let ps = k.0 in
    let none : contains_byte 64 (flat_map letters ps) ≡ false = no_at_before s.quartz false ps (ap (contains_byte 64) k.2 ∙ text_no_at text own) in
    let trimmed = full_trimmed s before (trim_trims (str_to_ascii_uppercase given) (raised given utf8)) (ap (contains_byte 64) (sym k.1.spells) ∙ none) in
    let ends = expanded_trimmed s.quartz ps text k.1.legal is_text (subst IsTrimmed (sym k.1.spells) trimmed) k.2 in
    trimmed_stays text is_text ends.0 ends.1

nonempty : (s : Settings) (text : List ℕ) (t : Texts) → fields_of s (words text) ≡ Some t → eqb (length text) 0 ≡ false
nonempty s [] t e =
    let none : [] ≡ words [] = words_are [] [] ([], (refl, refl)) (NoCharPasses-nil is_not_whitespace) in
    absurd (some_words s t (ap (fields_of s) none ∙ e))
nonempty s (c ∷ cs) t e = ne_eqb (length (c ∷ cs)) 0 (λ h. omega (arith, h))

again : (s : Settings) (text : List ℕ) (m : Meaning) → list_all is_own text ≡ true → trim text ≡ text → eqb (length text) 0 ≡ false → of_fields s text (fields_of s (words text)) ≡ Ok m → outcome s text ≡ Ok m
again s text m own trimmed some h =
    let raised_text : text ≡ trim (str_to_ascii_uppercase text) = sym (ap trim (text_raised text own) ∙ trimmed) in
    let named : nicknamed s text ≡ text = no_nickname s text (text_no_at text own) in
    let found : of_trimmed s text ≡ of_fields s text (fields_of s (words text)) =
    ap (λ f. of_replaced s f (replaced s.quartz false f)) named ∙ ap (of_replaced s text) (text_own_cut s.quartz text own) in
    sym (trimmed_outcome s text text raised_text some) ∙ found ∙ h

pub read_again : (s : Settings) (given : List ℕ) (m : Meaning) → IsUtf8 given → IsUtf8 m.text → outcome s given ≡ Ok m → outcome s m.text ≡ Ok m
read_again s given m utf8 is_text e =
    let r = outcome_parts s given m e in
    let text = r.0 in
    let a = fields_parts s text (fields_of s (words text)) m refl r.2 in
    let text_utf8 = subst IsUtf8 a.kept is_text in
    let own = words_own (words text) text (are_words text text_utf8) (accepted_own s (words text) a.fields a.counted a.legal) in
    let trimmed = again_trimmed s given text utf8 text_utf8 own r.1 in
    ap (outcome s) a.kept ∙ again s text m own trimmed (nonempty s text a.fields a.counted) r.2

pub read_same : (s : Settings) (given : List ℕ) (m n : Meaning) → IsUtf8 given → IsUtf8 m.text → outcome s given ≡ Ok m → outcome s m.text ≡ Ok n → n ≡ m
read_same s given m n utf8 is_text e again = ok_same n m (sym again ∙ read_again s given m utf8 is_text e)

-- what refuses the text read again refuses the text
pub fails_first : (s : Settings) (given : List ℕ) (m : Meaning) (e : CronError) → IsUtf8 given → IsUtf8 m.text → outcome s given ≡ Ok m → Fails e (outcome s m.text) → Fails e (outcome s given)
fails_first s given m e utf8 is_text h fails = subst (Fails e) (read_again s given m utf8 is_text h ∙ sym h) fails
