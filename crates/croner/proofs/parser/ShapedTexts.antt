-- A pattern that a text means has the shape of its place in each field.
use Rattle.std.proofs.Common.{◌≡◌, ℕ, Bool, true, false, cond, ◌||◌, eqb, List, [], ◌∷◌, length, fold, Option, Some, None, Result, Ok, Err, refl, ap, ◌∙◌, subst}
use Rattle.std.specs.Str.{trim, str_to_ascii_uppercase}
use Rattle.std.proofs.lemmas.Bool.{cond_both, and_from}
use Rattle.croner_base.specs.Field.{Shape, Field, empty_field, with_sloppy, with_mark, without_mark, is_marked}
use Rattle.croner_base.proofs.fields.ReadingsInTurn.{shape-applied}
use Rattle.croner.specs.declared.parser.stop.Stop.{Stop}
use Rattle.croner_pattern.specs.declared.pattern.CronPattern.{CronPattern}
use Rattle.croner_pattern.specs.Meaning.{Meaning, meaning_of}
use Rattle.croner.specs.Private.parser.Steps.{Reads}
use Rattle.croner_pattern.specs.Shapes.{sixty_shape, hour_shape, day_shape, month_shape, weekday_shape, year_shape, is_like, has_field_shapes}
use Rattle.croner.specs.parser.Grammar.{Texts, Refusal, Empty, Invalid, Illegal, outcome, of_trimmed, of_letter, of_replaced, of_fields, of_settled, of_legal, fields_of, has_plus, nicknamed, settled, are_legal, are_read, illegal_field, illegal_word, unread, meaning, value_of, reading_of, start_of, weekdays_of, settled_weekdays, sunday_moved, weekday_modifiers}
use Rattle.croner.specs.parser.Cut.{replaced}
use Rattle.croner.specs.parser.Settings.{Settings}
use Rattle.croner.specs.parser.Words.{words}

abbrev IsShaped : Result Meaning Refusal → Type 0
IsShaped r = (m : Meaning) → r ≡ Ok m → has_field_shapes m ≡ true

err_shaped : (e : Refusal) → IsShaped (Err e)
err_shaped e = λ m h. absurd (cc)

ok_shaped : (m : Meaning) → has_field_shapes m ≡ true → IsShaped (Ok m)
ok_shaped m h = λ n e. let same : m ≡ n = cc in subst (λ x. has_field_shapes x ≡ true) same h

-- ---- the fields

shape-value : (s : Settings) (shape : Shape) (text : List ℕ) → (value_of s shape text).shape ≡ (start_of s shape).shape
shape-value s shape text = shape-applied (reading_of s shape text).done (start_of s shape)

shape-moved : (f : Field) (bit : ℕ) → (sunday_moved f bit).shape ≡ f.shape
shape-moved f bit =
    cond_both (is_marked bit f 7) (with_mark (without_mark f 7 bit) 0 bit) f (λ (g : Field). g.shape ≡ f.shape) (λ _. refl) (λ _. refl)

shape-sunday : (bits : List ℕ) (f : Field) → (fold sunday_moved f bits).shape ≡ f.shape
shape-sunday [] f = refl
shape-sunday (bit ∷ bits) f = shape-sunday bits (sunday_moved f bit) ∙ shape-moved f bit

abbrev is_weekday_like : Shape → Bool
is_weekday_like shape = is_like shape (weekday_shape 0) || is_like shape (weekday_shape 1)

weekdays_like : (s : Settings) (text : List ℕ) (quartz : Bool) → is_weekday_like (with_sloppy (empty_field (weekday_shape (cond quartz 1 0))) s.sloppy).shape ≡ true
weekdays_like s text true = refl
weekdays_like s text false = refl

shape-settled : (s : Settings) (f : Field) → (settled_weekdays s f).shape ≡ f.shape
shape-settled s f =
    cond_both s.quartz f (fold sunday_moved f weekday_modifiers) (λ (g : Field). g.shape ≡ f.shape) (λ _. refl) (λ _. shape-sunday weekday_modifiers f)

meaning_shaped : (s : Settings) (text : List ℕ) (t : Texts) (and : Bool) → has_field_shapes (meaning s text t and) ≡ true
meaning_shaped s text t and =
    let weekdays : is_weekday_like (settled_weekdays s (value_of s (weekdays_of s) t.days_of_week)).shape ≡ true =
    ap is_weekday_like (shape-settled s (value_of s (weekdays_of s) t.days_of_week) ∙ shape-value s (weekdays_of s) t.days_of_week) ∙ weekdays_like s text s.quartz in
    and_from _ _ (ap (λ x. is_like x sixty_shape) (shape-value s sixty_shape t.seconds)) (and_from _ _ (ap (λ x. is_like x sixty_shape) (shape-value s sixty_shape t.minutes))
    (and_from _ _ (ap (λ x. is_like x hour_shape) (shape-value s hour_shape t.hours)) (and_from _ _ (ap (λ x. is_like x day_shape) (shape-value s day_shape t.days))
    (and_from _ _ (ap (λ x. is_like x month_shape) (shape-value s month_shape t.months)) (and_from _ _ weekdays (ap (λ x. is_like x year_shape) (shape-value s year_shape t.years)))))))

-- ---- the whole

legal_shaped : (s : Settings) (text : List ℕ) (t : Texts) (and : Bool) → IsShaped (of_legal s text t and)
legal_shaped s text t and =
    cond_both (are_read s t) (Ok (meaning s text t and)) (Err (unread s t)) IsShaped (λ _. ok_shaped (meaning s text t and) (meaning_shaped s text t and)) (λ _. err_shaped (unread s t))

settled_shaped : (s : Settings) (text : List ℕ) (t : Texts) (and : Bool) → IsShaped (of_settled s text t and)
settled_shaped s text t and =
    cond_both (are_legal t) (of_legal s text t and) (Err (Illegal (illegal_field t))) IsShaped (λ _. legal_shaped s text t and) (λ _. err_shaped (Illegal (illegal_field t)))

fields_shaped : (s : Settings) (text : List ℕ) (given : Option Texts) → IsShaped (of_fields s text given)
fields_shaped s text None = err_shaped Invalid
fields_shaped s text (Some given) = settled_shaped s text (settled given) (s.both_days || has_plus given.days_of_week)

letter_shaped : (s : Settings) (given : Option Texts) → IsShaped (of_letter s given)
letter_shaped s None = err_shaped Invalid
letter_shaped s (Some given) = err_shaped (Illegal (illegal_word s.quartz given))

replaced_shaped : (s : Settings) (full : List ℕ) (text : Option (List ℕ)) → IsShaped (of_replaced s full text)
replaced_shaped s full None = letter_shaped s (fields_of s (words full))
replaced_shaped s full (Some text) = fields_shaped s text (fields_of s (words text))

outcome_shaped : (s : Settings) (given : List ℕ) → IsShaped (outcome s given)
outcome_shaped s given =
    let text : List ℕ = trim (str_to_ascii_uppercase given) in
    cond_both (eqb (length text) 0) (Err Empty) (of_trimmed s text) IsShaped (λ _. err_shaped Empty) (λ _. replaced_shaped s (nicknamed s text) (replaced s.quartz false (nicknamed s text)))

-- and so has the pattern that is read
pub given_shaped : (s : Settings) (given : List ℕ) (r : Result CronPattern Stop) (p : CronPattern) → Reads meaning_of r (outcome s given) → r ≡ Ok p → has_field_shapes (meaning_of p) ≡ true
given_shaped s given r p read is = outcome_shaped s given (meaning_of p) (subst (λ x. Reads meaning_of x (outcome s given)) is read)
