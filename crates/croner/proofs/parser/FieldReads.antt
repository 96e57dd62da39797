-- The fields of a pattern, read one after another.
use Rattle.std.proofs.Common.{◌≡◌, ℕ, Bool, true, false, not, cond, eqb, ◌&&◌, List, [], ◌++◌, length, Option, Result, Ok, Err, refl, ap, sym, ◌∙◌, subst}
use Rattle.std.specs.Prelude.{codes, if◌then◌else◌}
use Rattle.std.specs.Str.{trim, str_to_ascii_uppercase}
use Rattle.std.proofs.lemmas.Bool.{and_from, cond-true, cond-false}
use Rattle.croner_base.specs.Field.{Shape, Field, empty_field, with_sloppy, has_all}
use Rattle.croner_base.specs.Part.{contains_byte}
use Rattle.croner_base.specs.Reading.{Reading}
use Rattle.croner_base.proofs.fields.ReadingsInTurn.{shape-applied}
use Rattle.croner_pattern.specs.Meaning.{Meaning}
use Rattle.croner_pattern.specs.Shapes.{sixty_shape, hour_shape, day_shape, month_shape, weekday_shape, year_shape, new_meaning}
use Rattle.croner.specs.parser.Cut.{replaced}
use Rattle.croner.specs.parser.Settings.{Settings, seconds_required, year_required}
use Rattle.croner.specs.declared.parser.fault.PatternField.{PatternField}
use Rattle.croner.specs.declared.parser.fault.PatternField.TheVariants as fields
use Rattle.croner.specs.declared.parser.stop.Stop.{Stop}
use Rattle.croner.specs.declared.parser.stop.Stop.TheVariants as stops
use Rattle.croner.specs.parser.Grammar.{Texts, Empty, Component, outcome, of_trimmed, of_replaced, nicknamed, nickname_of, reading_of, value_of, start_of, weekdays_of, are_read, settled_weekdays, is_star, meaning, of_legal, text_of_field, unread, unread_field, unread_part}
use Rattle.croner.specs.Private.parser.Steps.{read_meaning, refusal_of, ReadsField, Stops, StopsField, StopsOne, TakesSunday}

-- what a call did to a field that was empty
pub reads_field : (r : Result (Unit {0}) Stop) (s : Settings) (shape : Shape) (text : List ℕ) (old new : Field) (name : PatternField) (sloppy : Bool) → s.sloppy ≡ sloppy → old ≡ empty_field shape
    → ReadsField (with_sloppy old sloppy).shape text (with_sloppy old sloppy) new name r → ReadsField (start_of s shape).shape text (start_of s shape) new name r
reads_field r s shape text old new name sloppy same e h =
    subst (λ b. ReadsField (with_sloppy (empty_field shape) b).shape text (with_sloppy (empty_field shape) b) new name r) (sym same)
    (subst (λ f. ReadsField (with_sloppy f sloppy).shape text (with_sloppy f sloppy) new name r) e h)

pub field_read : (s : Settings) (shape : Shape) (text : List ℕ) (old new : Field) (name : PatternField) (sloppy : Bool) → s.sloppy ≡ sloppy → old ≡ empty_field shape
    → ReadsField (with_sloppy old sloppy).shape text (with_sloppy old sloppy) new name (Ok tt) → ((reading_of s shape text).accepted ≡ true) × (new ≡ value_of s shape text)
field_read s shape text old new name sloppy same e h = reads_field (Ok tt) s shape text old new name sloppy same e h

-- what stops at a field stops at the first of all seven, where that field is the first
pub field_stops : (s : Settings) (t : Texts) (reading : Reading) (name : PatternField) (stop : Stop)
    → (reading.accepted ≡ false → (are_read s t ≡ false) × (unread_field s t ≡ name)) → StopsField reading (unread_part s name (text_of_field name t)) name stop → StopsOne s t stop
field_stops s t reading name stops.OutOfMemory first h = tt
field_stops s t reading name (stops.Refused cause) first h =
    let p = first h.0 in (p.0, ap refusal_of h.1 ∙ ap (λ n. Component n (unread_part s n (text_of_field n t))) (sym p.1))

pub stopped_fields : (s : Settings) (text : List ℕ) (t : Texts) (and : Bool) (stop : Stop) → StopsOne s t stop → Stops stop (of_legal s text t and)
stopped_fields s text t and stops.OutOfMemory h = tt
stopped_fields s text t and (stops.Refused cause) h =
    cond-false (are_read s t) (Ok (meaning s text t and)) (Err (unread s t)) h.0 ∙ ap Err (sym h.1)

-- the shape of a weekday field without an offset lets 7 be moved
takes_sunday : (sloppy : Bool) (bit : ℕ) → has_all 127 bit ≡ true → TakesSunday (with_sloppy (empty_field (weekday_shape 0)) sloppy).shape bit
takes_sunday sloppy bit h = record { offset_is = refl; asked = rw h refl; left = rw h refl; reached = rw h refl }

pub read_takes_sunday : (s : Settings) (text : List ℕ) (f : Field) → s.quartz ≡ false → f ≡ value_of s (weekdays_of s) text → (bit : ℕ) → has_all 127 bit ≡ true → TakesSunday f.shape bit
read_takes_sunday s text f plain e bit h =
    let shape : f.shape ≡ (with_sloppy (empty_field (weekday_shape 0)) s.sloppy).shape =
    ap (λ g. g.shape) e ∙ shape-applied (reading_of s (weekdays_of s) text).done (start_of s (weekdays_of s)) ∙ ap (λ b. (with_sloppy (empty_field (weekday_shape (cond b 1 0))) s.sloppy).shape) plain in
    subst (λ x. TakesSunday x bit) (sym shape) (takes_sunday s.sloppy bit h)

-- the whole
pub finished : (s : Settings) (text : List ℕ) (t : Texts) (and : Bool) (old new : Meaning) (weekdays : Field) → are_read s t ≡ true → old ≡ read_meaning s text t → weekdays ≡ settled_weekdays s old.days_of_week → new ≡ record old { days_of_week = weekdays; star_day = is_star t.days; star_weekday = is_star t.days_of_week; and = and } → of_legal s text t and ≡ Ok new
finished s text t and old new weekdays accepted e f g =
    let of_weekdays : Field → Meaning = λ w. record old { days_of_week = w; star_day = is_star t.days; star_weekday = is_star t.days_of_week; and = and } in
    let of_old : Meaning → Meaning = λ o. record o { days_of_week = settled_weekdays s o.days_of_week; star_day = is_star t.days; star_weekday = is_star t.days_of_week; and = and } in
    let is_new : new ≡ meaning s text t and = g ∙ ap of_weekdays f ∙ ap of_old e in
    ap (λ b. cond b (Ok (meaning s text t and)) (Err (unread s t))) accepted ∙ ap Ok (sym is_new)

pub same_fields : (text : List ℕ) (a1 a2 a3 a4 a5 a6 a7 b1 b2 b3 b4 b5 b6 b7 : Field) → a1 ≡ b1 → a2 ≡ b2 → a3 ≡ b3 → a4 ≡ b4 → a5 ≡ b5 → a6 ≡ b6 → a7 ≡ b7 → ◌≡◌ {A = Meaning} (record (new_meaning text) { seconds = a1; minutes = a2; hours = a3; days = a4; months = a5; days_of_week = a6; years = a7 }) (record (new_meaning text) { seconds = b1; minutes = b2; hours = b3; days = b4; months = b5; days_of_week = b6; years = b7 })
same_fields text a1 a2 a3 a4 a5 a6 a7 b1 b2 b3 b4 b5 b6 b7 e1 e2 e3 e4 e5 e6 e7 = rw (e1, e2, e3, e4, e5, e6, e7) refl

-- the first of seven tests that fails, where one does
abbrev pub first_false : (a b c d e f : Bool) → PatternField
first_false a b c d e f =
    if not a then fields.Seconds else if not b then fields.Minutes else if not c then fields.Hours else if not d then fields.DayOfMonth
    else if not e then fields.Month else if not f then fields.Weekday else fields.Year

abbrev FailsAt : (a b c d e f g : Bool) → PatternField → Type 0
FailsAt a b c d e f g name = ((a && (b && (c && (d && (e && (f && g)))))) ≡ false) × (first_false a b c d e f ≡ name)

pub fails_1 : (a b c d e f g : Bool) → a ≡ false → FailsAt a b c d e f g fields.Seconds
fails_1 a b c d e f g h1 = rw h1 (refl, refl)

pub fails_2 : (a b c d e f g : Bool) → a ≡ true → b ≡ false → FailsAt a b c d e f g fields.Minutes
fails_2 a b c d e f g h1 h2 = rw (h1, h2) (refl, refl)

pub fails_3 : (a b c d e f g : Bool) → a ≡ true → b ≡ true → c ≡ false → FailsAt a b c d e f g fields.Hours
fails_3 a b c d e f g h1 h2 h3 = rw (h1, h2, h3) (refl, refl)

pub fails_4 : (a b c d e f g : Bool) → a ≡ true → b ≡ true → c ≡ true → d ≡ false → FailsAt a b c d e f g fields.DayOfMonth
fails_4 a b c d e f g h1 h2 h3 h4 = rw (h1, h2, h3, h4) (refl, refl)

pub fails_5 : (a b c d e f g : Bool) → a ≡ true → b ≡ true → c ≡ true → d ≡ true → e ≡ false → FailsAt a b c d e f g fields.Month
fails_5 a b c d e f g h1 h2 h3 h4 h5 = rw (h1, h2, h3, h4, h5) (refl, refl)

pub fails_6 : (a b c d e f g : Bool) → a ≡ true → b ≡ true → c ≡ true → d ≡ true → e ≡ true → f ≡ false → FailsAt a b c d e f g fields.Weekday
fails_6 a b c d e f g h1 h2 h3 h4 h5 h6 = rw (h1, h2, h3, h4, h5, h6) (refl, refl)

pub fails_7 : (a b c d e f g : Bool) → a ≡ true → b ≡ true → c ≡ true → d ≡ true → e ≡ true → f ≡ true → g ≡ false → FailsAt a b c d e f g fields.Year
fails_7 a b c d e f g h1 h2 h3 h4 h5 h6 h7 = rw (h1, h2, h3, h4, h5, h6, h7) (refl, refl)

pub all_hold : (a b c d e f g : Bool) → a ≡ true → b ≡ true → c ≡ true → d ≡ true → e ≡ true → f ≡ true → g ≡ true → (a && (b && (c && (d && (e && (f && g)))))) ≡ true
all_hold a b c d e f g h1 h2 h3 h4 h5 h6 h7 =
    and_from a (b && (c && (d && (e && (f && g))))) h1
    (and_from b (c && (d && (e && (f && g)))) h2 (and_from c (d && (e && (f && g))) h3 (and_from d (e && (f && g)) h4 (and_from e (f && g) h5 (and_from f g h6 h7)))))

pub all_read : (s : Settings) (t : Texts) → (reading_of s sixty_shape t.seconds).accepted ≡ true → (reading_of s sixty_shape t.minutes).accepted ≡ true → (reading_of s hour_shape t.hours).accepted ≡ true → (reading_of s day_shape t.days).accepted ≡ true → (reading_of s month_shape t.months).accepted ≡ true → (reading_of s (weekdays_of s) t.days_of_week).accepted ≡ true → (reading_of s year_shape t.years).accepted ≡ true → are_read s t ≡ true
all_read s t h1 h2 h3 h4 h5 h6 h7 = all_hold ((reading_of s sixty_shape t.seconds).accepted) ((reading_of s sixty_shape t.minutes).accepted) ((reading_of s hour_shape t.hours).accepted) ((reading_of s day_shape t.days).accepted) ((reading_of s month_shape t.months).accepted) ((reading_of s (weekdays_of s) t.days_of_week).accepted) ((reading_of s year_shape t.years).accepted) h1 h2 h3 h4 h5 h6 h7

-- ---- the text before its names are replaced

pub no_nickname : (s : Settings) (text : List ℕ) → contains_byte 64 text ≡ false → nicknamed s text ≡ text
no_nickname s text h = cond-false (contains_byte 64 text) _ text h

pub with_nickname : (s : Settings) (text full : List ℕ) (needs_seconds needs_year : Bool) → contains_byte 64 text ≡ true → needs_seconds ≡ seconds_required s.seconds_field → needs_year ≡ year_required s.year_field → full ≡ cond needs_seconds (codes "0 ") [] ++ nickname_of text ++ cond needs_year (codes " *") [] → full ≡ nicknamed s text
with_nickname s text full needs_seconds needs_year h e f g =
    g ∙ ap (λ b. cond b (codes "0 ") [] ++ nickname_of text ++ cond needs_year (codes " *") []) e
    ∙ ap (λ b. cond (seconds_required s.seconds_field) (codes "0 ") [] ++ nickname_of text ++ cond b (codes " *") []) f
    ∙ sym (cond-true (contains_byte 64 text) _ text h)

pub empty_outcome : (s : Settings) (given text : List ℕ) → text ≡ trim (str_to_ascii_uppercase given) → eqb (length text) 0 ≡ true → outcome s given ≡ Err Empty
empty_outcome s given text e h = cond-true (eqb (length (trim (str_to_ascii_uppercase given))) 0) (Err Empty) _ (ap (λ t. eqb (length t) 0) (sym e) ∙ h)

pub trimmed_outcome : (s : Settings) (given text : List ℕ) → text ≡ trim (str_to_ascii_uppercase given) → eqb (length text) 0 ≡ false → of_trimmed s text ≡ outcome s given
trimmed_outcome s given text e h =
    ap (of_trimmed s) e ∙ sym (cond-false (eqb (length (trim (str_to_ascii_uppercase given))) 0) (Err Empty) _ (ap (λ t. eqb (length t) 0) (sym e) ∙ h))

pub replaced_outcome : (s : Settings) (given text full : List ℕ) (quartz : Bool) (found : Option (List ℕ)) → text ≡ trim (str_to_ascii_uppercase given) → eqb (length text) 0 ≡ false → full ≡ nicknamed s text → quartz ≡ s.quartz → found ≡ replaced quartz false full → of_replaced s full found ≡ outcome s given
replaced_outcome s given text full quartz found e h f q r =
    ap (of_replaced s full) (r ∙ ap (λ b. replaced b false full) q) ∙ ap (λ t. of_replaced s t (replaced s.quartz false t)) f ∙ trimmed_outcome s given text e h
