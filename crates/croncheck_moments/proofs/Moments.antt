-- The words of moments: what is printed is read back.
use Rattle.std.proofs.Common.{◌≡◌, ◌∙◌, ◌+ℤ◌, ◌*ℤ◌, pos, ℕ, ℤ, List, Result, Ok, Err, Option, Some, None, inl, inr, ap, refl, sym, subst, w64, FitsSigned, arith}
use Rattle.std.proofs.lemmas.Fmt.{parse-signed_decimal}
use Rattle.std.proofs.lemmas.Int.{ints}
use Rattle.std.proofs.lemmas.Slice.Eq.{bytes_eq-Decides}
use Rattle.std.specs.Fmt.{signed_decimal}
use Rattle.std.specs.Str.Parse.{ParsesSigned}
use Rattle.jiff.specs.Names.{iso_datetime_text}
use Rattle.jiff.specs.Words.{date_parts, date_text, date_view, time_parts, parse_date, parse_datetime, datetime_view}
use Rattle.jiff.proofs.Family.{civil_nanos-parts, same_datetime, parse_date-date_text, parse_datetime-datetime_text}
use Rattle.jiff_core.specs.Calendar.{days_from_civil}
use Rattle.jiff_core.specs.Date.{epoch_day}
use Rattle.jiff_core.specs.Time.{time_nanos}
use Rattle.jiff_core.specs.declared.civil.date.Date.{Date}
use Rattle.jiff_core.specs.declared.civil.datetime.DateTime.{DateTime}
use Rattle.jiff_core.specs.declared.error.Error.{Error}
use Rattle.jiff_core.specs.declared.Offset.{Offset}
use Rattle.jiff_tz.specs.declared.ambiguous.AmbiguousOffset.{AmbiguousOffset}
use Rattle.jiff_tz.specs.declared.timezone.TimeZone.{TimeZone}
use Rattle.croncheck_moments.specs.Moment.{IsShownAt, IsShownIn, earlier_of, later_of}

-- what holds of a date and time and its offset holds of equal ones
pub at_offset : (I : DateTime → Offset → Type 0) (civil dt : DateTime) (a b : AmbiguousOffset) (pick : AmbiguousOffset → Offset) → dt ≡ civil → a ≡ b
    → I dt (pick a) → I civil (pick b)
at_offset I civil dt a b pick same offsets h = subst (λ (d : DateTime). I d (pick b)) same (subst (λ (o : AmbiguousOffset). I dt (pick o)) offsets h)

-- shown at the earlier instant, or at the later one alone, or at none
pub shown_first : (tz : TimeZone) (civil : DateTime) (found : Option ℤ) (second : ℤ) → found ≡ Some second → IsShownAt tz civil (earlier_of tz civil) found
    → IsShownIn tz civil (Some second)
shown_first tz civil found second is h =
    let P : Option ℤ → Type 0 = λ o. IsShownAt tz civil (earlier_of tz civil) o in
    inl (refl, subst P is h)

pub shown_second : (tz : TimeZone) (civil : DateTime) (first found : Option ℤ) → first ≡ None → IsShownAt tz civil (earlier_of tz civil) first
    → IsShownAt tz civil (later_of tz civil) found → IsShownIn tz civil found
shown_second tz civil first found is h later =
    let P : Option ℤ → Type 0 = λ o. IsShownAt tz civil (earlier_of tz civil) o in
    inr (subst P is h, later)

abbrev ok_value : {T E : Type 0} → T → Result T E → T
ok_value d (Ok x) = x
ok_value d (Err e) = d

-- one result has one value
ok_same : {T E : Type 0} (a b : T) (r : Result T E) → r ≡ Ok a → r ≡ Ok b → a ≡ b
ok_same a b r p q = sym (ap (ok_value a) p) ∙ ap (ok_value a) q

-- and no value beside an error
ok_no_err : {T E : Type 0} (e : E) (a : T) (r : Result T E) → r ≡ Err e → r ≡ Ok a → ⊥
ok_no_err e a r p q = cc

-- a second that is held is read back from the text that it prints; the first parts of the conclusion show `grind` what to match
pub second_back : {E : Type 0} (digits : List ℕ) (r : Result ℤ E) → ParsesSigned w64 10 digits r
    → ParsesSigned w64 10 digits r
    × ((second : ℤ) → FitsSigned w64 second → signed_decimal second ≡ digits → (signed_decimal second ≡ digits) × (r ≡ Ok second))
second_back digits r read = (read, λ second fits is. (is, parse-signed_decimal w64 second digits r fits (omega (arith, ints, fits)) (sym is) read))

-- dates and times of the same parts are the same
same_parts : (a b : DateTime) → datetime_view (Ok a) ≡ datetime_view (Ok b) → a ≡ b
same_parts a b h =
    let same = ap (ok_value (date_parts a.date, time_parts a.time)) h in
    let days : epoch_day a.date ≡ epoch_day b.date = ap (λ p. days_from_civil p.0.year p.0.month p.0.day) same in
    let hour : a.time.hour ≡ b.time.hour = ap (λ p. p.1.hour) same in
    let minute : a.time.minute ≡ b.time.minute = ap (λ p. p.1.minute) same in
    let second : a.time.second ≡ b.time.second = ap (λ p. p.1.second) same in
    let fraction : a.time.subsec_nanosecond ≡ b.time.subsec_nanosecond = ap (λ p. p.1.subsec) same in
    let times : time_nanos a.time ≡ time_nanos b.time = omega (arith, hour, minute, second, fraction) in
    same_datetime a b (civil_nanos-parts a ∙ ap (λ (d : ℤ). d *ℤ pos 86_400_000_000_000 +ℤ pos (time_nanos a.time)) days
    ∙ ap (λ (t : ℕ). epoch_day b.date *ℤ pos 86_400_000_000_000 +ℤ pos t) times ∙ sym (civil_nanos-parts b))

read_back : (word : List ℕ) (civil : DateTime) → iso_datetime_text civil ≡ word → parse_datetime word ≡ datetime_view (Ok civil)
read_back word civil is = subst (λ (bytes : List ℕ). parse_datetime bytes ≡ datetime_view (Ok civil)) is (parse_datetime-datetime_text civil)

read_as : (word : List ℕ) (r : Result DateTime Error) (civil : DateTime) → datetime_view r ≡ parse_datetime word → iso_datetime_text civil ≡ word
    → (read : DateTime) × (r ≡ Ok read) × (iso_datetime_text read ≡ word)
read_as word (Ok a) civil view is = (a, refl, ap iso_datetime_text (same_parts a civil (view ∙ read_back word civil is)) ∙ is)
read_as word (Err e) civil view is = absurd (ok_no_err e (date_parts civil.date, time_parts civil.time) (datetime_view (Err e)) refl (view ∙ read_back word civil is))

-- a date and time that prints as a word is read from it, or one that prints so too; the first parts show `grind` what to match
pub civil_back : (word : List ℕ) (r : Result DateTime Error) → datetime_view r ≡ parse_datetime word
    → (datetime_view r ≡ parse_datetime word)
    × ((civil : DateTime) → iso_datetime_text civil ≡ word → (iso_datetime_text civil ≡ word) × ((read : DateTime) × (r ≡ Ok read) × (iso_datetime_text read ≡ word)))
civil_back word r view = (view, λ civil is. (is, read_as word r civil view is))

-- dates of the same parts are printed in the same way
same_text : (a b : Date) → date_view (Ok a) ≡ date_view (Ok b) → date_text a ≡ date_text b
same_text a b h =
    let same = ap (ok_value (date_parts a)) h in
    let year : a.year ≡ b.year = ap (λ p. p.year) same in
    let month : a.month ≡ b.month = ap (λ p. p.month) same in
    let day : a.day ≡ b.day = ap (λ p. p.day) same in cc

date_read_as : (word : List ℕ) (r : Result Date Error) (date : Date) → date_view r ≡ parse_date word → date_text date ≡ word
    → (read : Date) × (r ≡ Ok read) × (date_text read ≡ word)
date_read_as word (Ok a) date view is =
    let same : date_view (Ok a) ≡ date_view (Ok date) = view ∙ subst (λ (bytes : List ℕ). parse_date bytes ≡ date_view (Ok date)) is (parse_date-date_text date) in
    (a, refl, same_text a date same ∙ is)
date_read_as word (Err e) date view is =
    absurd (ok_no_err e (date_parts date) (date_view (Err e)) refl (view ∙ subst (λ (bytes : List ℕ). parse_date bytes ≡ date_view (Ok date)) is (parse_date-date_text date)))

-- a date that prints as a word is read from it, or one that prints so too; the first parts show `grind` what to match
pub date_back : (word : List ℕ) (r : Result Date Error) → date_view r ≡ parse_date word
    → (date_view r ≡ parse_date word)
    × ((date : Date) → date_text date ≡ word → (date_text date ≡ word) × ((read : Date) × (r ≡ Ok read) × (date_text read ≡ word)))
date_back word r view = (view, λ date is. (is, date_read_as word r date view is))

-- a word is compared with what is printed
pub ruleset printed_seconds = (second_back, bytes_eq-Decides)

pub ruleset printed_civils = (civil_back, bytes_eq-Decides)

pub ruleset printed_dates = (date_back, bytes_eq-Decides)
