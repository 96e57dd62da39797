-- Worked faults, computed from the definitions: the field at fault, and the place of a fault.
use Rattle.std.proofs.Common.{◌≡◌, ℕ, true, List, ◌∷◌, ◌++◌, length, Option, Some, None, Err, ap, refl, sym, arith}
use Rattle.std.proofs.lemmas.Bool.{false≢true}
use Rattle.std.specs.Prelude.{codes}
use Rattle.std.specs.Str.{trim_start, trim_end, chars}
use Rattle.croner.specs.declared.parser.Year.TheVariants as year
use Rattle.croner.specs.declared.parser.fault.Expected.{Expected}
use Rattle.croner.specs.declared.parser.fault.PatternField.TheVariants as fields
use Rattle.croner.specs.declared.parser.fault.PatternField.{PatternField}
use Rattle.croner.specs.parser.Faults.{kind_of, named_field, counted_word, from_illegal, IsCounted, IsIllegal, IsInField, IsInPart, IsPlaced}
use Rattle.croner.specs.parser.Grammar.{Refusal, Invalid, Illegal, Component, outcome}
use Rattle.croner.specs.parser.Settings.{Settings, default_settings}

abbrev in_quartz_mode : Settings
in_quartz_mode = record default_settings { quartz = true }

abbrev without_year : Settings
without_year = record default_settings { year_field = year.Disallowed }

an_hour_too_high : outcome default_settings (codes "0 24 * * *") ≡ Err (Component fields.Hours 0)
unfolding trim_start trim_end chars lib.Utf8.encode
an_hour_too_high = refl

a_minute_too_high : outcome default_settings (codes "60 * * * *") ≡ Err (Component fields.Minutes 0)
unfolding trim_start trim_end chars lib.Utf8.encode
a_minute_too_high = refl

a_second_too_high : outcome default_settings (codes "60 * * * * *") ≡ Err (Component fields.Seconds 0)
unfolding trim_start trim_end chars lib.Utf8.encode
a_second_too_high = refl

a_day_too_low : outcome default_settings (codes "0 0 0 * *") ≡ Err (Component fields.DayOfMonth 0)
unfolding trim_start trim_end chars lib.Utf8.encode
a_day_too_low = refl

a_month_too_high : outcome default_settings (codes "0 0 1 13 *") ≡ Err (Component fields.Month 0)
unfolding trim_start trim_end chars lib.Utf8.encode
a_month_too_high = refl

a_year_as_the_sixth_field : outcome default_settings (codes "0 0 1 1 * 2024") ≡ Err (Component fields.Weekday 0)
unfolding trim_start trim_end chars lib.Utf8.encode
a_year_as_the_sixth_field = refl

a_year_too_high : outcome default_settings (codes "0 0 0 1 1 * 5001") ≡ Err (Component fields.Year 0)
unfolding trim_start trim_end chars lib.Utf8.encode
a_year_too_high = refl

sunday_as_0_in_quartz_mode : outcome in_quartz_mode (codes "0 0 * * 0") ≡ Err (Component fields.Weekday 0)
unfolding trim_start trim_end chars lib.Utf8.encode
sunday_as_0_in_quartz_mode = refl

the_first_of_two : outcome default_settings (codes "0 24 * 13 *") ≡ Err (Component fields.Hours 0)
unfolding trim_start trim_end chars lib.Utf8.encode
the_first_of_two = refl

a_letter_after_a_number_too_high : outcome default_settings (codes "60 * * * MONDAY") ≡ Err (Illegal fields.Weekday)
unfolding trim_start trim_end chars lib.Utf8.encode
a_letter_after_a_number_too_high = refl

a_question_mark_in_hours : outcome default_settings (codes "* ? * * *") ≡ Err (Illegal fields.Hours)
unfolding trim_start trim_end chars lib.Utf8.encode
a_question_mark_in_hours = refl

a_wrong_count_has_no_field : outcome default_settings (codes "60 * * *") ≡ Err Invalid
unfolding trim_start trim_end chars lib.Utf8.encode
a_wrong_count_has_no_field = refl

an_at_sign_hides_the_fields : named_field (codes "0 0 * * MON@") (Illegal fields.Weekday) ≡ None
unfolding trim_start trim_end chars lib.Utf8.encode
an_at_sign_hides_the_fields = refl

the_first_field_too_many : counted_word default_settings (codes "0 5 * * 1 tar -c /home") ≡ 8
unfolding chars lib.Utf8.encode
the_first_field_too_many = refl

the_last_of_too_few : counted_word default_settings (codes "0 5 *") ≡ 3
unfolding chars lib.Utf8.encode
the_last_of_too_few = refl

the_seventh_without_a_year : counted_word without_year (codes "0 0 0 1 1 * 2024") ≡ 7
unfolding chars lib.Utf8.encode
the_seventh_without_a_year = refl

a_part_after_two : outcome default_settings (codes "5,10,99 * * * *") ≡ Err (Component fields.Minutes 2)
unfolding trim_start trim_end chars lib.Utf8.encode
a_part_after_two = refl

-- an empty part is read, and counts
a_part_after_an_empty_one : outcome default_settings (codes "* 5,,24 * * MON,*") ≡ Err (Component fields.Hours 2)
unfolding trim_start trim_end chars lib.Utf8.encode
a_part_after_an_empty_one = refl

-- a star is read alone in its field, and in no list
a_star_after_a_number : outcome default_settings (codes "5,* * * * *") ≡ Err (Component fields.Minutes 1)
unfolding trim_start trim_end chars lib.Utf8.encode
a_star_after_a_number = refl

-- ---- the place of a wrong count: a whole word

the_third_word : IsCounted default_settings (codes "0 9 foo") 4 7
unfolding chars lib.Utf8.encode
the_third_word = record {
  from_start = λ e. absurd (false≢true e);
  to_end = λ e. absurd (false≢true e);
  word = λ _. record { one_word = refl; its_number = refl; whole = refl };
}

the_end_of_the_third_word : IsCounted default_settings (codes "0 9 foo") 6 7 → ⊥
unfolding chars lib.Utf8.encode
the_end_of_the_third_word p =
    let e : 4 ≡ 3 = (p.word refl).its_number in
    absurd (omega (arith, e))

the_front_of_the_third_word : IsCounted default_settings (codes "0 9 foo") 4 6 → ⊥
unfolding chars lib.Utf8.encode
the_front_of_the_third_word p =
    let e : 4 ≡ 3 = (p.word refl).whole in
    absurd (omega (arith, e))

the_second_word : IsCounted default_settings (codes "0 9 foo") 2 3 → ⊥
unfolding chars lib.Utf8.encode
the_second_word p =
    let e : 2 ≡ 3 = (p.word refl).its_number in
    absurd (omega (arith, e))

-- ---- the place of an illegal character: the first that its field doesn't take

a_semicolon : IsIllegal (codes "0 9;17 * * *") fields.Hours 3 4
unfolding chars lib.Utf8.encode
a_semicolon = record { one = refl; first = λ _. refl }

the_digit_in_front_of_it : IsIllegal (codes "0 9;17 * * *") fields.Hours 2 3 → ⊥
unfolding chars lib.Utf8.encode
the_digit_in_front_of_it p =
    let e : 3 ≡ 4 = ap length (p.first refl) in
    absurd (omega (arith, e))

the_letter_after_a_name : IsIllegal (codes "0 9 * * monday") fields.Weekday 11 12
unfolding chars lib.Utf8.encode
the_letter_after_a_name = record { one = refl; first = λ _. refl }

a_letter_of_a_name : IsIllegal (codes "0 9 * * monday") fields.Weekday 8 9 → ⊥
unfolding chars lib.Utf8.encode
a_letter_of_a_name p =
    let e : 3 ≡ 6 = ap length (p.first refl) in
    absurd (omega (arith, e))

-- a name whose first letter its field takes by itself
after_a_name_with_w : IsIllegal (codes "0 0 WED; * *") fields.DayOfMonth 7 8
unfolding chars lib.Utf8.encode
after_a_name_with_w = record { one = refl; first = λ _. refl }

-- a name that overlaps another is none
a_letter_of_two_names : from_illegal fields.Month (codes "JANOV") ≡ codes "OV"
a_letter_of_two_names = refl

-- one sign may stand in front of the weekdays
the_second_plus : IsIllegal (codes "0 0 * * ++5") fields.Weekday 9 10
unfolding chars lib.Utf8.encode
the_second_plus = record { one = refl; first = λ _. refl }

the_first_plus : IsIllegal (codes "0 0 * * ++5") fields.Weekday 8 9 → ⊥
unfolding chars lib.Utf8.encode
the_first_plus p =
    let e : 2 ≡ 3 = ap length (p.first refl) in
    absurd (omega (arith, e))

-- a dash of three bytes, U+2013, in a text of six words
a_long_dash : IsIllegal (codes "0 9" ++ (226 ∷ 128 ∷ 147 ∷ codes "17 * * * *")) fields.Minutes 3 6
unfolding chars lib.Utf8.encode
a_long_dash = record { one = refl; first = λ _. refl }

-- ---- the place of a refused part: in the part, and in no other

the_third_part : IsInPart (codes "5,10,99 * * * *") fields.Minutes 2 5 7
unfolding chars lib.Utf8.encode
the_third_part = record { one_part = refl; its_part = λ _. refl }

the_first_part : IsInPart (codes "5,10,99 * * * *") fields.Minutes 2 0 1 → ⊥
unfolding chars lib.Utf8.encode
the_first_part p =
    let e : 1 ≡ 3 = p.its_part refl in
    absurd (omega (arith, e))

two_parts : IsInPart (codes "5,10,99 * * * *") fields.Minutes 2 2 7 → ⊥
unfolding chars lib.Utf8.encode
two_parts p = false≢true (sym p.one_part)

-- the parts of the field's own word are counted
a_part_of_the_hours : IsInPart (codes " 0,1  5-3,2 * * *") fields.Hours 0 6 9
unfolding chars lib.Utf8.encode
a_part_of_the_hours = record { one_part = refl; its_part = λ _. refl }

-- ---- the whole place

-- the fault of a text for a refusal, at the bytes from start to end
abbrev IsPlacedAt : List ℕ → Refusal → Option PatternField → ℕ → ℕ → ℕ → Expected → Type 0
IsPlacedAt text refusal field start end character e =
    IsPlaced default_settings text refusal (record { kind = kind_of refusal; field = field; start = start; end = end; character = character; expected = e })

a_place : (e : Expected) → IsPlacedAt (codes "60 * * * *") (Component fields.Minutes 0) (Some fields.Minutes) 0 2 1 e
unfolding trim_start trim_end chars lib.Utf8.encode
a_place e = record {
  starts = (omega arith, λ a b. absurd (omega (arith, b)));
  ends = (omega arith, λ a b. absurd (omega (arith, b)));
  order = omega arith;
  some = λ h. omega arith;
  least = record { one_part = refl; its_part = λ _. refl };
  field = record { all_written = refl; one_word = refl; its_word = refl };
  sign = λ e. absurd (false≢true e);
  character = refl;
}

-- a place one off: the hours are not the minutes, the second character is not the first, and a field at fault is named
in_the_field_to_the_right : IsInField (codes "60 * * * *") fields.Minutes 3 4 → ⊥
unfolding chars lib.Utf8.encode
in_the_field_to_the_right p =
    let e : 3 ≡ 2 = p.its_word in
    absurd (omega (arith, e))

one_character_on : (e : Expected) → IsPlacedAt (codes "60 * * * *") (Component fields.Minutes 0) (Some fields.Minutes) 0 2 2 e → ⊥
unfolding chars lib.Utf8.encode
one_character_on x p =
    let e : 2 ≡ 1 = p.character in
    absurd (omega (arith, e))

-- a text with an `@` is refused at one
beside_the_at_sign : (e : Expected) → IsPlacedAt (codes "0 0 * * MON@") (Illegal fields.Weekday) None 8 9 9 e → ⊥
unfolding chars lib.Utf8.encode
beside_the_at_sign x p = false≢true (p.sign refl)
