-- The order of patterns: field by field from the seconds to the years, then by the three flags. The text has no part in it.
use Rattle.std.specs.declared.cmp.Ordering.{Ordering}
use Rattle.std.specs.Ordering.{bool_cmp, on, then_cmp}
use Rattle.std.specs.Cmp.{IsTotalOrder, on_total, then_total, bool_cmp_total}
use Rattle.croner_base.specs.Order.{field_cmp, field_cmp_total}
use Rattle.croner_pattern.specs.declared.pattern.CronPattern.{CronPattern}
use Rattle.croner_pattern.specs.Meaning.{Meaning, meaning_of}

-- the first difference decides
abbrev pub meaning_cmp : Meaning → Meaning → Ordering
meaning_cmp =
    then_cmp (then_cmp (then_cmp (then_cmp (then_cmp (then_cmp (then_cmp (then_cmp (then_cmp (on (λ m. m.seconds) field_cmp)
    (on (λ m. m.minutes) field_cmp))
    (on (λ m. m.hours) field_cmp))
    (on (λ m. m.days) field_cmp))
    (on (λ m. m.months) field_cmp))
    (on (λ m. m.days_of_week) field_cmp))
    (on (λ m. m.years) field_cmp))
    (on (λ m. m.star_day) bool_cmp))
    (on (λ m. m.star_weekday) bool_cmp))
    (on (λ m. m.and) bool_cmp)

-- patterns are compared by their meanings
abbrev pub pattern_cmp : CronPattern → CronPattern → Ordering
pattern_cmp = on meaning_of meaning_cmp

-- it is a total order. The proof stands here since the laws of an impl may cite this crate's specs alone.
pub meaning_cmp_total : IsTotalOrder meaning_cmp
meaning_cmp_total =
    then_total (then_total (then_total (then_total (then_total (then_total (then_total (then_total (then_total (on_total (λ (m : Meaning). m.seconds) field_cmp_total)
    (on_total (λ (m : Meaning). m.minutes) field_cmp_total))
    (on_total (λ (m : Meaning). m.hours) field_cmp_total))
    (on_total (λ (m : Meaning). m.days) field_cmp_total))
    (on_total (λ (m : Meaning). m.months) field_cmp_total))
    (on_total (λ (m : Meaning). m.days_of_week) field_cmp_total))
    (on_total (λ (m : Meaning). m.years) field_cmp_total))
    (on_total (λ (m : Meaning). m.star_day) bool_cmp_total))
    (on_total (λ (m : Meaning). m.star_weekday) bool_cmp_total))
    (on_total (λ (m : Meaning). m.and) bool_cmp_total)

pub pattern_cmp_total : IsTotalOrder pattern_cmp
pattern_cmp_total = on_total meaning_of meaning_cmp_total
