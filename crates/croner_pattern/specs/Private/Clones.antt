-- Which patterns are cloned in one go.
-- Private contracts alone cite these definitions.
use Rattle.std.specs.Prelude.{Bool, ◌&&◌}
use Rattle.croner_base.specs.Field.{is_of_one_word}
use Rattle.croner_pattern.specs.Meaning.{Meaning}

-- each field but the years is of one word
abbrev pub has_fields_of_one_word : Meaning → Bool
has_fields_of_one_word m =
    is_of_one_word m.seconds.shape && (is_of_one_word m.minutes.shape && (is_of_one_word m.hours.shape && (is_of_one_word m.days.shape && (is_of_one_word m.months.shape && is_of_one_word m.days_of_week.shape))))
