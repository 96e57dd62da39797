-- The shape of each field of a pattern: its bounds, the modifiers that it supports, and what is taken off a number read.
use Rattle.std.specs.Prelude.{ℕ, Bool, false, ◌&&◌, ◌||◌, ◌==◌, List, bit_or}
use Rattle.croner_base.specs.Limits.{first_year, last_year}
use Rattle.croner_base.specs.Field.{nth_bits, last_bit, nearest_bit, Shape, new_shape, empty_field}
use Rattle.croner_pattern.specs.Meaning.{Meaning}

-- seconds and minutes
abbrev pub sixty_shape : Shape
sixty_shape = new_shape 0 59 0 0

-- hours
abbrev pub hour_shape : Shape
hour_shape = new_shape 0 23 0 0

-- days of the month: the last day, and the nearest working day
abbrev pub day_shape : Shape
day_shape = new_shape 1 31 (bit_or last_bit nearest_bit) 0

-- months
abbrev pub month_shape : Shape
month_shape = new_shape 1 12 0 0

-- weekdays: the first to the fifth of a month, and the last. The offset is 0 where Sunday is 0 or 7, and 1 where Sunday
-- is 1.
abbrev pub weekday_shape : ℕ → Shape
weekday_shape offset = new_shape 0 7 (bit_or nth_bits last_bit) offset

-- years
abbrev pub year_shape : Shape
year_shape = new_shape first_year last_year 0 0

-- two shapes are the same, sloppiness aside
abbrev pub is_like : Shape → Shape → Bool
is_like a b = a.min == b.min && (a.max == b.max && (a.supported == b.supported && a.offset == b.offset))

-- each field has the shape of its place
abbrev pub has_field_shapes : Meaning → Bool
has_field_shapes m =
    is_like m.seconds.shape sixty_shape && (is_like m.minutes.shape sixty_shape && (is_like m.hours.shape hour_shape
    && (is_like m.days.shape day_shape && (is_like m.months.shape month_shape
    && ((is_like m.days_of_week.shape (weekday_shape 0) || is_like m.days_of_week.shape (weekday_shape 1))
    && is_like m.years.shape year_shape)))))

-- a pattern of which the text alone is known: no field names a value
abbrev pub new_meaning : List ℕ → Meaning
new_meaning text = record {
  seconds = empty_field sixty_shape;
  minutes = empty_field sixty_shape;
  hours = empty_field hour_shape;
  days = empty_field day_shape;
  months = empty_field month_shape;
  days_of_week = empty_field (weekday_shape 0);
  years = empty_field year_shape;
  star_day = false;
  star_weekday = false;
  and = false;
  text = text;
}
