-- The fields that words of bits stand for.
use Rattle.std.specs.Prelude.{ℕ, ◌+◌, ◌*◌, ◌-◌, Bool, false, not, ◌&&◌, nat_le, List, map, slice_index, if◌then◌else◌}
use Rattle.std.specs.Int.{bit_at}
use Rattle.std.specs.List.{range_with_len}
use Rattle.croner_base.specs.Field.{Shape, Field, room}
use Rattle.croner_pattern.specs.Schedule.{is_single}
use Rattle.croner_pattern.specs.Shapes.{sixty_shape, hour_shape, day_shape, weekday_shape, year_shape}
use Rattle.croner.specs.declared.compact.parts.LastDay.{LastDay}
use Rattle.croner.specs.declared.compact.parts.LastDay.TheVariants.{Unnamed, Calendar, Working}
use Rattle.croner.specs.declared.compact.years.Years.{Years}
use Rattle.croner.specs.declared.compact.years.Years.TheVariants.{Run, Listed}

-- the field of a shape in which each value has this sum of the bits of its modifiers
abbrev pub field_of : Shape → Bool → (ℕ → ℕ) → Field
field_of shape star sum =
    record { shape = shape; marks = map sum (range_with_len 0 (room shape.max)); enabled = 0; step = 1; wildcard = star }

-- the plain values are the bits of a word; as if written with a star, unless the job is a fixed-time one
abbrev pub plain_field : Shape → Bool → ℕ → Field
plain_field shape fixed_time word = field_of shape (not fixed_time) (bit_at word)

-- a job of these seconds, minutes and hours is a fixed-time one
abbrev pub is_single_time : Bool → ℕ → ℕ → ℕ → Bool
is_single_time fixed_time seconds minutes hours =
    is_single (plain_field sixty_shape fixed_time seconds)
    && (is_single (plain_field sixty_shape fixed_time minutes) && is_single (plain_field hour_shape fixed_time hours))

-- what `L` and `LW` enable
abbrev pub enabled_by : LastDay → ℕ
enabled_by Unnamed = 0
enabled_by Calendar = 64
enabled_by Working = 192

-- the days of the month: bit `day - 1` of one word stands for a plain day, of the other for a day whose nearest weekday is meant
abbrev pub day_sum : ℕ → ℕ → ℕ → ℕ
day_sum plain nearest day = bit_at plain (day - 1) + 128 * bit_at nearest (day - 1)

abbrev pub day_field : ℕ → ℕ → LastDay → Field
day_field plain nearest last = record (field_of day_shape false (day_sum plain nearest)) { enabled = enabled_by last }

-- the weekdays: a row of bits for each modifier, plain, the first to the fifth of a month, the last
abbrev pub week_sum : List ℕ → ℕ → ℕ
week_sum rows weekday =
    bit_at (slice_index rows 0) weekday + 2 * bit_at (slice_index rows 1) weekday + 4 * bit_at (slice_index rows 2) weekday
    + 8 * bit_at (slice_index rows 3) weekday + 16 * bit_at (slice_index rows 4) weekday + 32 * bit_at (slice_index rows 5) weekday
    + 64 * bit_at (slice_index rows 6) weekday

abbrev pub week_field : List ℕ → Field
week_field rows = field_of (weekday_shape 0) false (week_sum rows)

-- the years from one to another
abbrev pub run_sum : ℕ → ℕ → ℕ → ℕ
run_sum first last year = if nat_le first year && nat_le year last then 1 else 0

abbrev pub years_field : Years → Field
years_field (Run run) = field_of year_shape false (run_sum run.first run.last)
years_field (Listed listed) = listed.value.field
