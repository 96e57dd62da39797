-- The changes of a clock in a span. Source: this crate's documentation.
use Rattle.std.specs.Prelude.{ℤ, pos, ◌-ℤ◌, Bool, ◌&&◌, int_lt, int_le, if◌then◌else◌, List, [], ◌∷◌}
use Rattle.std.specs.List.{flat_map, list_any}
use Rattle.croner_base.specs.Zone.{Zone}
use Rattle.cronplan.specs.declared.changes.ClockChange.{ClockChange}
use Rattle.cronplan.specs.declared.span.Span.{Span}
use Rattle.cronplan.specs.Counts.{hour_of}

-- what a zone's clock shows at a second, and the second before
abbrev pub change_at : Zone → ℤ → ClockChange
change_at z i = record { second = i; before = z.reads (i -ℤ pos 1); shown = z.reads i }

-- the change at a second, if that lies in a span
abbrev pub change_in : Zone → Span → ℤ → List ClockChange
change_in z span i = if int_le span.first i && int_lt i span.end then change_at z i ∷ [] else []

-- of the changes of a table those that lie in a span, in the order of the table
abbrev pub changes_in : Zone → Span → List (ℤ × ℤ) → List ClockChange
changes_in z span changes = flat_map (λ c. change_in z span c.0) changes

-- a change skips the whole of an hour: the hour lies between the one that the clock showed last and the one that it shows then
abbrev pub skips : ℤ → ClockChange → Bool
skips hour c = int_lt (hour_of c.before) hour && int_lt hour (hour_of c.shown)

-- a change shows a second of an hour twice: the clock is put back, and the hour is the one that it shows then, the one that it showed last,
-- or lies between
abbrev pub repeats : ℤ → ClockChange → Bool
repeats hour c = int_le c.shown c.before && (int_le (hour_of c.shown) hour && int_le hour (hour_of c.before))

-- one of the changes does
abbrev pub skips_hour : ℤ → List ClockChange → Bool
skips_hour hour changes = list_any (skips hour) changes

abbrev pub repeats_hour : ℤ → List ClockChange → Bool
repeats_hour hour changes = list_any (repeats hour) changes
