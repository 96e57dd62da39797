-- Worked rows of a month's grid, computed from the definitions.
use Rattle.std.proofs.Common.{◌≡◌, ◌+◌, ◌%◌, ℕ, ℤ, pos, Bool, true, false, List, [], ◌∷◌, length, None, refl}
use Rattle.std.specs.Borrow.{Bor}
use Rattle.std.specs.Char.{encode_utf8}
use Rattle.std.specs.Fmt.{digits}
use Rattle.std.specs.Prelude.{codes}
use Rattle.std.specs.Str.{chars}
use Rattle.jiff_core.specs.Calendar.{days_of_months}
use Rattle.croner_base.specs.Calendar.{day_number, days_since_zero, weekday_of_day, year_start}
use Rattle.cronplan.specs.declared.start.JobStart.{JobStart}
use Rattle.cronplan_forms.specs.declared.month.Month.{Month}
use Rattle.cronplan_forms.specs.declared.month.MonthDay.{MonthDay}
use Rattle.cronplan_forms.specs.declared.month.Titled.{Titled}
use Rattle.cronplan_forms.specs.Months.{cut, cut_text, fill, date_cell, marked_date, marked_cell, mark_text, title_cell, left_cell, day_cell, place_cell, cell_of, has_line, has_line_of, cells_text, is_used, line_text, week_count, has_marks, rule_text, weekdays_text}
use Rattle.cronplan_forms.specs.PlanMonths.{days_of, first_of, name_text, place_in_year, titled, told_at, year_of}

-- ten characters fit, of eleven the tenth is a tilde
cuts : (cut 10 (codes "abcdefghij") ≡ codes "abcdefghij") × (cut 10 (codes "abcdefghijk") ≡ codes "abcdefghi~") × (cut 10 [] ≡ [])
cuts = (refl, refl, refl)

-- ten characters fill a cell, more leave no room either
fills : (fill 0 ≡ codes "          ") × (fill 9 ≡ codes " ") × (fill 10 ≡ []) × (fill 12 ≡ [])
unfolding fill
fills = (refl, refl, refl, refl)

-- the first and the last date; one title is left of four, none of three
cells : (date_cell 1 ≡ codes "1         ") × (date_cell 31 ≡ codes "31        ") × (left_cell 4 ≡ codes "+1        ") × (left_cell 3 ≡ codes "          ") × (left_cell 13 ≡ codes "+10       ")
unfolding date_cell left_cell fill digits
cells = (refl, refl, refl, refl, refl)

-- ---- days

abbrev text : List ℕ → Bor (List ℕ)
text bytes = record { ref_ptr = (0, 0); now = bytes }

abbrev titled_with : ℤ → List ℕ → Titled
titled_with date title = record { date = date; title = text title }

abbrev day : List Titled → Bool → MonthDay
day titles is_in_plan = record { titles = record { ref_ptr = (0, 0); now = titles }; is_in_plan = is_in_plan }

-- a day on which nothing starts has its date alone; a place without a day has nothing on any line
lines : (day_cell (day [] true) 7 0 ≡ codes "7         ") × (day_cell (day [] true) 7 1 ≡ codes "          ") × (day_cell (day [] true) 7 4 ≡ codes "          ") × (cell_of None 0 0 ≡ codes "          ")
    × (has_line_of None 0 ≡ false)
unfolding day_cell date_cell left_cell fill digits
lines = (refl, refl, refl, refl, refl)

-- one that isn't in the plan has a mark, which a line below the grids explains
marks : (day_cell (day [] false) 7 0 ≡ codes "7 -       ") × (day_cell (day [] false) 12 0 ≡ codes "12 -      ") × (mark_text true ≡ codes "-: not in the plan\n") × (mark_text false ≡ [])
unfolding day_cell marked_cell marked_date fill digits
marks = (refl, refl, refl, refl)

-- of five titles the first three, and that two are left
abbrev five : MonthDay
five = day (titled_with (pos 0) (codes "a") ∷ titled_with (pos 0) (codes "b") ∷ titled_with (pos 0) (codes "c") ∷ titled_with (pos 0) (codes "d") ∷ titled_with (pos 0) (codes "e") ∷ []) true

five_titles : (day_cell five 7 0 ≡ codes "7         ") × (day_cell five 7 1 ≡ codes "a         ") × (day_cell five 7 3 ≡ codes "c         ") × (day_cell five 7 4 ≡ codes "+2        ")
unfolding day_cell date_cell title_cell cut_text left_cell fill digits chars encode_utf8
five_titles = (refl, refl, refl, refl)

-- ---- months

-- the first week of April, with the edge of a plan in it: of Thursday the first and the three days after it the last two aren't in the plan
abbrev april : Month
april = record { name = text (codes "April 2027"); first_weekday = 3; days = record { ref_ptr = (0, 0); now = day (titled_with (pos 20_909) (codes "report") ∷ []) true ∷ day [] true ∷ day [] false ∷ day [] false ∷ [] } }

a_week : (line_text april 0 0 ≡ codes "|          |          |          |1         |2         |3 -       |4 -       |\n")
    × (line_text april 0 1 ≡ codes "|          |          |          |report    |          |          |          |\n") × (line_text april 0 2 ≡ [])
unfolding line_text is_used has_line cells_text place_cell day_cell date_cell marked_cell marked_date title_cell cut_text left_cell fill digits chars encode_utf8
a_week = (refl, refl, refl)

marked : (has_marks april ≡ true) × (week_count april ≡ 1)
marked = (refl, refl)

-- March of 2027 has the number 24,326: 31 days, of which the first, 20,878 days after 1970-01-01, is a Monday; April comes next, and December
-- of year 0 is the number 11
numbers : (year_of (pos 24_326) ≡ pos 2_027) × (place_in_year (pos 24_326) ≡ 3) × (days_of (pos 24_326) ≡ 31) × (days_of (pos 24_327) ≡ 30) × (place_in_year (pos 11) ≡ 12)
numbers = (refl, refl, refl, refl, refl)

first_dates : (first_of (pos 24_326) ≡ pos 20_878) × (first_of (pos 24_327) ≡ pos 20_909) × ((weekday_of_day (pos 20_878) + 6) % 7 ≡ 0) × ((weekday_of_day (pos 20_909) + 6) % 7 ≡ 3)
unfolding day_number year_start days_since_zero weekday_of_day days_of_months
first_dates = (refl, refl, refl, refl)

names : (name_text (pos 24_326) ≡ codes "March 2027") × (name_text (pos 11) ≡ codes "December 0")
unfolding digits
names = (refl, refl)

-- a job that isn't there has no title
abbrev told : List (List ℕ × List ℕ)
told = (codes "backup", codes "At 02:30.") ∷ (codes "report", codes "At 09:00.") ∷ []

abbrev start : ℕ → JobStart
start job = record { second = pos 90_000; job = job; count = 1; wall = pos 90_000 }

titles : (titled told (start 1) ≡ (pos 1, codes "report") ∷ []) × (titled told (start 2) ≡ []) × (told_at told 0 ≡ (codes "backup", codes "At 02:30.") ∷ []) × (told_at told 2 ≡ [])
titles = (refl, refl, refl, refl)

-- a line of the grid is 78 columns wide, and its end
widths : (length rule_text ≡ 79) × (length weekdays_text ≡ 79)
unfolding rule_text weekdays_text
widths = (refl, refl)
