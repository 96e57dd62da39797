-- The grid of a month as text. Source: this crate's documentation.
use Rattle.std.specs.Prelude.{ℕ, ◌+◌, ◌-◌, ◌*◌, ◌/◌, ◌%◌, ◌==◌, ◌||◌, nat_lt, nat_le, Bool, false, not, List, [], ◌∷◌, ◌++◌, length, take, fold, replicate, slice_get, codes, encode_utf8, Option, Some, None, if◌then◌else◌}
use Rattle.std.specs.Fmt.{decimal}
use Rattle.std.specs.List.{flat_map, list_any, range_with_len}
use Rattle.std.specs.Str.{chars}
use Rattle.croner_base.specs.Excerpt.{is_control, ends_a_line}
use Rattle.cronplan_forms.specs.declared.month.Daily.{Daily}
use Rattle.cronplan_forms.specs.declared.month.Month.{Month}
use Rattle.cronplan_forms.specs.declared.month.MonthDay.{MonthDay}
use Rattle.cronplan_forms.specs.declared.month.Titled.{Titled}
use Rattle.cronplan_forms.specs.Apart.{set_apart}

-- ---- texts

-- a character as it is; one that a terminal acts on, or that ends a line, as a question mark
abbrev pub character_text : ℕ → List ℕ
character_text c = if is_control c || ends_a_line c then codes "?" else encode_utf8 c

-- of more characters than so many the first ones, the last of these in place of a tilde's
abbrev pub cut : ℕ → List ℕ → List ℕ
cut most cs = if nat_le (length cs) most then cs else take (most - 1) cs ++ 126 ∷ []

-- a text cut so
unfoldable pub cut_text : ℕ → List ℕ → List ℕ
cut_text most text = flat_map character_text (cut most (chars text))

-- ---- cells: a line of a day

-- so many characters have room in a cell
abbrev pub cell_width : ℕ
cell_width = 10

-- so many titles of a day are shown
abbrev pub most_titles : ℕ
most_titles = 3

-- spaces after so many characters of a cell, as far as it has room
unfoldable pub fill : ℕ → List ℕ
fill used = replicate (cell_width - used) 32

-- a date
unfoldable pub date_cell : ℕ → List ℕ
date_cell date = decimal date ++ fill (length (decimal date))

-- one that isn't in the plan, with a mark
unfoldable pub marked_date : ℕ → List ℕ
marked_date date = decimal date ++ codes " -"

unfoldable pub marked_cell : ℕ → List ℕ
marked_cell date = marked_date date ++ fill (length (marked_date date))

abbrev pub date_cell_of : Bool → ℕ → List ℕ
date_cell_of is_in_plan date = if is_in_plan then date_cell date else marked_cell date

-- a title, or nothing
unfoldable pub title_cell : List ℕ → List ℕ
title_cell title = cut_text cell_width title ++ fill (length (chars title))

abbrev pub title_cell_of : Option Titled → List ℕ
title_cell_of None = fill 0
title_cell_of (Some t) = title_cell t.title.now

-- how many of so many titles are left besides those that are shown, where there are more
unfoldable pub left_cell : ℕ → List ℕ
left_cell count =
    if nat_le count most_titles then fill 0
    else codes "+" ++ (decimal (count - most_titles) ++ fill (1 + length (decimal (count - most_titles))))

-- what a day has on a line of its week: on line 0 its date, on the lines 1 to 3 its first titles, on line 4 how many are left
unfoldable pub day_cell : MonthDay → ℕ → ℕ → List ℕ
day_cell d date line =
    if line == 0 then date_cell_of d.is_in_plan date
    else if line == 4 then left_cell (length d.titles.now)
    else title_cell_of (slice_get d.titles.now (line - 1))

-- ---- places: seven a week, from the Monday of the first week on

-- so many places stand before the first day
abbrev pub places_before : Month → ℕ
places_before m = m.first_weekday % 7

-- the day with this number, from 0: what it has on a line, and whether it has something there
abbrev pub cell_of : Option MonthDay → ℕ → ℕ → List ℕ
cell_of None date line = fill 0
cell_of (Some d) date line = day_cell d date line

abbrev pub has_line_of : Option MonthDay → ℕ → Bool
has_line_of None line = false
has_line_of (Some d) line = nat_le line (length d.titles.now)

-- the same of a place
unfoldable pub place_cell : Month → ℕ → ℕ → List ℕ
place_cell m place line =
    if nat_lt place (places_before m) then fill 0
    else cell_of (slice_get m.days.now (place - places_before m)) (place - places_before m + 1) line

unfoldable pub has_line : Month → ℕ → ℕ → Bool
has_line m place line = if nat_lt place (places_before m) then false else has_line_of (slice_get m.days.now (place - places_before m)) line

-- ---- weeks

-- a cell between two bars, of which the second one is the next cell's
abbrev pub barred_cell : Month → ℕ → ℕ → List ℕ
barred_cell m place line = codes "|" ++ place_cell m place line

-- a line of the week that begins at a place
unfoldable pub cells_text : Month → ℕ → ℕ → List ℕ
cells_text m monday line = flat_map (λ column. barred_cell m (monday + column) line) (range_with_len 0 7)

-- some day of the week has something on a line
unfoldable pub is_used : Month → ℕ → ℕ → Bool
is_used m monday line = list_any (λ column. has_line m (monday + column) line) (range_with_len 0 7)

-- that line, if it is used
unfoldable pub line_text : Month → ℕ → ℕ → List ℕ
line_text m monday line = if is_used m monday line then cells_text m monday line ++ codes "|\n" else []

-- the five lines of a week
unfoldable pub lines_text : Month → ℕ → List ℕ
lines_text m monday = flat_map (line_text m monday) (range_with_len 0 5)

-- what stands between two weeks
unfoldable pub rule_text : List ℕ
rule_text = codes "+----------+----------+----------+----------+----------+----------+----------+\n"

unfoldable pub week_text : Month → ℕ → List ℕ
week_text m monday = lines_text m monday ++ rule_text

-- how many weeks have a day of the month
abbrev pub week_count : Month → ℕ
week_count m = (places_before m + length m.days.now + 6) / 7

unfoldable pub weeks_text : Month → List ℕ
weeks_text m = flat_map (λ week. week_text m (7 * week)) (range_with_len 0 (week_count m))

-- the names of the weekdays
unfoldable pub weekdays_text : List ℕ
weekdays_text = codes "|Mon       |Tue       |Wed       |Thu       |Fri       |Sat       |Sun       |\n"

-- the month's name, and the names of the weekdays
unfoldable pub head_text : Month → List ℕ
head_text m = m.name.now ++ (codes "\n" ++ (rule_text ++ (weekdays_text ++ rule_text)))

-- ---- what starts on every day

-- a title and its times in words
unfoldable pub daily_line : Daily → List ℕ
daily_line d = codes "  " ++ (cut_text 24 d.title.now ++ (codes ": " ++ (cut_text 50 d.words.now ++ codes "\n")))

unfoldable pub daily_lines : List Daily → List ℕ
daily_lines daily = flat_map daily_line daily

-- these with a line above them, if there are any
unfoldable pub headed_lines : List Daily → List ℕ
headed_lines daily = codes "Every day:\n" ++ daily_lines daily

unfoldable pub daily_text : List Daily → List ℕ
daily_text daily = if length daily == 0 then [] else headed_lines daily

-- ---- months

-- the grid
unfoldable pub month_text : Month → List ℕ
month_text m = head_text m ++ weeks_text m

-- grids one below the other, with an empty line between two
abbrev pub grids_text : List Month → List ℕ
grids_text months = fold (λ text m. set_apart text (month_text m)) [] months

-- some day of a month isn't in the plan
abbrev pub has_marks : Month → Bool
has_marks m = list_any (λ d. not d.is_in_plan) m.days.now

-- what the mark means, where it stands
abbrev pub mark_text : Bool → List ℕ
mark_text is_marked = if is_marked then codes "-: not in the plan\n" else []

-- grids, and below them what the mark means and what starts on every day
abbrev pub months_text : List Month → List Daily → List ℕ
months_text months daily = grids_text months ++ (mark_text (list_any has_marks months) ++ daily_text daily)
