-- The days of a plan as a table. Source: this crate's documentation.
use Rattle.std.specs.Prelude.{ℕ, ◌/◌, ◌%◌, nat_lt, ◌==◌, Bool, List, [], ◌++◌, codes, Option, Some, None, if◌then◌else◌}
use Rattle.std.specs.Fmt.{decimal}
use Rattle.std.specs.List.{flat_map}
use Rattle.croner_base.specs.CivilText.{two_places}
use Rattle.cronplan.specs.declared.days.Day.{Day}
use Rattle.cronplan.specs.declared.days.HourCell.{HourCell}
use Rattle.cronplan.specs.declared.moments.Moment.{Moment}
use Rattle.cronplan_forms.specs.declared.week.WeekDay.{WeekDay}
use Rattle.cronplan_forms.specs.Clocks.{second_of_day}
use Rattle.cronplan_page.specs.declared.pieces.Piece.TheVariants as pieces
use Rattle.cronplan_page.specs.Markup.{number_text}
use Rattle.cronplan_page.specs.Pieces.{piece_text}
use Rattle.cronplan_page.specs.Words.{date_name}

-- how dark an hour with so many starts is: a step more at 1, 2, 4, 8, 16, 32, 64 and 128, as in the picture of text
abbrev pub step_of : ℕ → ℕ
step_of n =
    if nat_lt n 2 then n
    else if nat_lt n 4 then 2
    else if nat_lt n 8 then 3
    else if nat_lt n 16 then 4
    else if nat_lt n 32 then 5
    else if nat_lt n 64 then 6
    else if nat_lt n 128 then 7
    else 8

-- the count of an hour, and nothing where it is 0
unfoldable pub count_text : List ℕ → ℕ → List ℕ
count_text class n =
    if n == 0 then codes "<td class=\"" ++ (class ++ codes "s0\"></td>")
    else codes "<td class=\"" ++ (class ++ (codes "s" ++ (decimal (step_of n) ++ (codes "\">" ++ (decimal n ++ codes "</td>")))))

-- an hour that the clock shows twice has a class of its own
abbrev pub class_of : Bool → List ℕ
class_of repeated = if repeated then codes "t " else []

-- an hour: a cross where the clock skips it, and a dash where the plan doesn't have it
abbrev pub cell_text : HourCell → List ℕ
cell_text cell =
    if cell.skipped then piece_text pieces.SkippedCell
    else if cell.outside then piece_text pieces.OutsideCell
    else count_text (class_of cell.repeated) cell.starts

-- the hours of a day
unfoldable pub cells_text : List HourCell → List ℕ
cells_text cells = flat_map cell_text cells

-- the hour and the minute of a second of the day, as `02:30`
abbrev pub hour_text : ℕ → List ℕ
hour_text second = two_places (second / 3_600) ++ (codes ":" ++ two_places (second / 60 % 60))

-- the fullest moment of a day, if there is one: how many starts, and when
abbrev pub fullest_of : Option Moment → List ℕ
fullest_of None = []
fullest_of (Some m) = decimal m.starts ++ (codes " at " ++ hour_text (second_of_day m.wall))

unfoldable pub fullest_cell : Option Moment → List ℕ
fullest_cell fullest = piece_text pieces.Cell ++ (fullest_of fullest ++ piece_text pieces.CellEnd)

-- its hours, how many starts it has, and that
unfoldable pub day_cells : Day → List ℕ
day_cells day = cells_text day.hours.items ++ (number_text day.starts ++ (fullest_cell day.fullest ++ piece_text pieces.RowEnd))

-- a day: its name, and those
unfoldable pub row_text : WeekDay → List ℕ
row_text d = piece_text pieces.Row ++ (date_name d.name ++ (piece_text pieces.RowName ++ day_cells d.day.now))

-- the rows of some days
unfoldable pub rows_text : List WeekDay → List ℕ
rows_text days = flat_map row_text days

-- the table of some days
unfoldable pub week_text : List WeekDay → List ℕ
week_text days =
    piece_text pieces.WeekHeading
    ++ (piece_text pieces.WeekTable ++ (rows_text days ++ (piece_text pieces.TableEnd ++ piece_text pieces.WeekKey)))
