-- The starts of a plan, day by day. Source: this crate's documentation.
use Rattle.std.specs.Prelude.{ℕ, ◌==◌, ℤ, List, [], ◌++◌, codes, if◌then◌else◌}
use Rattle.std.specs.List.{flat_map}
use Rattle.std.specs.Ordering.{int_eq}
use Rattle.cronplan.specs.Counts.{date_of}
use Rattle.cronplan.specs.declared.days.Day.{Day}
use Rattle.cronplan_forms.specs.declared.job.Job.{Job}
use Rattle.cronplan_forms.specs.declared.week.WeekDay.{WeekDay}
use Rattle.cronplan_page.specs.declared.pieces.Piece.TheVariants as pieces
use Rattle.cronplan_page.specs.declared.timed.TimedStart.{TimedStart}
use Rattle.cronplan_page.specs.Markup.{list_of}
use Rattle.cronplan_page.specs.Pieces.{piece_text}
use Rattle.cronplan_page.specs.Words.{many_text, started_text, date_name, time_text}

-- a start: its time, and its job
unfoldable pub start_line : List Job → TimedStart → List ℕ
start_line jobs s =
    piece_text pieces.Item
    ++ (time_text s.time ++ (piece_text pieces.ItemRest ++ (started_text jobs s.start.job s.start.count ++ piece_text pieces.ItemEnd)))

-- the same, and nothing where the clock shows another date then
abbrev pub start_on : List Job → ℤ → TimedStart → List ℕ
start_on jobs date s = if int_eq (date_of s.start.wall) date then start_line jobs s else []

-- the starts on a date
unfoldable pub starts_on : List Job → ℤ → List TimedStart → List ℕ
starts_on jobs date starts = flat_map (start_on jobs date) starts

-- the name of a day, and how many starts it has
unfoldable pub day_head : WeekDay → List ℕ
day_head d =
    piece_text pieces.Day ++ (date_name d.name ++ (codes ", " ++ (many_text d.day.now.starts (codes "start") ++ piece_text pieces.DayName)))

-- its starts
unfoldable pub day_list : List Job → List TimedStart → Day → List ℕ
day_list jobs starts day = list_of (day.starts == 0) pieces.NoMoment (starts_on jobs day.date starts)

-- a day: those, and these, which open where they are asked for
unfoldable pub day_text : List Job → List TimedStart → WeekDay → List ℕ
day_text jobs starts d = day_head d ++ (day_list jobs starts d.day.now ++ piece_text pieces.DayEnd)

-- some days
unfoldable pub day_texts : List Job → List TimedStart → List WeekDay → List ℕ
day_texts jobs starts days = flat_map (day_text jobs starts) days

-- the section of the days
unfoldable pub days_text : List Job → List TimedStart → List WeekDay → List ℕ
days_text jobs starts days = piece_text pieces.DaysHeading ++ day_texts jobs starts days
