-- The times of a day in words, by the first case that holds.
use Rattle.std.specs.Prelude.{ℕ, ◌+◌, ◌-◌, nat_lt, nat_le, Bool, true, false, ◌&&◌, ◌==◌, List, [], ◌++◌, drop, length, decimal, Option, Some, None, if◌then◌else◌}
use Rattle.std.specs.List.{list_all}
use Rattle.croner_summary.specs.declared.language.Style.{Style}
use Rattle.croner_summary.specs.declared.language.SummaryLanguage.{SummaryLanguage}
use Rattle.croner_summary.specs.declared.language.Term.TheVariants.{To, AtTime, At, AndAt, Of, FromTime, FromMinute, AtSecond}
use Rattle.croner_summary.specs.declared.language.TimeUnit.{TimeUnit}
use Rattle.croner_summary.specs.declared.language.TimeUnit.TheVariants.{Second, Minute, Hour}
use Rattle.croner_summary.specs.declared.phrase.Piece.{Piece}
use Rattle.croner_summary.specs.declared.phrase.Piece.TheVariants.{Every, EveryNth, One, Range, RangeNth}
use Rattle.croner_summary.specs.declared.time_words.Stretch.{Stretch}
use Rattle.croner_summary.specs.declared.words.Kind.{Kind}
use Rattle.croner_summary.specs.declared.words.Kind.TheVariants.{Number, HourAt, MinuteOf}
use Rattle.croner_summary.specs.Words.{clock_text, every_text, head_step, list_text, only_piece, span_text, term_text, unit_text}

-- a part of the day, stepped through by minutes or by hours
abbrev pub stretch_by_minutes : ℕ → ℕ → ℕ → ℕ → ℕ → Stretch
stretch_by_minutes step from_hour from_minute to_hour to_minute = record {
  by_hours = false;
  step = step;
  from_hour = from_hour;
  from_minute = from_minute;
  to_hour = to_hour;
  to_minute = to_minute;
}

-- at one minute of each of the hours
abbrev pub stretch_by_hours : ℕ → ℕ → ℕ → ℕ → Stretch
stretch_by_hours step from_hour to_hour minute = record {
  by_hours = true;
  step = step;
  from_hour = from_hour;
  from_minute = minute;
  to_hour = to_hour;
  to_minute = minute;
}

-- minutes within one hour
abbrev pub stretch_in_hour : Option Piece → ℕ → Option Stretch
stretch_in_hour (Some Every) hour = Some (stretch_by_minutes 1 hour 0 hour 59)
stretch_in_hour (Some (EveryNth n)) hour = Some (stretch_by_minutes n hour 0 hour (60 - n))
stretch_in_hour (Some (Range first last)) hour = Some (stretch_by_minutes 1 hour first hour last)
stretch_in_hour (Some (RangeNth first last n)) hour = Some (stretch_by_minutes n hour first hour last)
stretch_in_hour (Some (One minute)) hour = None
stretch_in_hour None hour = None

-- minutes of hours in a row
abbrev pub stretch_in_hours : Option Piece → ℕ → ℕ → Option Stretch
stretch_in_hours (Some Every) first last = Some (stretch_by_minutes 1 first 0 last 59)
stretch_in_hours (Some (EveryNth n)) first last = Some (stretch_by_minutes n first 0 last (60 - n))
stretch_in_hours (Some (One minute)) first last = Some (stretch_by_hours 1 first last minute)
stretch_in_hours (Some (Range from to)) first last = None
stretch_in_hours (Some (RangeNth from to n)) first last = None
stretch_in_hours None first last = None

-- a minute of hours at a step
abbrev pub stretch_at_step : Option Piece → ℕ → ℕ → ℕ → Option Stretch
stretch_at_step (Some (One minute)) first last n = Some (stretch_by_hours n first last minute)
stretch_at_step other first last n = None

-- the minutes and hours as one part of the day
abbrev pub stretch_of : Option Piece → Option Piece → Option Stretch
stretch_of minutes (Some (One hour)) = stretch_in_hour minutes hour
stretch_of minutes (Some (Range first last)) = stretch_in_hours minutes first last
stretch_of minutes (Some (RangeNth first last n)) = stretch_at_step minutes first last n
stretch_of minutes (Some (EveryNth n)) = stretch_at_step minutes 0 (24 - n) n
stretch_of minutes (Some Every) = None
stretch_of minutes None = None

-- a unit of a stretch
abbrev pub unit_of : Bool → TimeUnit
unit_of by_hours = if by_hours then Hour else Minute

-- the full hours of the whole day, at a step
abbrev pub is_whole_day : Stretch → Bool
is_whole_day s = s.by_hours && (s.from_hour == 0 && (s.from_minute == 0 && s.to_hour + s.step == 24))

-- from when to when
unfoldable pub ends_text : SummaryLanguage → Stretch → List ℕ
ends_text l s =
    term_text l FromTime ++ (clock_text s.from_hour s.from_minute 0 ++ (term_text l To ++ clock_text s.to_hour s.to_minute 0))

-- the ends, unless it is the whole day
unfoldable pub part_text : SummaryLanguage → Stretch → List ℕ
part_text l s = if is_whole_day s then [] else ends_text l s

unfoldable pub stretch_text : SummaryLanguage → Stretch → List ℕ
stretch_text l s = every_text l s.step (unit_of s.by_hours) ++ part_text l s

-- the minutes at the head of a text: `Every 5 minutes`, `At minutes 0 and 5`
unfoldable pub minutes_head : Style → List Piece → Option Piece → List ℕ
minutes_head style minutes (Some Every) = every_text style.language 1 Minute
minutes_head style minutes (Some (EveryNth n)) = every_text style.language n Minute
minutes_head style minutes (Some (RangeNth first last n)) =
    every_text style.language n Minute ++ (term_text style.language FromMinute ++ span_text style.language Number first last)
minutes_head style minutes (Some (One minute)) = term_text style.language At ++ unit_text style Minute minutes
minutes_head style minutes (Some (Range first last)) = term_text style.language At ++ unit_text style Minute minutes
minutes_head style minutes None = term_text style.language At ++ unit_text style Minute minutes

-- the hours after them: ` of hours 8 and 12`
unfoldable pub of_hours : Style → List Piece → List ℕ
of_hours style hours = term_text style.language Of ++ unit_text style Hour hours

-- minutes of hours that have no form of their own
unfoldable pub minutes_and_hours : Style → List Piece → List Piece → List ℕ
minutes_and_hours style minutes hours = minutes_head style minutes (only_piece minutes) ++ of_hours style hours

-- a step with others beside
unfoldable pub beside_text : Style → ℕ → List Piece → List ℕ
beside_text style n minutes = every_text style.language n Minute ++ (term_text style.language AndAt ++ unit_text style Minute (drop 1 minutes))

-- a list of minutes of each hour, which may begin with a step
unfoldable pub listed_minutes : Style → List Piece → List Piece → Option ℕ → List ℕ
listed_minutes style minutes hours None = minutes_and_hours style minutes hours
listed_minutes style minutes hours (Some n) = beside_text style n minutes ++ of_hours style hours

-- a step goes on to the end of the hour: its next value lies beyond
abbrev pub is_to_the_end : ℕ → ℕ → Bool
is_to_the_end last n = nat_lt 59 (last + n)

-- the minutes of a step: ` from minute 0`, or ` from minute 0 to 40`
unfoldable pub from_minutes : SummaryLanguage → ℕ → ℕ → ℕ → List ℕ
from_minutes l first last n = term_text l FromMinute ++ (if is_to_the_end last n then decimal first else span_text l Number first last)

-- a step of minutes of each hour
unfoldable pub stepped_hourly : Style → ℕ → ℕ → ℕ → List Piece → List ℕ
stepped_hourly style first last n hours =
    every_text style.language n Minute ++ (from_minutes style.language first last n ++ of_hours style hours)

-- minutes of each hour
unfoldable pub each_hour_text : Style → List Piece → List Piece → Option Piece → List ℕ
each_hour_text style minutes hours (Some Every) = every_text style.language 1 Minute
each_hour_text style minutes hours (Some (EveryNth n)) = every_text style.language n Minute
each_hour_text style minutes hours (Some (One minute)) =
    if minute == 0 then every_text style.language 1 Hour else minutes_and_hours style minutes hours
each_hour_text style minutes hours (Some (Range first last)) = minutes_and_hours style minutes hours
each_hour_text style minutes hours (Some (RangeNth first last n)) = stepped_hourly style first last n hours
each_hour_text style minutes hours None = listed_minutes style minutes hours (head_step minutes)

unfoldable pub stretched : Style → List Piece → List Piece → Option Stretch → List ℕ
stretched style minutes hours (Some s) = stretch_text style.language s
stretched style minutes hours None = minutes_and_hours style minutes hours

-- each value
abbrev pub is_every : Option Piece → Bool
is_every (Some Every) = true
is_every other = false

-- minutes and hours, at second 0
unfoldable pub minutes_text : Style → List Piece → List Piece → List ℕ
minutes_text style minutes hours =
    if is_every (only_piece hours) then each_hour_text style minutes hours (only_piece minutes)
    else stretched style minutes hours (stretch_of (only_piece minutes) (only_piece hours))

-- one value
abbrev pub is_one : Piece → Bool
is_one (One n) = true
is_one other = false

abbrev pub is_sole : Option Piece → Bool
is_sole (Some piece) = is_one piece
is_sole None = false

-- which value it is; 0 where it isn't one
abbrev pub value_of : Option Piece → ℕ
value_of (Some (One n)) = n
value_of other = 0

-- single values, six at most: these are told as times of day
unfoldable pub are_times : List Piece → Bool
are_times pieces = nat_le (length pieces) 6 && list_all is_one pieces

-- a time that has no form of its own
unfoldable pub parts_text : Style → List Piece → List Piece → List Piece → List ℕ
parts_text style seconds minutes hours =
    term_text style.language At ++ (unit_text style Second seconds
    ++ (term_text style.language Of ++ (unit_text style Minute minutes ++ of_hours style hours)))

-- at a second that isn't 0
unfoldable pub at_second : SummaryLanguage → ℕ → List ℕ
at_second l second = if second == 0 then [] else term_text l AtSecond ++ decimal second

-- minutes and hours at a second that are no times of day
unfoldable pub untimed : Style → ℕ → List Piece → List Piece → List ℕ
untimed style second minutes hours = minutes_text style minutes hours ++ at_second style.language second

-- times of day
unfoldable pub times_text : Style → Kind → List Piece → List ℕ
times_text style kind pieces = term_text style.language AtTime ++ list_text style kind pieces

-- single minutes of one hour are times of day
unfoldable pub hour_case : Style → ℕ → List Piece → List Piece → Option Piece → List ℕ
hour_case style second minutes hours (Some (One hour)) =
    if are_times minutes then times_text style (MinuteOf hour second) minutes else untimed style second minutes hours
hour_case style second minutes hours other = untimed style second minutes hours

-- and so is one minute of single hours
unfoldable pub minute_case : Style → ℕ → List Piece → List Piece → Option Piece → List ℕ
minute_case style second minutes hours (Some (One minute)) =
    if are_times hours then times_text style (HourAt minute second) hours
    else hour_case style second minutes hours (only_piece hours)
minute_case style second minutes hours other = hour_case style second minutes hours (only_piece hours)

-- seconds of each minute
unfoldable pub seconds_text : Style → List Piece → List Piece → List Piece → Option Piece → List ℕ
seconds_text style seconds minutes hours (Some Every) = every_text style.language 1 Second
seconds_text style seconds minutes hours (Some (EveryNth n)) = every_text style.language n Second
seconds_text style seconds minutes hours other = parts_text style seconds minutes hours

unfoldable pub many_seconds : Style → List Piece → List Piece → List Piece → Option Piece → List ℕ
many_seconds style seconds minutes hours one =
    if is_every (only_piece minutes) && is_every (only_piece hours) then seconds_text style seconds minutes hours one
    else parts_text style seconds minutes hours

-- the times of a day
unfoldable pub second_case : Style → List Piece → List Piece → List Piece → Option Piece → List ℕ
second_case style seconds minutes hours (Some (One second)) = minute_case style second minutes hours (only_piece minutes)
second_case style seconds minutes hours other = many_seconds style seconds minutes hours other

unfoldable pub time_text : Style → List Piece → List Piece → List Piece → List ℕ
time_text style seconds minutes hours = second_case style seconds minutes hours (only_piece seconds)
