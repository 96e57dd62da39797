-- The text of a summary, and whether it tells all.
use Rattle.std.specs.Prelude.{ℕ, nat_le, Bool, not, ◌&&◌, ◌||◌, true, List, ◌++◌, codes, length, Option, Some, None, if◌then◌else◌}
use Rattle.croner_summary.specs.declared.days.Days.{Days}
use Rattle.croner_summary.specs.declared.days.Days.TheVariants.{Every as EveryDay, OfMonth, OfWeek, Either, Both}
use Rattle.croner_summary.specs.declared.days.MonthDays.{MonthDays}
use Rattle.croner_summary.specs.declared.days.Weekdays.{Weekdays}
use Rattle.croner_summary.specs.declared.language.Style.{Style}
use Rattle.croner_summary.specs.declared.language.SummaryLanguage.{SummaryLanguage}
use Rattle.croner_summary.specs.declared.language.Term.{Term}
use Rattle.croner_summary.specs.declared.language.Term.TheVariants.{NoSecond, NoMinute, NoHour, NoMonth, NoYear, NoMonthDay, NoWeekday, NoDay}
use Rattle.croner_summary.specs.declared.phrase.Phrase.{Phrase}
use Rattle.croner_summary.specs.declared.summary.Summary.{Summary}
use Rattle.croner_summary.specs.Words.{only_piece, term_text}
use Rattle.croner_summary.specs.TimeWords.{is_every, time_text}
use Rattle.croner_summary.specs.DayWords.{days_text, has_parts, is_some, names_month_day, names_weekday}
use Rattle.croner_summary.specs.MonthWords.{months_text, years_text}

-- ---- nothing

-- what the days don't name, where they name nothing
unfoldable pub term_of_no_day : Days → Option Term
term_of_no_day EveryDay = None
term_of_no_day (OfMonth d) = if names_month_day d then None else Some NoMonthDay
term_of_no_day (OfWeek w) = if names_weekday w then None else Some NoWeekday
term_of_no_day (Either d w) = if names_month_day d || names_weekday w then None else Some NoDay
term_of_no_day (Both d w) = if not (names_month_day d) then Some NoMonthDay else (if names_weekday w then None else Some NoWeekday)

-- the first field that names nothing
unfoldable pub term_of_nothing : Summary → Option Term
term_of_nothing s =
    if not (is_some s.seconds) then Some NoSecond
    else (if not (is_some s.minutes) then Some NoMinute
    else (if not (is_some s.hours) then Some NoHour
    else (if not (is_some s.months) then Some NoMonth
    else (if not (is_some s.years) then Some NoYear else term_of_no_day s.days))))

-- ---- the text in a style

-- the months and the years: ` in May, in 2026`
unfoldable pub season_text : Style → Summary → List ℕ
season_text style s = months_text style s.months.pieces.items ++ years_text style s.years.pieces.items

-- days in several parts, and only in some months or years. After the last part these would seem to be its own
unfoldable pub is_season_first : Summary → Bool
is_season_first s =
    has_parts s.days && not (is_every (only_piece s.months.pieces.items) && is_every (only_piece s.years.pieces.items))

-- the dates: ` on the 25th in May`; in several parts ` in May: on the 25th and on each Friday`
unfoldable pub date_text : Style → Summary → List ℕ
date_text style s =
    if is_season_first s then season_text style s ++ (codes ":" ++ days_text style s.days)
    else days_text style s.days ++ season_text style s

unfoldable pub some_text : Style → Summary → List ℕ
some_text style s = time_text style s.seconds.pieces.items s.minutes.pieces.items s.hours.pieces.items ++ date_text style s

-- the text, or that nothing is named
abbrev pub text_or : Style → Summary → Option Term → List ℕ
text_or style s None = some_text style s
text_or style s (Some term) = term_text style.language term

-- the text of a summary in a style: what it says, or that nothing is named
unfoldable pub styled_text : Style → Summary → List ℕ
styled_text style s = text_or style s (term_of_nothing s)

-- ---- its length

-- the style of a text that tells all
abbrev pub whole_style : SummaryLanguage → Style
whole_style l = record { language = l; most = 400 }

-- the style of a text that is cut: it tells three pieces of each list
abbrev pub cut_style : SummaryLanguage → Style
cut_style l = record { language = l; most = 3 }

-- the text that tells all has 400 bytes at most
unfoldable pub is_short : SummaryLanguage → Summary → Bool
is_short l s = nat_le (length (styled_text (whole_style l) s)) 400

-- the text of a summary: all, or cut where that is longer than 400 bytes
unfoldable pub text_of : SummaryLanguage → Summary → List ℕ
text_of l s = if is_short l s then styled_text (whole_style l) s else styled_text (cut_style l) s

-- ---- whether it tells all

-- the phrase has no more pieces than a cut text tells
unfoldable pub is_told : Phrase → Bool
is_told p = nat_le (length p.pieces.items) 3

unfoldable pub is_week_told : Weekdays → Bool
is_week_told w =
    is_told w.each && (is_told w.first && (is_told w.second && (is_told w.third && (is_told w.fourth && (is_told w.fifth && is_told w.last)))))

unfoldable pub is_month_told : MonthDays → Bool
is_month_told d = is_told d.numbers && is_told d.nearest

unfoldable pub are_days_told : Days → Bool
are_days_told EveryDay = true
are_days_told (OfMonth d) = is_month_told d
are_days_told (OfWeek w) = is_week_told w
are_days_told (Either d w) = is_month_told d && is_week_told w
are_days_told (Both d w) = is_month_told d && is_week_told w

-- no list has more
unfoldable pub are_all_told : Summary → Bool
are_all_told s =
    is_told s.seconds && (is_told s.minutes && (is_told s.hours && (are_days_told s.days && (is_told s.months && is_told s.years))))

-- the text leaves nothing out
unfoldable pub is_whole : SummaryLanguage → Summary → Bool
is_whole l s = are_all_told s || is_short l s
