-- Rows of what calls answer and write, computed.
use Rattle.std.proofs.Common.{◌≡◌, refl, ℕ, pos, negsuc, true, false, List, [], ◌∷◌, codes, Some, None, Ok, Err}
use Rattle.croner.specs.parser.Settings.{default_settings}
use Rattle.croner.specs.declared.parser.Seconds.TheVariants as seconds
use Rattle.croner.specs.declared.parser.Year.TheVariants as year
use Rattle.std.specs.Fmt.{digits}
use Rattle.crontab.specs.Line.{entry_of}
use Rattle.crontab.specs.declared.line.Dialect.TheVariants as dialects
use Rattle.croner_c.specs.Answers.{told}
use Rattle.croner_c.specs.Clocks.{is_window}
use Rattle.croner_c.specs.Descriptions.{tell_text}
use Rattle.croner_c.specs.Lines.{row_of, row_of_kind, row_with_fault, tell_line}
use Rattle.croner_c.specs.Listings.{bound_of, reason_past, tell_runs}
use Rattle.croner_c.specs.Patterns.{settings_of, mark_of}
use Rattle.croner_c.specs.Searches.{tell_run, tell_mark}
use Rattle.croner_c.specs.Zones.{change_of, tell_clock}
use Rattle.croner_c.specs.declared.line.Line.{Line as Row}
use Rattle.croner_c.specs.declared.status.Reason.TheVariants as reasons
use Rattle.crontab.specs.declared.line.Fault.TheVariants as faults

-- ---- settings, marks and windows

-- 0 is what the parser takes where nothing is chosen
no_settings : settings_of 0 ≡ Ok default_settings
no_settings = refl

-- each of the bits is a choice
all_settings : settings_of 121 ≡ Ok (record { seconds_field = seconds.Required; year_field = year.Disallowed; both_days = true; quartz = true; sloppy = true })
all_settings = refl

-- both bits for the second, both for the year, and a bit that has no meaning
seconds_both_ways : settings_of 3 ≡ Err reasons.BadArgument
seconds_both_ways = refl

years_both_ways : settings_of 12 ≡ Err reasons.BadArgument
years_both_ways = refl

unknown_setting : settings_of 128 ≡ Err reasons.BadArgument
unknown_setting = refl

-- a mark is 0 or 1
mark_of_two : mark_of (pos 2) ≡ Err reasons.BadArgument
mark_of_two = refl

-- a window of one second, one that ends before it begins, and one that begins a second too early
one_second : is_window (pos 0) (pos 0) ≡ true
one_second = refl

ends_before : is_window (pos 1) (pos 0) ≡ false
ends_before = refl

begins_early : is_window (negsuc 377_610_508_800) (pos 0) ≡ false
begins_early = refl

begins_at_the_first : is_window (negsuc 377_610_508_799) (pos 253_307_692_799) ≡ true
begins_at_the_first = refl

ends_late : is_window (pos 0) (pos 253_307_692_800) ≡ false
ends_late = refl

-- ---- what is told

-- a run is written; without one nothing is, and the status says why
run_told : told tell_run (Ok (pos 60)) (pos 7) ≡ (pos 0, pos 60)
run_told = refl

no_run_told : told tell_run (Err reasons.Outside) (pos 7) ≡ (pos 4, pos 7)
no_run_told = refl

mark_told : told tell_mark (Ok false) (pos 7) ≡ (pos 0, pos 0)
mark_told = refl

-- a text of three bytes, where there is room for two and for four
text_cut : told tell_text (Ok (codes "abc")) (codes "12", 9) ≡ (pos 0, (codes "ab", 3))
text_cut = refl

text_with_room : told tell_text (Ok (codes "abc")) (codes "1234", 9) ≡ (pos 0, (codes "abc4", 3))
text_with_room = refl

-- a listing that ends outside the window, and one with no room
runs_told : told tell_runs (Ok (record { second = pos 60 } ∷ [], Some reasons.Outside)) (record { second = pos 1 } ∷ record { second = pos 2 } ∷ [], 9)
    ≡ (pos 4, (record { second = pos 60 } ∷ record { second = pos 2 } ∷ [], 1))
runs_told = refl

no_runs_told : told tell_runs (Ok ([], None)) ([], 9) ≡ (pos 0, ([], 0))
no_runs_told = refl

-- a clock of one change, where there is room for none
clock_cut : told tell_clock (Ok (pos 3600, change_of (pos 0, pos 7200) ∷ [])) ([], (pos 1, 9)) ≡ (pos 7, ([], (pos 3600, 1)))
clock_cut = refl

-- ---- listings

-- up to the second that was asked for, or to the window's last one
asked_for : bound_of (pos 5) (pos 9) ≡ pos 5
asked_for = refl

last_of_window : bound_of (pos 10) (pos 9) ≡ pos 9
last_of_window = refl

-- at the window's last second itself nothing outside was asked for
at_the_end : reason_past (pos 9) (pos 9) ≡ None
at_the_end = refl

past_the_end : reason_past (pos 10) (pos 9) ≡ Some reasons.Outside
past_the_end = refl

-- ---- lines

-- the row of a line in a user's crontab, and in the system's
abbrev row : List ℕ → Row
row line = row_of false line (entry_of dialects.User line)

abbrev system_row : List ℕ → Row
system_row line = row_of true line (entry_of dialects.System line)

comment_line : row (codes " # x") ≡ row_of_kind (pos 1)
comment_line = refl

setting_line : row (codes "A=b") ≡ row_of_kind (pos 2)
setting_line = refl

job_line : row (codes " 5 4 * * 1  ls -l") ≡ record (row_of_kind (pos 3)) { schedule_begin = 1; schedule_end = 10; command_begin = 12; command_end = 17 }
unfolding digits
job_line = refl

user_line : system_row (codes "@daily root ls") ≡ record (row_of_kind (pos 3)) { schedule_begin = 0; schedule_end = 6; user_begin = 7; user_end = 11; command_begin = 12; command_end = 14 }
user_line = refl

refused_line : row (codes "5 24 * * * ls") ≡ row_with_fault faults.Hours 2 4
refused_line = refl

-- a refused line has status 1, and a job's 0
refused_told : told tell_line (Ok (row (codes "5 24 * * * ls"))) (row_of_kind (pos 0)) ≡ (pos 1, row_with_fault faults.Hours 2 4)
refused_told = refl

comment_told : told tell_line (Ok (row (codes "#"))) (row_of_kind (pos 0)) ≡ (pos 0, row_of_kind (pos 1))
comment_told = refl
