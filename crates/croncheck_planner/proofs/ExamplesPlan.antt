-- Worked rows of plans: how much of what was found a list has, and how it ends.
use Rattle.std.proofs.Common.{◌≡◌, ℕ, ℤ, pos, Bool, List, [], ◌∷◌, true, false, Option, None, Some, refl}
use Rattle.std.specs.Fmt.{digits}
use Rattle.std.specs.Prelude.{codes}
use Rattle.crontab.specs.Line.{Line, never, job}
use Rattle.cronplan.specs.declared.start.JobStart.{JobStart}
use Rattle.cronplan_forms.specs.declared.asked.PlanAsked.{PlanAsked}
use Rattle.croncheck_changes.specs.declared.changes.Fate.{Fate}
use Rattle.croncheck_changes.specs.declared.changes.Fate.TheVariants as fates
use Rattle.croncheck_changes.specs.declared.changes.Range.TheVariants as ranges
use Rattle.croncheck_changes.specs.declared.changes.meetings.Met.{Met}
use Rattle.croncheck_runs.specs.declared.runs.Listing.TheVariants as listings
use Rattle.croncheck_planner.specs.Dropped.{dropped_from}
use Rattle.croncheck_planner.specs.Plan.{first_after, end_after, whole_end, end_up_to, starts_within}
use Rattle.croncheck_planner.specs.PlanAnswers.{clock_head, unfollowed_text}
use Rattle.croncheck_planner.specs.PlanList.{over_text, more_text, whose_by_kinds, line_text}
use Rattle.croncheck_planner.specs.Planner.{label_text, planned_ending, with_number}
use Rattle.croncheck_output.specs.Escaped.{shown_from}

-- ---- a line of a list

abbrev of : List ℕ → Line
of command = job (record { times = never; schedule = codes "0 5 * * *"; user = None; command = command })

-- a list, with commands or without
abbrev a_list : Bool → PlanAsked
a_list has_commands = record { has_commands = has_commands; questions = record { week = None; month = false; quiet = None; busy = None; together = false }; most_a_day = Some 12; file = None }

without_its_command : label_text (a_list false) (codes "a") 5 (codes "nightly") (of (codes "b c")) ≡ codes "  a:5  nightly"
unfolding digits shown_from lib.Utf8.encode
without_its_command = refl

with_its_command : label_text (a_list true) (codes "a") 5 (codes "nightly") (of (codes "b c")) ≡ codes "  a:5  nightly  b c"
unfolding digits shown_from lib.Utf8.encode
with_its_command = refl

a_command_alone : label_text (a_list true) (codes "a") 5 (codes "b") (of (codes "b")) ≡ codes "  a:5  b"
unfolding digits shown_from lib.Utf8.encode
a_command_alone = refl

-- ---- a list

abbrev start_of : ℤ → ℕ → ℕ → JobStart
start_of second place count = record { second = second; job = place; count = count; wall = second }

-- three starts at two moments
abbrev starts : List JobStart
starts = start_of (pos 5) 0 1 ∷ start_of (pos 5) 1 2 ∷ start_of (pos 7) 0 1 ∷ []

of_no_moment : starts_within 0 None starts ≡ 0
of_no_moment = refl

-- all that start at a second belong to its moment
of_one_moment : starts_within 1 None starts ≡ 2
of_one_moment = refl

of_three_moments : starts_within 3 None starts ≡ 3
of_three_moments = refl

a_line : line_text (codes "  a:1  b" ∷ codes "  a:2  c" ∷ []) (start_of (pos 5) 0 1) ≡ codes "  a:1  b\n"
a_line = refl

started_twice : line_text (codes "  a:1  b" ∷ codes "  a:2  c" ∷ []) (start_of (pos 5) 1 2) ≡ codes "  a:2  c  2 times\n"
unfolding digits
started_twice = refl

of_crontabs : whose_by_kinds true false ≡ codes "these are cron's starts\n"
of_crontabs = refl

of_patterns : whose_by_kinds false true ≡ codes "these are croner's runs\n"
of_patterns = refl

-- ---- its span

-- the start isn't in it, and the second up to which starts are asked is
from_the_next_second : first_after (pos 5) ≡ pos 6
from_the_next_second = refl

up_to_a_second : end_up_to (pos 9) (pos 100) ≡ pos 10
up_to_a_second = refl

up_to_the_window : end_up_to (pos 100) (pos 100) ≡ pos 100
up_to_the_window = refl

-- a second before the start
up_to_a_past_second : end_after (pos 5) (pos 3) ≡ pos 6
up_to_a_past_second = refl

after_its_last_second : whole_end (Some (pos 9)) ≡ pos 10
after_its_last_second = refl

-- ---- its end

no_job_starts : over_text true ≡ codes "no job starts: no start is left before year 5000\n"
no_job_starts = refl

no_start_is_left : over_text false ≡ codes "no more: no start is left before year 5000\n"
no_start_is_left = refl

none_up_to_a_second : more_text (listings.Until (pos 5)) true ≡ codes "no start up to then\n"
none_up_to_a_second = refl

none_asked : more_text (listings.Count 0) true ≡ []
none_asked = refl

-- ---- answers

above_answers : clock_head (codes "Europe/Paris") ≡ codes "on the clock of Europe/Paris:\n"
unfolding clock_head
above_answers = refl

in_place_of_answers : unfollowed_text (codes "Europe/Paris") ≡ codes "the clock of Europe/Paris isn't followed in these days\n"
unfolding unfollowed_text
in_place_of_answers = refl

-- ---- jobs that lack a start

-- what becomes of the start at 02:00 in Stockholm on 2025-03-30, where the clock goes on to 03:00
abbrev in_spring : Fate → Option Met
in_spring fate = Some (record {
  meeting = record {
    change = record { instant = pos 1_743_296_400; before = pos 1_743_300_000; after = pos 1_743_303_600 };
    range = ranges.Gap;
    second = pos 1_743_300_000;
    fate = fate;
  };
  is_due_beside = false;
})

-- of four jobs the second one lacks it: the others have none there, or it is made up for
one_of_four : dropped_from 0 (None ∷ in_spring fates.LeftOut ∷ in_spring fates.Moved ∷ None ∷ []) ≡ record { job = 1; second = pos 1_743_296_400 } ∷ []
one_of_four = refl

two_of_three : dropped_from 0 (in_spring fates.LeftOut ∷ None ∷ in_spring fates.LeftOut ∷ [])
    ≡ record { job = 0; second = pos 1_743_296_400 } ∷ record { job = 2; second = pos 1_743_296_400 } ∷ []
two_of_three = refl

of_no_job : dropped_from 0 [] ≡ []
of_no_job = refl

-- ---- the end of a file

a_file_that_cron_takes : planned_ending true [] ≡ []
a_file_that_cron_takes = refl

a_file_that_cron_ignores : planned_ending true (codes "a: cron ignores the whole file\n")
    ≡ codes "a: cron ignores the whole file\n  its jobs are in this plan, as cron would start them once that is mended\n"
a_file_that_cron_ignores = refl

-- none of its jobs is in the plan
one_without_jobs : planned_ending false (codes "a: cron ignores the whole file\n") ≡ codes "a: cron ignores the whole file\n"
one_without_jobs = refl

-- the third file is ignored, as the first is; its next line changes nothing
one_more_file : with_number 3 (1 ∷ []) ≡ 1 ∷ 3 ∷ []
one_more_file = refl

one_more_line : with_number 3 (1 ∷ 3 ∷ []) ≡ 1 ∷ 3 ∷ []
one_more_line = refl
