-- Worked rows of what a plan answers, computed from the definitions.
use Rattle.std.proofs.Common.{◌≡◌, ◌<◌, ℕ, pos, true, false, [], ◌∷◌, ◌++◌, arith, refl}
use Rattle.std.specs.Char.{encode_utf8}
use Rattle.std.specs.Fmt.{digits}
use Rattle.std.specs.Prelude.{codes}
use Rattle.std.specs.Str.{chars}
use Rattle.croner_base.specs.declared.time.civil.Weekday.TheVariants as weekdays
use Rattle.cronplan.specs.declared.windows.Bound.{Bound}
use Rattle.cronplan.specs.declared.windows.Bound.TheVariants as bounds
use Rattle.cronplan_forms.specs.declared.answers.quiet.ShownWindow.{ShownWindow}
use Rattle.cronplan_forms.specs.declared.clock.ClockTime.{ClockTime}
use Rattle.cronplan_forms.specs.declared.job.Job.{Job}
use Rattle.cronplan_forms.specs.Answers.{starts_text, hour_line, times_text, job_name, joined, joined_after, added_name, label_text, quoted_title, busy_text, cut_line, no_moment, no_window, silence_text, window_text}
use Rattle.cronplan_forms.specs.Apart.{set_apart}
use Rattle.cronplan_forms.specs.Clocks.{ahead_text, clock_text, lasting_text}
use Rattle.cronplan_forms.specs.DateNames.{short_month_name}
use Rattle.cronplan_forms.specs.Weeks.{is_put_forward}

one_start : starts_text 1 ≡ codes "1 start"
one_start = refl

two_starts : starts_text 2 ≡ codes "2 starts"
unfolding digits
two_starts = refl

an_hour_without_a_start : hour_line 5 0 ≡ []
an_hour_without_a_start = refl

half_past_two : clock_text 9_000 ≡ codes "02:30"
unfolding digits
half_past_two = refl

two_hours_ahead : ahead_text (pos 7_200) ≡ codes "+02:00"
unfolding digits
two_hours_ahead = refl

march : short_month_name 3 ≡ codes "Mar"
march = refl

two_jobs : (one other : Job) → label_text one ≡ codes "a:1" → one.title.now ≡ codes "dump" → label_text other ≡ codes "b:2" → other.title.now ≡ codes "copy"
    → joined (one ∷ other ∷ []) (0 ∷ 1 ∷ []) ≡ codes "a:1 'dump' + b:2 'copy'"
unfolding joined_after added_name job_name quoted_title chars encode_utf8
two_jobs one other label title other_label other_title = rw (label, title, other_label, other_title) refl

at_one_moment : times_text 1 ≡ codes "  once"
at_one_moment = refl

at_seven_moments : times_text 7 ≡ codes "  7 times"
unfolding digits
at_seven_moments = refl

-- ---- windows

-- 2027-03-28, a Sunday, at an hour of it, on a clock that is two hours ahead
abbrev at_hour : (hour : ℕ) → hour < 24 → ℕ → ClockTime
at_hour hour held second = record {
  second = pos second;
  weekday = weekdays.Sunday;
  civil = record {
    date = record { year = pos 2_027; month = 3; day = 28; real = ((omega arith, omega arith), (omega arith, omega arith)) };
    time = record { hour = hour; minute = 30; second = 0; hour_in = held; minute_in = omega arith; second_in = omega arith };
  };
  ahead = record { seconds = pos 7_200 };
}

-- from 03:30 to 09:30, between two starts, and where the plan ends with it
abbrev window : Bound → ShownWindow
window end = record {
  window = record { from = record { second = pos 1_806_197_400; bound = bounds.Start }; until = record { second = pos 1_806_219_000; bound = end } };
  from = at_hour 3 (omega arith) 1_806_197_400;
  until = at_hour 9 (omega arith) 1_806_219_000;
}

windows : (window_text (window bounds.Start) ≡ codes "Sun 2027-03-28 03:30:00 +02:00 to Sun 2027-03-28 09:30:00 +02:00  " ++ (lasting_text 21_600 ++ []))
    × (window_text (window bounds.Span) ≡ codes "Sun 2027-03-28 03:30:00 +02:00 to Sun 2027-03-28 09:30:00 +02:00  " ++ (lasting_text 21_600 ++ codes " or longer"))
unfolding digits
windows = (refl, refl)

-- an empty line stands between two answers, and none around one
two_answers : set_apart (codes "a\n") (codes "b\n") ≡ codes "a\n\nb\n"
two_answers = refl

the_second_alone : set_apart [] (codes "b\n") ≡ codes "b\n"
the_second_alone = refl

the_first_alone : set_apart (codes "a\n") [] ≡ codes "a\n"
the_first_alone = refl

-- where jobs are left out, more than nothing starts
silence : (silence_text true ≡ codes "nothing starts") × (silence_text false ≡ codes "nothing starts but what is left out")
silence = (refl, refl)

no_long_window : no_window false 2_700 ≡ codes "no window of " ++ (lasting_text 2_700 ++ codes " or longer in which nothing starts but what is left out\n")
unfolding no_window
no_long_window = refl

no_start : busy_text true [] [] ≡ codes "no moment: nothing starts\n"
unfolding no_moment
no_start = refl

not_cut : cut_line false ≡ []
not_cut = refl

-- 01:59:59 is followed by 03:00:00; and 02:59:59 by 02:00:00
forward : is_put_forward (record { second = pos 0; before = pos 7_199; shown = pos 10_800 }) ≡ true
forward = refl

back : is_put_forward (record { second = pos 0; before = pos 10_799; shown = pos 7_200 }) ≡ false
back = refl
