-- Worked rows of the clock of a second zone, and of jobs that lack a start, computed from the definitions.
use Rattle.std.proofs.Common.{◌≡◌, pos, [], ◌∷◌, arith, refl}
use Rattle.std.specs.Prelude.{codes}
use Rattle.std.specs.Char.{encode_utf8}
use Rattle.std.specs.Fmt.{digits}
use Rattle.std.specs.Str.{chars}
use Rattle.croner_base.specs.declared.time.civil.Weekday.TheVariants as weekdays
use Rattle.cronplan_forms.specs.declared.beside.Beside.TheVariants as besides
use Rattle.cronplan_forms.specs.declared.clock.ClockTime.{ClockTime}
use Rattle.cronplan_forms.specs.declared.job.Job.{Job}
use Rattle.cronplan_forms.specs.declared.view.Dropped.{Dropped}
use Rattle.cronplan_forms.specs.Answers.{job_name, label_text, quoted_title}
use Rattle.cronplan_forms.specs.Besides.{beside_text, shown_time_text}
use Rattle.cronplan_forms.specs.Weeks.{dropped_at, dropped_line, dropped_lines}

-- when Stockholm's clock is put forward in 2027: what it shows, and what Helsinki's does
abbrev stockholm : ClockTime
stockholm = record {
  second = pos 1_806_195_600;
  weekday = weekdays.Sunday;
  civil = record {
    date = record { year = pos 2_027; month = 3; day = 28; real = ((omega arith, omega arith), (omega arith, omega arith)) };
    time = record { hour = 3; minute = 0; second = 0; hour_in = omega arith; minute_in = omega arith; second_in = omega arith };
  };
  ahead = record { seconds = pos 7_200 };
}

abbrev helsinki : ClockTime
helsinki = record {
  second = pos 1_806_195_600;
  weekday = weekdays.Sunday;
  civil = record {
    date = record { year = pos 2_027; month = 3; day = 28; real = ((omega arith, omega arith), (omega arith, omega arith)) };
    time = record { hour = 4; minute = 0; second = 0; hour_in = omega arith; minute_in = omega arith; second_in = omega arith };
  };
  ahead = record { seconds = pos 10_800 };
}

both : shown_time_text (record { own = stockholm; beside = besides.Shown helsinki }) ≡ codes "Sun 2027-03-28 03:00:00 +02:00 = Sun 2027-03-28 04:00:00 +03:00"
unfolding digits
both = refl

one_clock : shown_time_text (record { own = stockholm; beside = besides.Nothing }) ≡ codes "Sun 2027-03-28 03:00:00 +02:00"
unfolding digits
one_clock = refl

not_followed : beside_text besides.Unfollowed ≡ []
not_followed = refl

-- ---- jobs that lack a start

a_dropped_job : (job : Job) → label_text job ≡ codes "a:3" → job.title.now ≡ codes "dump" → dropped_line (job ∷ []) 0 ≡ codes "  not made up for: a:3 'dump'\n"
unfolding dropped_line job_name quoted_title chars encode_utf8
a_dropped_job job label title = rw (label, title) refl

-- one that lacks it at another change
abbrev elsewhere : Dropped
elsewhere = record { job = 0; second = pos 7_200 }

at_another_change : dropped_lines [] (record { second = pos 3_600; before = pos 7_199; shown = pos 10_800 }) (elsewhere ∷ []) ≡ []
unfolding dropped_lines
at_another_change = refl
