-- Worked rows of a plan's calendar, computed from the definitions.
use Rattle.std.proofs.Common.{◌≡◌, ℕ, Bool, true, false, List, [], ◌∷◌, refl}
use Rattle.std.specs.Borrow.{Bor}
use Rattle.std.specs.Fmt.{digits}
use Rattle.std.specs.List.{list_any}
use Rattle.std.specs.Prelude.{codes}
use Rattle.cronplan_forms.specs.declared.calendar.Calendar.{Calendar}
use Rattle.cronplan_forms.specs.declared.job.Job.{Job}
use Rattle.cronplan_forms.specs.Calendars.{description_text, words_text}
use Rattle.cronplan_forms.specs.PlanCalendars.{equal_before, is_ignored, is_same_job}

abbrev text : List ℕ → Bor (List ℕ)
text bytes = record { ref_ptr = (0, 0); now = bytes }

-- a job of a user, with these times and this command
abbrev job : List ℕ → List ℕ → List ℕ → List ℕ → Job
job title user times command = record { title = text title; words = text []; file = text []; line = 1; user = text user; times = text times; command = text command; is_ignored = false; equal = 0 }

-- the first and the fourth are the same, whatever they are called; another user's, another time's and another command's aren't
abbrev jobs : List Job
jobs = job (codes "a") (codes "root") (codes "0 3 * * *") (codes "x") ∷ job (codes "b") (codes "www") (codes "0 3 * * *") (codes "x")
    ∷ job (codes "c") (codes "root") (codes "0 4 * * *") (codes "x") ∷ job (codes "d") (codes "root") (codes "0 3 * * *") (codes "x") ∷ []

abbrev asked : Job
asked = job (codes "d") (codes "root") (codes "0 3 * * *") (codes "x")

equal : (equal_before 0 asked jobs ≡ 0) × (equal_before 1 asked jobs ≡ 1) × (equal_before 3 asked jobs ≡ 1) × (equal_before 4 asked jobs ≡ 2)
equal = (refl, refl, refl, refl)

another_command : is_same_job asked (job (codes "d") (codes "root") (codes "0 3 * * *") (codes "y")) ≡ false
another_command = refl

-- ---- files that cron ignores

-- a job of such a file, and one of another
abbrev nightly : Bool → Job
nightly is_ignored = record asked { words = text (codes "At 03:00"); file = text (codes "night"); line = 4; is_ignored = is_ignored }

of_an_ignored_file : words_text (nightly true) ≡ codes "At 03:00\nnight:4\nCron ignores this file, and doesn't start the job until the file is mended."
unfolding words_text digits
of_an_ignored_file = refl

of_another_file : words_text (nightly false) ≡ codes "At 03:00\nnight:4"
unfolding words_text digits
of_another_file = refl

some_ignored : (list_any is_ignored (nightly false ∷ nightly true ∷ []) ≡ true) × (list_any is_ignored (nightly false ∷ []) ≡ false)
some_ignored = (refl, refl)

-- a calendar that leaves nothing out
a_calendar_of_it : (c : Calendar) → c.left_out.now ≡ [] → c.has_ignored ≡ true → c.starts ≡ 1
    → description_text c ≡ codes "cron ignores the files of some of these jobs, and starts none of those: their events say so\n"
unfolding description_text
a_calendar_of_it c left_out has_ignored starts = rw (left_out, has_ignored, starts) refl
