-- Worked rows of a page, computed from the definitions.
use Rattle.std.proofs.Common.{◌≡◌, ℕ, pos, negsuc, true, false, Some, None, List, [], ◌∷◌, refl}
use Rattle.std.specs.Prelude.{codes}
use Rattle.std.specs.Char.{encode_utf8}
use Rattle.std.specs.Fmt.{digits}
use Rattle.std.specs.Str.{chars}
use Rattle.cronplan.specs.declared.days.HourCell.{HourCell}
use Rattle.cronplan.specs.declared.frequent.Frequent.{Frequent}
use Rattle.cronplan.specs.declared.start.JobStart.{JobStart}
use Rattle.cronplan.specs.declared.windows.Bound.{Bound}
use Rattle.cronplan.specs.declared.windows.Bound.TheVariants as bounds
use Rattle.cronplan.specs.declared.windows.Window.{Window}
use Rattle.cronplan_forms.specs.Escapes.{escaped_text}
use Rattle.cronplan_forms.specs.Frequents.{frequent_count}
use Rattle.cronplan_page.specs.declared.pieces.Piece.TheVariants as pieces
use Rattle.cronplan_page.specs.Fullest.{name_at}
use Rattle.cronplan_page.specs.Markup.{element, list_of}
use Rattle.cronplan_page.specs.Pieces.{piece_text}
use Rattle.cronplan_page.specs.Pages.{followed_text, other_text}
use Rattle.cronplan_page.specs.Quiet.{longer_text}
use Rattle.cronplan_page.specs.TimeLines.{part_of, count_at}
use Rattle.cronplan_page.specs.Weeks.{step_of, count_text, cell_text}
use Rattle.cronplan_page.specs.Words.{many_text, name_of_date}

-- a title that would begin an element of its own
a_forged_element : element pieces.Name (codes "</h1><script>") pieces.NameEnd ≡ codes "<h1>&lt;/h1&gt;&lt;script&gt;</h1>\n"
unfolding element piece_text escaped_text chars encode_utf8
a_forged_element = refl

-- one start, and others
counts : (many_text 1 (codes "start") ≡ codes "1 start") × (many_text 0 (codes "start") ≡ codes "0 starts") × (many_text 12 (codes "start") ≡ codes "12 starts")
unfolding many_text digits
counts = (refl, refl, refl)

-- a date that the calendar doesn't have
no_date : name_of_date 4 (negsuc 0) None ≡ codes "day -1"
unfolding digits
no_date = refl

-- a second zone whose clock isn't followed
not_followed : followed_text None (codes "<b>") ≡ codes " (the clock of &lt;b&gt; isn't followed in these days)"
unfolding element piece_text escaped_text chars encode_utf8
not_followed = refl

no_second_zone : other_text None ≡ []
no_second_zone = refl

-- an empty list is what is said in its place
empty_list : list_of true pieces.NoChange [] ≡ codes "<p>The clock goes on evenly in these days.</p>\n"
unfolding list_of piece_text
empty_list = refl

-- ---- hours

-- a step more at 1, 2, 4 and so on, as in the picture of text: 3 starts are of the second step, 4 of the third, 127 of the seventh
steps : (step_of 0 ≡ 0) × (step_of 1 ≡ 1) × (step_of 2 ≡ 2) × (step_of 3 ≡ 2) × (step_of 4 ≡ 3) × (step_of 8 ≡ 4) × (step_of 127 ≡ 7) × (step_of 128 ≡ 8)
steps = (refl, refl, refl, refl, refl, refl, refl, refl)

-- an hour with five starts, and one with none
five_in_an_hour : count_text [] 5 ≡ codes "<td class=\"s3\">5</td>"
unfolding count_text digits
five_in_an_hour = refl

none_in_an_hour : count_text (codes "t ") 0 ≡ codes "<td class=\"t s0\"></td>"
unfolding count_text
none_in_an_hour = refl

-- one that the clock skips, one that it shows twice, one that isn't in the plan, and another
abbrev hour : HourCell
hour = record { starts = 3; skipped = false; repeated = false; outside = false }

hours : (cell_text (record hour { skipped = true }) ≡ codes "<td class=\"x\">x</td>") × (cell_text (record hour { repeated = true }) ≡ codes "<td class=\"t s2\">3</td>")
    × (cell_text (record hour { outside = true }) ≡ codes "<td class=\"x\">-</td>") × (cell_text hour ≡ codes "<td class=\"s2\">3</td>")
unfolding count_text piece_text digits
hours = (refl, refl, refl, refl)

-- ---- windows and lines of time

-- a window up to the end of the span may be longer, and one between two starts isn't
abbrev window : Bound → Window
window bound = record { from = record { second = pos 0; bound = bounds.Start }; until = record { second = pos 60; bound = bound } }

longer : (longer_text (window bounds.Span) ≡ codes ", or longer") × (longer_text (window bounds.Start) ≡ [])
longer = (refl, refl)

-- the middle of a week, its last second, and its end
parts : (part_of 302_400 604_800 ≡ 500) × (part_of 604_799 604_800 ≡ 999) × (part_of 604_800 604_800 ≡ 1_000) × (part_of 0 0 ≡ 1_000)
parts = (refl, refl, refl, refl)

-- ---- jobs

abbrev start : ℕ → ℕ → ℕ → JobStart
start second job count = record { second = pos second; job = job; count = count; wall = pos second }

-- of the starts of two jobs those of one, which is started twice at one second
own_counts : (count_at 1 (start 0 0 1 ∷ start 0 1 2 ∷ start 60 1 1 ∷ []) ≡ 3) × (count_at 2 (start 0 0 1 ∷ []) ≡ 0)
own_counts = (refl, refl)

-- a job that isn't shown, and one that is
abbrev frequent : List Frequent
frequent = record { job = 2; starts = 1_440 } ∷ []

frequent_jobs : (frequent_count frequent 2 ≡ Some 1_440) × (frequent_count frequent 1 ≡ None)
frequent_jobs = (refl, refl)

-- a start at another second has no name there
elsewhere : name_at [] (pos 60) (start 0 0 1) ≡ []
elsewhere = refl
