-- Worked rows of how often a job starts: the span, the counts, the distances, and how far is counted.
use Rattle.std.proofs.Common.{◌≡◌, ◌∙◌, ◌≤◌, ℕ, ℤ, pos, Bool, true, cond, ap, [], ◌∷◌, Some, None, false, refl, arith}
use Rattle.std.proofs.lemmas.List.Elements.{All-nil, All-cons}
use Rattle.std.specs.Ordering.{int_eq}
use Rattle.cronplan.specs.Counts.{date_of}
use Rattle.croncheck_often.specs.declared.often.Reach.TheVariants as reaches
use Rattle.croncheck_runs.specs.declared.runs.End.TheVariants as ends
use Rattle.croncheck_runs.specs.declared.runs.Listing.TheVariants as listings
use Rattle.croncheck_runs.specs.declared.runs.Run.{Run}
use Rattle.croncheck_often.specs.Often.{span_end, starts_in, date_of_run, added_on, starts_on, distances, IsShortest, reach_of, last_of, last_counted}

-- from 2027-03-26T12:00:00 in Stockholm seven days on, which end at 13:00 by its clock; and up to a second that is given
seven_days : span_end (pos 1_806_058_800) (listings.Count 3) ≡ pos 1_806_663_600
seven_days = refl

up_to_a_second : span_end (pos 1_806_058_800) (listings.Until (pos 1_806_271_199)) ≡ pos 1_806_271_199
up_to_a_second = refl

-- `0,30 2 * * *` there: at 02:00 and 02:30 of 27 March, and twice at 03:00 of 28 March, when the clock has skipped both
the_27th : date_of (pos 1_806_114_600) ≡ pos 20_904
the_27th = refl

the_28th : date_of (pos 1_806_202_800) ≡ pos 20_905
the_28th = refl

added_there : (date : ℤ) (run : Run) (n : ℕ) → date_of_run run ≡ date → int_eq date date ≡ true → run.count ≡ n → added_on date run ≡ n
added_there date run n at same count = ap (λ (d : ℤ). cond (int_eq d date) run.count 0) at ∙ ap (λ (b : Bool). cond b run.count 0) same ∙ count

added_elsewhere : (date other : ℤ) (run : Run) → date_of_run run ≡ other → int_eq other date ≡ false → added_on date run ≡ 0
added_elsewhere date other run at differs = ap (λ (d : ℤ). cond (int_eq d date) run.count 0) at ∙ ap (λ (b : Bool). cond b run.count 0) differs

module _ (first second both : Run) (once : first.count ≡ 1) (once_more : second.count ≡ 1) (twice : both.count ≡ 2) where
  four_starts : starts_in (first ∷ second ∷ both ∷ []) ≡ 4
  four_starts = omega (arith, once, once_more, twice)

  two_on_the_27th : date_of_run first ≡ pos 20_904 → date_of_run second ≡ pos 20_904 → date_of_run both ≡ pos 20_905
      → starts_on (pos 20_904) (first ∷ second ∷ both ∷ []) ≡ 2
  two_on_the_27th at_two at_half_past at_three =
      omega (arith, added_there (pos 20_904) first 1 at_two refl once, added_there (pos 20_904) second 1 at_half_past refl once_more, added_elsewhere (pos 20_904) (pos 20_905) both at_three refl)

  two_on_the_28th : date_of_run first ≡ pos 20_904 → date_of_run second ≡ pos 20_904 → date_of_run both ≡ pos 20_905
      → starts_on (pos 20_905) (first ∷ second ∷ both ∷ []) ≡ 2
  two_on_the_28th at_two at_half_past at_three =
      omega (arith, added_elsewhere (pos 20_905) (pos 20_904) first at_two refl, added_elsewhere (pos 20_905) (pos 20_904) second at_half_past refl, added_there (pos 20_905) both 2 at_three refl twice)

  half_an_hour_a_day_and_none : first.time.second ≡ pos 1_806_109_200 → second.time.second ≡ pos 1_806_111_000 → both.time.second ≡ pos 1_806_195_600
      → distances None (first ∷ second ∷ both ∷ []) ≡ 1_800 ∷ 84_600 ∷ 0 ∷ []
  half_an_hour_a_day_and_none at_two at_half_past at_three = rw (once, once_more, twice, at_two, at_half_past, at_three) refl

  the_last_of_them : both.time.second ≡ pos 1_806_195_600 → last_of (pos 1_806_058_800) (first ∷ second ∷ both ∷ []) ≡ pos 1_806_195_600
  the_last_of_them at_three = at_three

-- the shortest of three distances; of one start there is none
the_shortest : IsShortest (1_800 ∷ 900 ∷ 84_600 ∷ []) (Some 900)
the_shortest = (
  (1, omega arith, refl),
  All-cons (λ d. 900 ≤ d) 1_800 (900 ∷ 84_600 ∷ []) (omega arith) (All-cons (λ d. 900 ≤ d) 900 (84_600 ∷ []) (omega arith)
      (All-cons (λ d. 900 ≤ d) 84_600 [] (omega arith) (All-nil (λ d. 900 ≤ d)))),
)

of_one_start : (run : Run) → run.count ≡ 1 → IsShortest (distances None (run ∷ [])) None
of_one_start run one = rw one refl

-- a window that ends at a second, and a span that ends there or after it
to_the_end_of_both : reach_of (Some (pos 9)) (pos 9) ends.Window ≡ reaches.Whole
to_the_end_of_both = refl

to_the_end_of_the_window : reach_of (Some (pos 9)) (pos 10) ends.Window ≡ reaches.Window
to_the_end_of_the_window = refl

up_to_the_window : last_counted (Some (pos 9)) (pos 1) (pos 10) [] reaches.Window ≡ pos 9
up_to_the_window = refl

-- a list that was cut, of none
up_to_the_start : last_counted None (pos 1) (pos 10) [] reaches.Cut ≡ pos 1
up_to_the_start = refl
