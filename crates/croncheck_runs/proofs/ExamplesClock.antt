-- Worked rows of the clock's window and of its stop.
use Rattle.std.proofs.Common.{◌≡◌, pos, true, false, [], ◌∷◌, refl, sym, inl, arith}
use Rattle.std.proofs.lemmas.Int.{ints}
use Rattle.std.specs.Prelude.{Some, None}
use Rattle.croncheck_runs.specs.declared.clock.stop.Reason.TheVariants as reasons
use Rattle.croner_base.specs.TableZone.{clock}
use Rattle.croner_base.specs.Zone.{at_instant}
use Rattle.croncheck_runs.specs.declared.runs.End.TheVariants as ends
use Rattle.croncheck_runs.specs.declared.runs.Listing.TheVariants as listings
use Rattle.croncheck_runs.specs.Clock.{first_of, two_days_before, IsReasonBy}
use Rattle.croncheck_runs.specs.Runs.{is_over, is_at_end_of_window}
use Rattle.croncheck_runs.specs.Runs.{Rest, IsEnd}

-- Antarctica/Casey in March 2010, from 39,600 to 28,800 seconds ahead of UTC: three hours back
casey : IsReasonBy (pos 39_600) (pos 39_600) (pos 28_800) 7_200 (reasons.Back (pos 10_800))
casey = (refl, omega (arith, ints))

-- a rule that skips two hours each year, once it has done so 2,778 times: these are 20,001,600 seconds
two_hours_forward : IsReasonBy (pos 0) (pos 0) (pos 7_200) 20_001_600 reasons.Skipped
two_hours_forward = ((refl, omega (arith, ints), omega (arith, ints)), omega arith)

-- as long as it has skipped no more than 20,000,000 seconds, there are too many changes
changes_alone : IsReasonBy (pos 0) (pos 0) (pos 7_200) 20_000_000 reasons.Many
changes_alone = ((refl, omega (arith, ints), omega (arith, ints)), omega arith)

-- Casey's change at 2010-03-04T15:00:00Z: two days before it, and from a window on that begins a day before it
two_days_before_casey : two_days_before (pos 1_266_321_600) (pos 1_267_714_800) ≡ pos 1_267_541_999
two_days_before_casey = refl

no_earlier_than_the_window : two_days_before (pos 1_267_628_400) (pos 1_267_714_800) ≡ pos 1_267_628_400
no_earlier_than_the_window = refl

-- from 2010-03-07T00:00:00 there, 2010-03-06T16:00:00Z, the window begins before the change
a_window_from_before_the_change : first_of (pos 1_267_891_200) ≡ pos 1_267_632_000
a_window_from_before_the_change = refl

-- what is left is second 5 alone, after second 0 of UTC
abbrev five : Rest
five = record { start = at_instant (clock (pos 0) []) (pos 0); left = λ i. i ≡ pos 5 }

-- of none asked one is left in a window up to it, and none in one that ends before it
none_asked_and_one_left : IsEnd five (Some (pos 5)) (listings.Count 0) [] ends.More
none_asked_and_one_left = (refl, λ zero. (pos 5, refl, omega (arith, ints)))

none_asked_and_none_left : IsEnd five (Some (pos 4)) (listings.Count 0) [] ends.Window
none_asked_and_none_left = inl (λ i is le. let at : i ≡ pos 5 = is in absurd (omega (arith, ints, at, le)))

-- up to second 4 none is left out, and one is left after it; up to second 5 that one is listed
up_to_the_second_before : IsEnd five None (listings.Until (pos 4)) [] ends.More
up_to_the_second_before = (λ i is le. let at : i ≡ pos 5 = is in absurd (omega (arith, ints, at, le)), (pos 5, refl, tt, omega (arith, ints)))

up_to_the_second : IsEnd five None (listings.Until (pos 5)) (pos 5 ∷ []) ends.Over
up_to_the_second = λ i is inside. (0, omega arith, sym is)

-- it is no listing that is over
not_over : is_over ends.Window ≡ false
not_over = refl

at_its_end : is_at_end_of_window ends.Window ≡ true
at_its_end = refl
