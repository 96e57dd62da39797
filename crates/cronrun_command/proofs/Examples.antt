-- Worked rows of the command line, computed from its definitions.
use Rattle.std.proofs.Common.{◌≡◌, ℕ, pos, neg_ℤ, true, false, Some, None, refl, arith}
use Rattle.std.proofs.lemmas.Bool.{false≢true}
use Rattle.std.specs.Prelude.{codes}
use Rattle.std.specs.Fmt.{digits}
use Rattle.croner_base.specs.CivilText.{datetime_text}
use Rattle.croner_base.specs.declared.errors.CronError.TheVariants.{InvalidDate, OutOfMemory, TimeSearchLimitExceeded}
use Rattle.croner_base.specs.declared.time.Direction.TheVariants.{Forward, Backward}
use Rattle.croner_base.specs.declared.time.value.Resolution.TheVariants.{Single, Ambiguous, Gap}
use Rattle.cronrun_command.specs.Answer.{bool_text}
use Rattle.cronrun_command.specs.Command.{command_of}
use Rattle.cronrun_command.specs.Count.{IsCountText}
use Rattle.cronrun_command.specs.Line.{second_text}
use Rattle.cronrun_command.specs.Moment.{two_digits, four_digits, AreDateNumbers}
use Rattle.cronrun_command.specs.Reason.{reason_of}
use Rattle.cronrun_command.specs.Start.{start_instant}

-- words and numbers
next_lists_forward : command_of Forward ≡ codes "next"
next_lists_forward = refl

prev_lists_backward : command_of Backward ≡ codes "prev"
prev_lists_backward = refl

a_truth : bool_text true ≡ codes "true"
a_truth = refl

no_truth : bool_text false ≡ codes "false"
no_truth = refl

seven_in_two_digits : two_digits 7 ≡ codes "07"
seven_in_two_digits = refl

a_year_in_four_digits : four_digits 2024 ≡ codes "2024"
a_year_in_four_digits = refl

year_zero : four_digits 0 ≡ codes "0000"
year_zero = refl

numbers_of_a_date : AreDateNumbers (codes "2024-07-01") 2024 7 1
numbers_of_a_date = (omega arith, omega arith, omega arith, refl)

zeros_in_front : IsCountText (codes "0012") 12
zeros_in_front = ((omega arith, omega arith), refl, refl)

the_most : IsCountText (codes "1000") 1000
the_most = ((omega arith, omega arith), refl, refl)

no_count_of_zero : IsCountText (codes "0") 0 → ⊥
no_count_of_zero h = let low = h.0.0 in absurd (omega (arith, low))

no_sign : (n : ℕ) → IsCountText (codes "+5") n → ⊥
no_sign n h = false≢true h.1

-- lines
a_line : datetime_text (pos 2024) 7 1 9 30 0 ≡ codes "2024-07-01T09:30:00"
unfolding digits
a_line = refl

no_second : second_text None ≡ codes ""
no_second = refl

a_second : second_text (Some (pos 1_729_990_800)) ≡ codes " 1729990800"
unfolding digits
a_second = refl

a_second_before_the_epoch : second_text (Some (neg_ℤ (pos 1))) ≡ codes " -1"
unfolding digits
a_second_before_the_epoch = refl

-- starts: the earlier of two, and none in a gap or where the clock ends
the_earlier : start_instant (Some (Ambiguous (pos 1) (pos 3_601))) ≡ Some (pos 1)
the_earlier = refl

the_one : start_instant (Some (Single (pos 7))) ≡ Some (pos 7)
the_one = refl

none_in_a_gap : start_instant (Some Gap) ≡ None
none_in_a_gap = refl

none_beyond_the_clock : start_instant None ≡ None
none_beyond_the_clock = refl

-- reasons: the fault itself, and the limit where there is none
a_fault_is_its_reason : reason_of (Some InvalidDate) ≡ InvalidDate
a_fault_is_its_reason = refl

want_of_memory_is_its_reason : reason_of (Some OutOfMemory) ≡ OutOfMemory
want_of_memory_is_its_reason = refl

no_fault_is_the_limit : reason_of None ≡ TimeSearchLimitExceeded
no_fault_is_the_limit = refl
