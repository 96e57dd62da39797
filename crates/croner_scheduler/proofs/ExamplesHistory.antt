-- Worked rows of lists of calls: what they give of a job, and what they pass over.
use Rattle.std.proofs.Common.{◌≡◌, refl, true, false, nat_eq, inl, inr, arith, ℕ, pos, List, [], ◌∷◌, None, Some}
use Rattle.std.proofs.lemmas.Int.{ints}
use Rattle.croner_base.specs.Zone.{Zone, at_instant}
use Rattle.croner_scheduler.specs.declared.latest.Latest.TheVariants as latest
use Rattle.croner_scheduler.specs.declared.resume.Resume.TheVariants.{GoesOn}
use Rattle.croner_scheduler.specs.declared.skip.Skip.TheVariants.{Moved, AlreadyThere}
use Rattle.croner_scheduler.specs.History.{Call, TakeDue, TakeLatestDue, SkipTo, SkipAllTo, Replace, Remove, Pause, ResumeFrom, given, place_after, place_after_all, PassesOver, IsPassedOver}
use Rattle.croner_scheduler.specs.Lives.{Replacing, with_replaces, given_between}

-- two jobs: the job 1 is given 3, skips to 9, and of what is due at 20 it gives the last, 18
calls : List (Call ℕ)
calls =
    TakeDue (pos 5) (Some (record { id = 0; second = pos 2 })) ∷ TakeDue (pos 5) (Some (record { id = 1; second = pos 3 })) ∷ TakeDue (pos 5) None
    ∷ SkipTo 1 (pos 9) (Moved false) ∷ SkipTo 1 (pos 4) AlreadyThere ∷ TakeLatestDue 1 (pos 20) (latest.Given (pos 18) false) ∷ Remove 0 ∷ []

given_of_one : given 1 calls ≡ pos 3 ∷ pos 18 ∷ []
unfolding calls
given_of_one = refl

given_of_the_other : given 0 calls ≡ pos 2 ∷ []
unfolding calls
given_of_the_other = refl

place_after_a_skip : place_after {J = ℕ} 1 (pos 3) (SkipTo 1 (pos 9) (Moved false)) ≡ pos 9
place_after_a_skip = refl

-- it stands at the last of them then
place_after_them : place_after_all 1 (pos 0) calls ≡ pos 18
unfolding calls
place_after_them = refl

-- of the job 1, which stood at 0, it passes over 7 and 12, and over neither 2 nor 19
seven_is_passed_over : IsPassedOver 1 (pos 0) calls (pos 7)
unfolding calls
seven_is_passed_over = inr (inr (inr (inl (refl, omega (arith, ints), omega (arith, ints)))))

twelve_is_passed_over : IsPassedOver 1 (pos 0) calls (pos 12)
unfolding calls
twelve_is_passed_over = inr (inr (inr (inr (inr (inl (refl, omega (arith, ints), omega (arith, ints)))))))

two_is_not : ¬ (IsPassedOver 1 (pos 0) calls (pos 2))
unfolding calls
two_is_not (inl h) = absurd h
two_is_not (inr (inl h)) = absurd h
two_is_not (inr (inr (inl h))) = absurd h
two_is_not (inr (inr (inr (inl h)))) = absurd (omega (arith, ints, h.1))
two_is_not (inr (inr (inr (inr (inl h))))) = absurd h
two_is_not (inr (inr (inr (inr (inr (inl h)))))) = absurd (omega (arith, ints, h.1))
two_is_not (inr (inr (inr (inr (inr (inr (inl h))))))) = absurd h
two_is_not (inr (inr (inr (inr (inr (inr (inr h))))))) = absurd h

-- a skip of all to 9 that moves the job 1 alone: it stands there, and 7 is passed over; the job 0 stands where it stood, and nothing of it is
place_after_a_skip_of_all : place_after {J = ℕ} 1 (pos 3) (SkipAllTo (pos 9) (nat_eq 1)) ≡ pos 9
place_after_a_skip_of_all = refl

place_where_it_stood : place_after {J = ℕ} 0 (pos 3) (SkipAllTo (pos 9) (nat_eq 1)) ≡ pos 3
place_where_it_stood = refl

passed_by_a_skip_of_all : PassesOver {J = ℕ} 1 (pos 3) (SkipAllTo (pos 9) (nat_eq 1)) (pos 7)
passed_by_a_skip_of_all = (refl, omega (arith, ints), omega (arith, ints))

not_passed_by_it : ¬ (PassesOver {J = ℕ} 0 (pos 3) (SkipAllTo (pos 9) (nat_eq 1)) (pos 7))
not_passed_by_it h = absurd (cc)

-- a job that is resumed from 9 stands there, and 7 is passed over; from 2, where it stood at 3, it stands at 3, and 4 is still to be given
place_after_a_resume : place_after {J = ℕ} 1 (pos 3) (ResumeFrom 1 (pos 9) (GoesOn false)) ≡ pos 9
place_after_a_resume = refl

place_after_a_resume_from_before : place_after {J = ℕ} 1 (pos 3) (ResumeFrom 1 (pos 2) (GoesOn false)) ≡ pos 3
place_after_a_resume_from_before = refl

passed_by_a_resume : PassesOver {J = ℕ} 1 (pos 3) (ResumeFrom 1 (pos 9) (GoesOn false)) (pos 7)
passed_by_a_resume = (refl, omega (arith, ints), omega (arith, ints))

not_passed_by_one_from_before : ¬ (PassesOver {J = ℕ} 1 (pos 3) (ResumeFrom 1 (pos 2) (GoesOn false)) (pos 4))
not_passed_by_one_from_before h = absurd (omega (arith, ints, h.2))

-- a pause passes over nothing, and moves nothing
place_after_a_pause : place_after {J = ℕ} 1 (pos 3) (Pause 1 true) ≡ pos 3
place_after_a_pause = refl

-- ---- the job 1 is replaced twice: 3 is given of the first job, nothing of the second, and 18 of the third

first : List (Call ℕ)
first = TakeDue (pos 5) (Some (record { id = 1; second = pos 3 })) ∷ []

clock : Zone
clock = record { reads = λ i. i; resolves = λ civil. None; holds = λ i. true }

second_and_third : List (Replacing ℕ)
second_and_third =
    record { job = 8; position = at_instant clock (pos 4); calls = TakeDue (pos 5) (Some (record { id = 0; second = pos 4 })) ∷ [] }
    ∷ record { job = 9; position = at_instant clock (pos 9); calls = TakeLatestDue 1 (pos 20) (latest.Given (pos 18) false) ∷ [] } ∷ []

all_calls : with_replaces 1 first second_and_third
    ≡ TakeDue (pos 5) (Some (record { id = 1; second = pos 3 })) ∷ Replace 1 8 (at_instant clock (pos 4))
    ∷ TakeDue (pos 5) (Some (record { id = 0; second = pos 4 })) ∷ Replace 1 9 (at_instant clock (pos 9))
    ∷ TakeLatestDue 1 (pos 20) (latest.Given (pos 18) false) ∷ []
unfolding first second_and_third
all_calls = refl

given_between_them : given_between 1 first second_and_third ≡ pos 3 ∷ pos 18 ∷ []
unfolding first second_and_third
given_between_them = refl
