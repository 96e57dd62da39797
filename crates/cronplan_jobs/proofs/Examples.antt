-- Worked rows, computed from the definitions: a job with starts at 02:00, three of them, and at 04:30.
use Rattle.std.proofs.Common.{◌≡◌, ℕ, pos, true, false, Bool, List, [], ◌∷◌, inl, inr, refl}
use Rattle.croner_base.specs.declared.errors.CronError.TheVariants as errors
use Rattle.cronplan.specs.declared.start.JobStart.{JobStart}
use Rattle.cronplan_jobs.specs.Jobs.{Seen, shown_of, named_of, end_with}
use Rattle.cronplan_jobs.specs.Listed.{IsNotListed}

-- a start so many times, on a clock that shows UTC
abbrev start : ℕ → ℕ → JobStart
start second count = record { second = pos second; job = 3; count = count; wall = pos second }

abbrev day : List JobStart
day = start 7_200 3 ∷ start 16_200 1 ∷ []

-- a job that is shown, and one that is named with its four starts
abbrev seen : Bool → Seen
seen frequent = record { place = 3; starts = day; end = pos 80_000; is_frequent = frequent }

shown_or_named : (shown_of (seen false) ≡ day) × (named_of (seen false) ≡ []) × (shown_of (seen true) ≡ []) × (named_of (seen true) ≡ record { job = 3; starts = 4 } ∷ [])
    × (end_with (pos 86_400) (seen false) ≡ pos 80_000) × (end_with (pos 86_400) (seen true) ≡ pos 86_400)
shown_or_named = (refl, refl, refl, refl, refl, refl)

-- lack of memory and what a clock refuses keep a job from being listed; what a text is refused for doesn't
not_listed : IsNotListed errors.OutOfMemory × IsNotListed errors.InvalidDate × IsNotListed errors.InvalidTime
not_listed = (inl refl, inr (inl refl), inr (inr refl))

not_by_its_text : ¬ IsNotListed errors.EmptyPattern
not_by_its_text (inl e) = cc
not_by_its_text (inr (inl e)) = cc
not_by_its_text (inr (inr e)) = cc
