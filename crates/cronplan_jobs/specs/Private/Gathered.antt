-- What one job more adds to what was gathered of jobs.
use Rattle.std.specs.Prelude.{◌≡◌, ℕ, ℤ, List, [], ◌∷◌, ◌++◌, Option, Some}
use Rattle.croner_base.specs.Zone.{Zone}
use Rattle.cronplan_jobs.specs.declared.jobs.Gathering.{Gathering}
use Rattle.cronplan_jobs.specs.declared.listing.Schedule.{Schedule}
use Rattle.cronplan.specs.declared.span.Span.{Span}
use Rattle.cronplan.specs.declared.start.JobStart.{JobStart}
use Rattle.cronplan.specs.Starts.{earlier_of}
use Rattle.cronplan.specs.Counts.{count_of}
use Rattle.cronplan_jobs.specs.Jobs.{Seen, IsSeen, shown_of, named_of, end_with}

-- a job is named, with how many starts it has
pub record Names (place : ℕ) (starts : List JobStart) (old new : Gathering) : Type 0 where
  pub shown : new.shown.items ≡ old.shown.items
  pub named : new.frequent.items ≡ old.frequent.items ++ record { job = place; starts = count_of starts } ∷ []
  pub end : new.end ≡ old.end

-- the starts of a job are shown, which are known up to an end
pub record Shows (starts : List JobStart) (upto : ℤ) (old new : Gathering) : Type 0 where
  pub shown : new.shown.items ≡ old.shown.items ++ starts
  pub named : new.frequent.items ≡ old.frequent.items
  pub end : new.end ≡ earlier_of old.end (Some upto)

-- the job at this place is shown or named
pub record AddsJob (z : Zone) (span : Span) (most : Option ℕ) (place : ℕ) (schedule : Schedule) (old new : Gathering) : Type 0 where
  pub seen : Seen
  pub is : IsSeen z span most place schedule seen
  pub shown : new.shown.items ≡ old.shown.items ++ shown_of seen
  pub named : new.frequent.items ≡ old.frequent.items ++ named_of seen
  pub end : new.end ≡ end_with old.end seen
