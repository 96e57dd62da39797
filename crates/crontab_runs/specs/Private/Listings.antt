-- A call of an iterator in a listing of starts up to a second.
-- Private contracts alone cite these definitions.
use Rattle.std.specs.Prelude.{◌≡◌, ℤ, ◌++◌, List, [], ◌∷◌, Option, Some, None}
use Rattle.croner.specs.laws.Until.{ComesBy}
use Rattle.crontab_runs.specs.declared.job.Start.{Start}
use Rattle.crontab_runs.specs.declared.listing.StartIterator.{StartIterator}
use Rattle.crontab_runs.specs.declared.listing.StartsEnd.{StartsEnd}
use Rattle.crontab_runs.specs.declared.listing.StartsEnd.TheVariants as ends
use Rattle.crontab_runs.specs.Listing.{Steps}

-- the call put its start after the others; or it ended the listing, which keeps its starts
abbrev pub TakesUntil : Option ℤ → StartIterator → StartIterator → List Start → List Start → Option StartsEnd → Type 0
TakesUntil until old new before after None = (s : Start) × Steps old (Some s) new × ComesBy old.direction until s.second × (after ≡ before ++ s ∷ [])
TakesUntil until old new before after (Some ends.Full) = ⊥
TakesUntil until old new before after (Some (ends.Past next)) = Steps old (Some next) new × ¬ (ComesBy old.direction until next.second) × (after ≡ before)
TakesUntil until old new before after (Some ends.Over) = Steps old None new × (after ≡ before)
