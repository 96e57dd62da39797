-- Starts as those of a job at a place.
use Rattle.std.specs.Prelude.{◌≡◌, ◌⊎◌, ◌-◌, ℕ, ℤ, List, length, map, slice_get, Some}
use Rattle.croner_base.specs.declared.time.table.TableTime.{TableTime}
use Rattle.croner_base.specs.TableZone.{table_moment}
use Rattle.croner_base.specs.Zone.{Zone, reading}
use Rattle.croner.specs.declared.laws.listing.ListingEnd.{ListingEnd}
use Rattle.croner.specs.declared.laws.listing.ListingEnd.TheVariants as listing
use Rattle.crontab_runs.specs.declared.job.Start.{Start}
use Rattle.crontab_runs.specs.declared.listing.StartsEnd.{StartsEnd}
use Rattle.crontab_runs.specs.declared.listing.StartsEnd.TheVariants as ends
use Rattle.cronplan.specs.declared.span.Span.{Span}
use Rattle.cronplan.specs.declared.start.JobStart.{JobStart}

-- a start of a crontab's job, on a zone's clock
abbrev pub placed : Zone → ℕ → Start → JobStart
placed z place s = record { second = s.second; job = place; count = s.count; wall = z.reads s.second }

-- a run of a pattern
abbrev pub placed_run : ℕ → TableTime → JobStart
placed_run place t = record { second = t.second; job = place; count = 1; wall = reading (table_moment t) }

-- up to where none of a crontab's job is left out: the last start, where as many are listed as were asked for; else the end of the span
abbrev pub IsCronEnd : List Start → StartsEnd → Span → ℤ → Type 0
IsCronEnd starts ends.Full span i = (length starts ≡ 0) ⊎ (slice_get (map (λ s. s.second) starts) (length starts - 1) ≡ Some i)
IsCronEnd starts (ends.Past next) span i = i ≡ span.end
IsCronEnd starts ends.Over span i = i ≡ span.end

-- the same of a pattern
abbrev pub IsPatternEnd : List TableTime → ListingEnd → Span → ℤ → Type 0
IsPatternEnd times listing.Full span i = (length times ≡ 0) ⊎ (slice_get (map (λ t. t.second) times) (length times - 1) ≡ Some i)
IsPatternEnd times (listing.Past next) span i = i ≡ span.end
IsPatternEnd times listing.Over span i = i ≡ span.end
IsPatternEnd times listing.Refused span i = i ≡ span.end
