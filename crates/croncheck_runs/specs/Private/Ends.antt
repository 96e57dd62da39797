-- How far a listing is searched, and how it ends by how its search did. Private contracts alone cite these definitions.
use Rattle.std.specs.Prelude.{◌≡◌, ◌==◌, ℕ, ℤ, if◌then◌else◌, int_lt, Option, Some, None}
use Rattle.croner_base.specs.declared.errors.CronError.{CronError}
use Rattle.croner_base.specs.declared.errors.CronError.TheVariants.{OutOfMemory}
use Rattle.croner.specs.declared.laws.listing.ListingEnd.{ListingEnd}
use Rattle.croner.specs.declared.laws.listing.ListingEnd.TheVariants as endings
use Rattle.croncheck_runs.specs.declared.runs.End.{End}
use Rattle.croncheck_runs.specs.declared.runs.End.TheVariants as ends
use Rattle.croncheck_runs.specs.declared.runs.Listing.{Listing}
use Rattle.croncheck_runs.specs.declared.runs.Listing.TheVariants as listings
use Rattle.crontab_runs.specs.declared.listing.StartsEnd.{StartsEnd}
use Rattle.crontab_runs.specs.declared.listing.StartsEnd.TheVariants as starts_ends
use Rattle.croncheck_runs.specs.Runs.{most_runs}

-- the earlier of two seconds, of which the second one may be none
abbrev pub earlier_of : ℤ → Option ℤ → ℤ
earlier_of until None = until
earlier_of until (Some last) = if int_lt last until then last else until

-- the last second up to which is searched: of none asked the start itself, so that the next run ends the search
abbrev pub bound : ℤ → Option ℤ → Listing → Option ℤ
bound start last (listings.Count count) = if count == 0 then Some start else last
bound start last (listings.Until until) = Some (earlier_of until last)

-- the most runs that are searched
abbrev pub limit : Listing → ℕ
limit (listings.Count count) = if count == 0 then 1 else count
limit (listings.Until until) = most_runs

-- with as many runs as are searched at most
abbrev pub full_end : Listing → End
full_end (listings.Count count) = ends.More
full_end (listings.Until until) = ends.Cut

-- before this run
abbrev pub end_before : ℤ → Option ℤ → End
end_before run None = ends.More
end_before run (Some last) = if int_lt last run then ends.Window else ends.More

-- with the years that are searched: after the end of a window more may come
abbrev pub end_of_years : Option ℤ → End
end_of_years None = ends.Over
end_of_years (Some last) = ends.Window

-- by how a search for starts did
abbrev pub end_of_starts : Listing → Option ℤ → StartsEnd → End
end_of_starts listing last starts_ends.Full = full_end listing
end_of_starts listing last (starts_ends.Past start) = end_before start.second last
end_of_starts listing last starts_ends.Over = end_of_years last

-- by a refused search, unless memory was lacking
abbrev pub IsFailedBy : Option CronError → End → Type 0
IsFailedBy None end = ⊥
IsFailedBy (Some fault) end = ¬ (fault ≡ OutOfMemory) × ((e : CronError) × (end ≡ ends.Failed e))

-- how a listing ends, by how its search did and the fault of its last call
abbrev pub EndsBy : Listing → Option ℤ → ListingEnd → Option CronError → End → Type 0
EndsBy listing last endings.Full fault end = end ≡ full_end listing
EndsBy listing last (endings.Past run) fault end = end ≡ end_before run last
EndsBy listing last endings.Over fault end = end ≡ end_of_years last
EndsBy listing last endings.Refused fault end = IsFailedBy fault end
