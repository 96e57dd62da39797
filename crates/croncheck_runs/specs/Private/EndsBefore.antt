-- How a listing of the runs before a start ends by how its search did. Private contracts alone cite these definitions.
use Rattle.std.specs.Prelude.{◌≡◌, Bool, Option, if◌then◌else◌}
use Rattle.croner_base.specs.declared.errors.CronError.{CronError}
use Rattle.croner.specs.declared.laws.listing.ListingEnd.{ListingEnd}
use Rattle.croner.specs.declared.laws.listing.ListingEnd.TheVariants as endings
use Rattle.croncheck_runs.specs.declared.runs.End.{End}
use Rattle.croncheck_runs.specs.declared.runs.End.TheVariants as ends
use Rattle.crontab_runs.specs.declared.listing.StartsEnd.{StartsEnd}
use Rattle.crontab_runs.specs.declared.listing.StartsEnd.TheVariants as starts_ends
use Rattle.croncheck_runs.specs.Private.Ends.{IsFailedBy}

-- with the years that are searched, on a clock that is followed back to their beginning or isn't
abbrev pub end_of_years : Bool → End
end_of_years is_whole = if is_whole then ends.Over else ends.Window

-- by how a search for starts did
abbrev pub end_of_starts : Bool → StartsEnd → End
end_of_starts is_whole starts_ends.Full = ends.More
end_of_starts is_whole (starts_ends.Past start) = ends.Window
end_of_starts is_whole starts_ends.Over = end_of_years is_whole

-- by how a search for runs did, and the fault of its last call
abbrev pub EndsBefore : Bool → ListingEnd → Option CronError → End → Type 0
EndsBefore is_whole endings.Full fault end = end ≡ ends.More
EndsBefore is_whole (endings.Past run) fault end = end ≡ ends.Window
EndsBefore is_whole endings.Over fault end = end ≡ end_of_years is_whole
EndsBefore is_whole endings.Refused fault end = IsFailedBy fault end
