-- The answer of a call: a text for standard output, and the refusal that ended it where it is not whole. Source: this crate's
-- documentation of the command line.
use Rattle.std.specs.Prelude.{◌≡◌, ◌↔◌, ◌⊎◌, ◌++◌, ◌∷◌, [], ◌<◌, ⊤, ℕ, ℤ, Bool, false, IsTrue, if◌then◌else◌, List, Option, None, Some, Ok, codes, is_some, length}
use Rattle.jiff.specs.ZoneView.{plain_zone}
use Rattle.jiff.specs.declared.tz.timezone.TimeZone.{TimeZone}
use Rattle.croner_base.specs.Civil.{wall_second}
use Rattle.croner_base.specs.CivilZone.{civil_zone}
use Rattle.croner_base.specs.Zone.{Zone, Moment}
use Rattle.croner_base.specs.ZonedZone.{zoned_zone}
use Rattle.croner_base.specs.declared.errors.CronError.{CronError}
use Rattle.croner_base.specs.declared.time.civil.CivilDateTime.{CivilDateTime}
use Rattle.croner_pattern.specs.Description.{description}
use Rattle.croner_pattern.specs.Meaning.{Meaning}
use Rattle.croner_pattern.specs.Schedule.{IsScheduled}
use Rattle.croner_words.specs.English.{english}
use Rattle.croner.specs.parser.Grammar.{outcome}
use Rattle.croner.specs.iterator.Listing.{Standing, GivesItem, moved}
use Rattle.croner.specs.parser.Settings.{default_settings}
use Rattle.cronrun_command.specs.Ended.{Ends}
use Rattle.cronrun_command.specs.Line.{AreLines}
use Rattle.cronrun_command.specs.Opened.{OpensAt, StandsAtStart}
use Rattle.cronrun_command.specs.Refused.{IsUnopened, IsUnread}
use Rattle.cronrun_command.specs.Start.{start_instant}
use Rattle.cronrun_command.specs.declared.request.Listing.{Listing}
use Rattle.cronrun_command.specs.declared.request.Request.{Request}
use Rattle.cronrun_command.specs.declared.request.Request.TheVariants as requests

-- the word for a boolean
abbrev pub bool_text : Bool → List ℕ
bool_text held = if held then codes "true" else codes "false"

-- the pattern is accepted, the date and time names an instant, and the line says whether the pattern schedules it
pub record IsMatchText (pattern : List ℕ) (at : CivilDateTime) (text : List ℕ) : Type 0 where
  pub meaning : Meaning
  pub start : ℤ
  pub opens : OpensAt (outcome default_settings pattern) civil_zone at meaning start
  pub held : Bool
  pub scheduled : IsTrue held ↔ IsScheduled meaning (wall_second at)
  pub line : text ≡ bool_text held ++ 10 ∷ []

-- the pattern is accepted, and the line is its description in English
pub record IsDescriptionText (pattern : List ℕ) (text : List ℕ) : Type 0 where
  pub meaning : Meaning
  pub accepted : outcome default_settings pattern ≡ Ok meaning
  pub line : text ≡ description english meaning ++ 10 ∷ []

-- the listing gives these runs one after the other, as the calls of an iterator do: where searches are promised each is the
-- nearest of those left
abbrev pub AreGiven : Standing → List Moment → Type 0
AreGiven s [] = ⊤
AreGiven s (run ∷ runs) = GivesItem s run (moved s run) × AreGiven (moved s run) runs

-- where the listing stands after these runs
abbrev pub stands_after : Standing → List Moment → Standing
stands_after s [] = s
stands_after s (run ∷ runs) = stands_after (moved s run) runs

-- from there on the listing gave so many runs, and the text is their lines
pub record GivesLines (in_zone : Bool) (start : Standing) (count : ℕ) (text : List ℕ) : Type 0 where
  pub runs : List Moment
  pub given : AreGiven start runs
  pub counted : length runs ≡ count
  pub lines : AreLines in_zone runs text

-- from there on the listing gave fewer runs, the text is their lines, and it ended for this reason
pub record EndsEarly (lack in_zone : Bool) (start : Standing) (count : ℕ) (text : List ℕ) (e : CronError) : Type 0 where
  pub runs : List Moment
  pub given : AreGiven start runs
  pub fewer : length runs < count
  pub lines : AreLines in_zone runs text
  pub ends : Ends lack (stands_after start runs) e

-- a listing of so many runs from there on: whole, or ended by a refusal
abbrev pub Lists : Bool → Bool → Standing → ℕ → List ℕ → Option CronError → Type 0
Lists lack in_zone start count text None = GivesLines in_zone start count text
Lists lack in_zone start count text (Some e) = EndsEarly lack in_zone start count text e

-- the zone that a listing names: civil time where it names none
abbrev pub zone_of : Option TimeZone → Zone
zone_of None = civil_zone
zone_of (Some zone) = zoned_zone (plain_zone zone)

-- nothing was found, since the call is refused
abbrev pub IsNothing : (CronError → Type 0) → List ℕ → Option CronError → Type 0
IsNothing refuses text refusal = (text ≡ []) × ((e : CronError) × (refusal ≡ Some e) × refuses e)

-- the pattern is accepted, the date and time names an instant, and the listing goes from there; or the pattern or the start is refused
abbrev pub IsListed : Bool → Listing → List ℕ → Option CronError → Type 0
IsListed lack l text refusal =
    ((start : Standing) × StandsAtStart (outcome default_settings l.pattern.now) (zone_of l.zone) l.at l.direction start
    × Lists lack (is_some l.zone) start l.count text refusal)
    ⊎ IsNothing (IsUnopened (outcome default_settings l.pattern.now) (start_instant ((zone_of l.zone).resolves l.at))) text refusal

-- the line is whether the pattern schedules the date and time; or the pattern or the start is refused
abbrev pub IsMatched : List ℕ → CivilDateTime → List ℕ → Option CronError → Type 0
IsMatched pattern at text refusal = (IsMatchText pattern at text × (refusal ≡ None))
    ⊎ IsNothing (IsUnopened (outcome default_settings pattern) (start_instant (civil_zone.resolves at))) text refusal

-- the line is the description of the pattern; or the pattern is refused
abbrev pub IsDescribed : List ℕ → List ℕ → Option CronError → Type 0
IsDescribed pattern text refusal = (IsDescriptionText pattern text × (refusal ≡ None))
    ⊎ IsNothing (IsUnread (outcome default_settings pattern)) text refusal

-- the answer of a call; the dates and times of both clocks are copied without memory
abbrev pub IsAnswer : Request → List ℕ → Option CronError → Type 0
IsAnswer (requests.Describe pattern) text refusal = IsDescribed pattern.now text refusal
IsAnswer (requests.Match pattern at) text refusal = IsMatched pattern.now at text refusal
IsAnswer (requests.List l) text refusal = IsListed false l text refusal
