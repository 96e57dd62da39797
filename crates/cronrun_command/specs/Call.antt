-- The words of a call: which are one, and what they ask for.
use Rattle.std.specs.Prelude.{◌≡◌, ℕ, List, [], ◌∷◌, Option, Some, None, codes}
use Rattle.jiff.specs.Placed.{IsPosixZone}
use Rattle.jiff.specs.ZoneView.{plain_zone}
use Rattle.jiff.specs.declared.tz.timezone.TimeZone.{TimeZone}
use Rattle.cronrun_command.specs.Command.{command_of}
use Rattle.cronrun_command.specs.Count.{IsCountText}
use Rattle.cronrun_command.specs.Moment.{IsDateTimeText}
use Rattle.cronrun_command.specs.declared.request.Listing.{Listing}
use Rattle.cronrun_command.specs.declared.request.Request.{Request}
use Rattle.cronrun_command.specs.declared.request.Request.TheVariants as requests

-- the words name this zone: its rule, or nothing for civil time
abbrev pub NameZone : List (List ℕ) → Option TimeZone → Type 0
NameZone words None = words ≡ []
NameZone words (Some zone) = (rule : List ℕ) × (words ≡ rule ∷ []) × IsPosixZone rule (plain_zone zone)

-- a command, a pattern, a date and time and a count, and the zone: what a listing is read from
pub record IsListingOf (command pattern at count : List ℕ) (zone : Option TimeZone) (l : Listing) : Type 0 where
  pub command_is : command ≡ command_of l.direction
  pub pattern_is : l.pattern.now ≡ pattern
  pub at_is : IsDateTimeText at l.at
  pub count_is : IsCountText count l.count
  pub zone_is : l.zone ≡ zone

-- the words are a call, and ask for this
abbrev pub Ask : List (List ℕ) → Request → Type 0
Ask words (requests.Describe pattern) = words ≡ codes "describe" ∷ (pattern.now ∷ [])
Ask words (requests.Match pattern at) =
    (text : List ℕ) × (words ≡ codes "match" ∷ (pattern.now ∷ (text ∷ []))) × IsDateTimeText text at
Ask words (requests.List l) =
    (at : List ℕ) × (count : List ℕ) × (rest : List (List ℕ))
    × (words ≡ command_of l.direction ∷ (l.pattern.now ∷ (at ∷ (count ∷ rest))))
    × IsDateTimeText at l.at × IsCountText count l.count × NameZone rest l.zone

-- the words are a call
abbrev pub IsCall : List (List ℕ) → Type 0
IsCall words = (request : Request) × Ask words request
