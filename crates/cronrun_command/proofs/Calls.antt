-- What the words of a call are, from what they ask for.
use Rattle.std.proofs.Common.{◌≡◌, ℕ, ◌≤◌, List, ◌∷◌, Option, Some, None, length, subst, ap, arith}
use Rattle.jiff.specs.declared.tz.timezone.TimeZone.{TimeZone}
use Rattle.cronrun_command.specs.Call.{Ask, NameZone}
use Rattle.cronrun_command.specs.Command.{command_of}
use Rattle.cronrun_command.specs.Count.{IsCountText}
use Rattle.cronrun_command.specs.Moment.{IsDateTimeText}
use Rattle.cronrun_command.specs.declared.request.Listing.{Listing}
use Rattle.cronrun_command.specs.declared.request.Request.{Request}
use Rattle.cronrun_command.specs.declared.request.Request.TheVariants as requests

-- the words of a call for runs, word by word
pub record AsksForRuns (command at count : List ℕ) (more : List (List ℕ)) (l : Listing) : Type 0 where
  pub command_is : command ≡ command_of l.direction
  pub at_is : IsDateTimeText at l.at
  pub count_is : IsCountText count l.count
  pub zone_is : NameZone more l.zone

-- four words or more ask for runs
pub asks_for_runs : (words : List (List ℕ)) (command pattern at count : List ℕ) (more : List (List ℕ)) (r : Request) → words ≡ command ∷ (pattern ∷ (at ∷ (count ∷ more))) → Ask words r → (l : Listing) × AsksForRuns command at count more l
asks_for_runs words command pattern at count more (requests.Describe p) e ask = absurd (let h = ask in cc)
asks_for_runs words command pattern at count more (requests.Match p m) e ask = absurd (let h = ask.1 in cc)
asks_for_runs words command pattern at count more (requests.List l) e ask =
    let h = ask.3 in
    let to_at : ask.0 ≡ at = cc in
    let to_count : ask.1 ≡ count = cc in
    let to_more : ask.2 ≡ more = cc in
    let P : List ℕ → Type 0 = λ t. IsDateTimeText t l.at in
    let Q : List ℕ → Type 0 = λ t. IsCountText t l.count in
    let R : List (List ℕ) → Type 0 = λ t. NameZone t l.zone in (
      l,
      record {
        command_is = cc;
        at_is = subst P to_at ask.4;
        count_is = subst Q to_count ask.5;
        zone_is = subst R to_more ask.6;
      },
    )

zone_length : (more : List (List ℕ)) (zone : Option TimeZone) → NameZone more zone → length more ≤ 1
zone_length more None h = omega (arith, ap length h)
zone_length more (Some z) h = omega (arith, ap length h.1)

-- a call has two to five words
pub call_length : (words : List (List ℕ)) (r : Request) → Ask words r → (2 ≤ length words) × (length words ≤ 5)
call_length words (requests.Describe p) ask = (omega (arith, ap length ask), omega (arith, ap length ask))
call_length words (requests.Match p m) ask = (omega (arith, ap length ask.1), omega (arith, ap length ask.1))
call_length words (requests.List l) ask =
    let few = zone_length ask.2 l.zone ask.6 in
    (omega (arith, ap length ask.3), omega (arith, ap length ask.3))
