-- The steps in which a list is written. Private contracts alone cite these definitions.
use Rattle.std.specs.Prelude.{◌≡◌, ℕ, ◌+◌, ◌-◌, ◌<◌, ◌≤◌, Bool, true, false, ◌&&◌, ◌==◌, nat_lt, List, [], ◌∷◌, ◌++◌, map, drop, length, slice_index, codes, Result, MatchResult, string_bytes, if◌then◌else◌}
use Rattle.std.specs.declared.string.String.{String}
use Rattle.std.specs.declared.vec.Vec.{Vec}
use Rattle.std.specs.declared.alloc.Global.{Global}
use Rattle.croner_base.specs.declared.errors.CronError.{CronError}
use Rattle.croner_base.specs.declared.errors.CronError.TheVariants.{OutOfMemory}
use Rattle.croner_pattern.specs.Lists.{streaks_of, item_text, items_of}

-- a text is written after another, or memory was wanted
abbrev pub Appends : {X : Type 0} → List ℕ → String Global → String Global → Result X CronError → Type 0
Appends text old new answer = MatchResult answer (λ _. string_bytes new ≡ string_bytes old ++ text) (λ e. e ≡ OutOfMemory)

abbrev pub is_empty : {X : Type 0} → List X → Bool
is_empty [] = true
is_empty (item ∷ more) = false

-- what goes before an item, at its place from 0
abbrev pub separator : List ℕ → ℕ → Bool → List ℕ
separator and place is_last =
    if place == 0 then []
    else (if is_last then (if place == 1 then codes " " ++ (and ++ codes " ") else codes ", " ++ (and ++ codes " "))
    else codes ", ")

-- the same where commas alone go between
abbrev pub comma : ℕ → Bool → List ℕ
comma place is_last = if place == 0 then [] else codes ", "

-- the items from a place on, each after what goes before it
abbrev pub from_place : (ℕ → Bool → List ℕ) → ℕ → List (List ℕ) → List ℕ
from_place before place [] = []
from_place before place (item ∷ more) = before place (is_empty more) ++ (item ++ from_place before (place + 1) more)

-- texts are put after others, or memory was wanted
abbrev pub AddsTexts : {X : Type 0} → List (List ℕ) → Vec (String Global) Global → Vec (String Global) Global → Result X CronError → Type 0
AddsTexts texts old new answer =
    MatchResult answer (λ _. map string_bytes new.items ≡ map string_bytes old.items ++ texts) (λ e. e ≡ OutOfMemory)

-- what a list of texts is, or lack of memory
abbrev pub ListsTexts : List (List ℕ) → Result (Vec (String Global) Global) CronError → Type 0
ListsTexts texts answer = MatchResult answer (λ v. map string_bytes v.items ≡ texts) (λ e. e ≡ OutOfMemory)

-- the value after an index is the next number
abbrev pub goes_on : List ℕ → ℕ → Bool
goes_on values end = nat_lt (end + 1) (length values) && (slice_index values (end + 1) == slice_index values end + 1)

-- the streak that begins at an index ends at another
pub record EndsStreak (values : List ℕ) (start end : ℕ) : Type 0 where
  pub ahead : start ≤ end
  pub within : end < length values
  pub even : slice_index values end + start ≡ slice_index values start + end
  pub streak : streaks_of (drop start values) ≡ record { first = slice_index values start; last = slice_index values end } ∷ streaks_of (drop (end + 1) values)

-- a streak is written from a place on, and what comes after it goes on from the place that is answered
pub record StreakWritten (and : List ℕ) (place : ℕ) (is_last : Bool) (first last : ℕ) (old new : List ℕ) (next : ℕ) : Type 0 where
  pub counted : next ≤ place + ((last + 1) - first)
  pub written : (rest : List (List ℕ)) → is_empty rest ≡ is_last
      → new ++ from_place (separator and) next rest
      ≡ old ++ from_place (separator and) place (map item_text (items_of (record { first = first; last = last })) ++ rest)

abbrev pub WritesStreak : List ℕ → ℕ → Bool → ℕ → ℕ → String Global → String Global → Result ℕ CronError → Type 0
WritesStreak and place is_last first last old new answer =
    MatchResult answer (StreakWritten and place is_last first last (string_bytes old) (string_bytes new)) (λ e. e ≡ OutOfMemory)
