-- The entries of a file: one a line, in the order of the lines.
use Rattle.std.specs.Prelude.{◌≡◌, ℕ, Bool, List, [], ◌∷◌, map, Option, IfSome}
use Rattle.crontab.specs.declared.line.Dialect.{Dialect}
use Rattle.crontab.specs.declared.line.Entry.{Entry}
use Rattle.crontab.specs.Entries.{entry_seen, place_seen}
use Rattle.crontab.specs.Line.{Line, is_system, entry_of}
use Rattle.crontab.specs.Lines.{AreLines, without_line_feed, is_fed}
use Rattle.crontab.specs.Place.{place_of}

-- a line that was read: its bytes without its line feed, what it is, the place of its fault, if it is refused, and whether it has a line feed
pub record LineRead : Type 0 where
  pub bytes : List ℕ
  pub is : Line
  pub place : Option (ℕ × ℕ)
  pub is_fed : Bool

-- these bytes, without their line feed if they have one
abbrev pub read_in : Dialect → List ℕ → Bool → LineRead
read_in dialect bytes is_fed =
    record { bytes = bytes; is = entry_of dialect bytes; place = place_of (is_system dialect) bytes (entry_of dialect bytes); is_fed = is_fed }

-- a line with or without its line feed
abbrev pub entry_of_line : Dialect → List ℕ → LineRead
entry_of_line dialect line = read_in dialect (without_line_feed line) (is_fed line)

-- what an entry of these bytes says of them
abbrev pub line_seen : List ℕ → Entry → Bool → LineRead
line_seen bytes entry is_fed = record { bytes = bytes; is = entry_seen entry; place = place_seen entry; is_fed = is_fed }

-- it is an entry of the line that was read
abbrev pub IsEntryOf : LineRead → Entry → Type 0
IsEntryOf y entry = line_seen y.bytes entry y.is_fed ≡ y

-- these were taken one after the other, and nothing else
abbrev pub TakesInTurn : {S Y : Type 0} → (S → Y → S → Type 0) → S → List Y → S → Type 0
TakesInTurn takes old [] new = new ≡ old
TakesInTurn {S} takes old (y ∷ ys) new = (between : S) × takes old y between × TakesInTurn takes between ys new

-- each line of the text has exactly one entry, and they were taken in order
abbrev pub TakesAll : {S : Type 0} → (S → LineRead → S → Type 0) → Dialect → Option (List ℕ) → S → S → Type 0
TakesAll takes dialect remaining old new =
    IfSome remaining (λ text. (lines : List (List ℕ)) × AreLines text lines × TakesInTurn takes old (map (entry_of_line dialect) lines) new)
