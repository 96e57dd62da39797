-- The clock of a time zone in a window: what the calls answer.
use Rattle.std.specs.Prelude.{◌≡◌, ◌⊎◌, ◌&&◌, ℕ, nat_le, ℤ, pos, ◌-ℤ◌, List, length, map, None, Result, Ok, Err, IsUtf8, if◌then◌else◌}
use Rattle.jiff.specs.Placed.{IsPosixZone}
use Rattle.jiff_tz.specs.PosixReader.{read_whole}
use Rattle.jiff_tz.specs.Tzif.{tzif_view, HasBadRule, RuleAgrees}
use Rattle.jiff_tz.specs.TzifReader.{read_tzif}
use Rattle.jiff_tz.specs.declared.timezone.TimeZone.{TimeZone}
use Rattle.jiff_tz.specs.declared.timezone.TimeZone.TheVariants as zones
use Rattle.jiff_core.specs.declared.error.TzifFault.{TzifFault}
use Rattle.croner_base.specs.ZoneTable.{IsCalmWindow, ahead_at, window_changes}
use Rattle.croner_base.specs.declared.time.table.ClockTable.{ClockTable}
use Rattle.croner_c.specs.Answers.{OrLack, After, Then}
use Rattle.croner_c.specs.Clocks.{is_window}
use Rattle.croner_c.specs.Written.{written}
use Rattle.croner_c.specs.declared.clock.Change.{Change}
use Rattle.croner_c.specs.declared.status.Reason.{Reason}
use Rattle.croner_c.specs.declared.status.Reason.TheVariants as reasons

-- how many seconds before its window a clock begins
abbrev pub margin : ℕ
margin = 180_000

-- the most bytes of a time zone file
abbrev pub most_file_bytes : ℕ
most_file_bytes = 1_000_000

-- the most bytes of a rule
abbrev pub most_rule_bytes : ℕ
most_rule_bytes = 1_000

-- a row of a table as a change
abbrev pub change_of : ℤ × ℤ → Change
change_of row = record { second = row.0; ahead = row.1; reserved = pos 0 }

-- the clock of a zone in a window: how far it is ahead of UTC so long before the window, and its changes from there to the window's end
abbrev pub IsClockIn : ℤ → ℤ → TimeZone → Result (ℤ × List Change) Reason → Type 0
IsClockIn first last tz (Ok clock) =
    IsCalmWindow tz (first -ℤ pos margin) last × (clock.0 ≡ ahead_at tz (first -ℤ pos margin))
    × (clock.1 ≡ map change_of (window_changes tz (first -ℤ pos margin) last))
IsClockIn first last tz (Err reasons.NotCalm) = ¬ (IsCalmWindow tz (first -ℤ pos margin) last)
IsClockIn first last tz (Err reasons.OutOfMemory) = Unit {0}
IsClockIn first last tz (Err other) = ⊥

-- a zone of the table that a file's bytes hold
abbrev pub IsFileZone : List ℕ → TimeZone → Type 0
IsFileZone bytes (zones.Tzif z) = (read_tzif bytes ≡ Ok (tzif_view z.now)) × RuleAgrees z.now
IsFileZone bytes other = ⊥

-- bytes that are no time zone file, or whose rule says otherwise than their table
abbrev pub IsNoFile : List ℕ → Type 0
IsNoFile bytes = ((fault : TzifFault) × (read_tzif bytes ≡ Err fault)) ⊎ HasBadRule (read_tzif bytes)

-- the zone of a file, or why there is none
abbrev pub IsZoneOfFile : List ℕ → Result TimeZone Reason → Type 0
IsZoneOfFile bytes (Ok tz) = IsFileZone bytes tz
IsZoneOfFile bytes (Err reasons.BadZone) = IsNoFile bytes
IsZoneOfFile bytes (Err reasons.OutOfMemory) = Unit {0}
IsZoneOfFile bytes (Err other) = ⊥

-- the zone of a POSIX rule, or that it is none
abbrev pub IsZoneOfRule : List ℕ → Result TimeZone Reason → Type 0
IsZoneOfRule rule (Ok tz) = IsUtf8 rule × IsPosixZone rule tz
IsZoneOfRule rule (Err reasons.BadZone) = ¬ (IsUtf8 rule) ⊎ (read_whole rule ≡ None)
IsZoneOfRule rule (Err other) = ⊥

-- a call with so many bytes at most, and a window
abbrev pub asked_zone : ℕ → List ℕ → ℤ → ℤ → Result (Unit {0}) Reason
asked_zone most bytes first last = if nat_le (length bytes) most && is_window first last then Ok tt else Err reasons.BadArgument

-- of a call with a file
abbrev pub IsClockOfFile : List ℕ → ℤ → ℤ → Result (ℤ × List Change) Reason → Type 0
IsClockOfFile bytes first last answer =
    Then (asked_zone most_file_bytes bytes first last) (λ u. After (IsZoneOfFile bytes) (IsClockIn first last)) answer

-- of a call with a rule
abbrev pub IsClockOfRule : List ℕ → ℤ → ℤ → Result (ℤ × List Change) Reason → Type 0
IsClockOfRule rule first last answer =
    Then (asked_zone most_rule_bytes rule first last) (λ u. After (IsZoneOfRule rule) (IsClockIn first last)) answer

-- as many changes are written as there is room for, how far the clock is ahead before them, and how many they are; the status is 0, or 7 where not all fit
abbrev pub tell_clock : ℤ × List Change → List Change × (ℤ × ℕ) → ℤ × (List Change × (ℤ × ℕ))
tell_clock clock old = (if nat_le (length clock.1) (length old.0) then pos 0 else pos 7, (written clock.1 old.0, (clock.0, length clock.1)))

-- ---- of private contracts alone

-- a table as a clock
abbrev pub clock_of : ClockTable → ℤ × List Change
clock_of table = (table.first_offset, map change_of table.changes.items)

-- these parts, or lack of memory
abbrev pub HasClock : ℤ × List Change → Result (ℤ × List Change) Reason → Type 0
HasClock clock answer = OrLack (λ found. found ≡ clock) answer
