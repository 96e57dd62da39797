-- The pattern of a call: its settings by their number, and its text.
use Rattle.std.specs.Prelude.{◌≡◌, ◌⊎◌, ◌==◌, ◌/◌, ◌%◌, nat_lt, if◌then◌else◌, Bool, true, false, ℕ, ℤ, pos, List, Result, Ok, Err, IsUtf8}
use Rattle.std.specs.Ordering.{int_eq}
use Rattle.croner_pattern.specs.Meaning.{Meaning}
use Rattle.croner.specs.declared.parser.Seconds.{Seconds}
use Rattle.croner.specs.declared.parser.Seconds.TheVariants as seconds
use Rattle.croner.specs.declared.parser.Year.{Year}
use Rattle.croner.specs.declared.parser.Year.TheVariants as year
use Rattle.croner.specs.parser.Grammar.{Refusal, outcome}
use Rattle.croner.specs.parser.Settings.{Settings}
use Rattle.croner_c.specs.Clocks.{is_accepted}
use Rattle.croner_c.specs.declared.clock.Clock.{Clock}
use Rattle.croner_c.specs.declared.status.Reason.{Reason}
use Rattle.croner_c.specs.declared.status.Reason.TheVariants as reasons

-- whether there is a second, by two bits
abbrev pub seconds_by : ℕ → Result Seconds Reason
seconds_by n =
    if n == 0 then Ok seconds.Optional else (if n == 1 then Ok seconds.Required else (if n == 2 then Ok seconds.Disallowed else Err reasons.BadArgument))

-- whether there is a year, by two bits
abbrev pub year_by : ℕ → Result Year Reason
year_by n = if n == 0 then Ok year.Optional else (if n == 1 then Ok year.Required else (if n == 2 then Ok year.Disallowed else Err reasons.BadArgument))

-- the settings of a number, once its lowest bits are read
abbrev pub with_fields : ℕ → Result Seconds Reason → Result Year Reason → Result Settings Reason
with_fields n (Ok s) (Ok y) = Ok (record { seconds_field = s; year_field = y; both_days = n / 16 % 2 == 1; quartz = n / 32 % 2 == 1; sloppy = n / 64 == 1 })
with_fields n (Ok s) (Err r) = Err r
with_fields n (Err r) y = Err r

-- the settings of a number: two bits for the second, two for the year, and a bit for each of the three others
abbrev pub settings_of : ℕ → Result Settings Reason
settings_of n = if nat_lt n 128 then with_fields n (seconds_by (n % 4)) (year_by (n / 4 % 4)) else Err reasons.BadArgument

-- a mark: 0 or 1
abbrev pub mark_of : ℤ → Result Bool Reason
mark_of k = if int_eq k (pos 0) then Ok false else (if int_eq k (pos 1) then Ok true else Err reasons.BadArgument)

-- the settings and the mark of a call, where its clock is accepted too
abbrev pub with_mark : Bool → Result Settings Reason → Result Bool Reason → Result (Settings × Bool) Reason
with_mark true (Ok s) (Ok mark) = Ok (s, mark)
with_mark false (Ok s) (Ok mark) = Err reasons.BadArgument
with_mark accepted (Ok s) (Err r) = Err r
with_mark accepted (Err r) mark = Err r

-- the settings and the mark of a call, if it is accepted
abbrev pub asked : ℕ → ℤ → Clock → Result (Settings × Bool) Reason
asked n k c = with_mark (is_accepted c) (settings_of n) (mark_of k)

-- a text is no pattern
abbrev pub IsNoPattern : Settings → List ℕ → Type 0
IsNoPattern s text = ¬ (IsUtf8 text) ⊎ ((refusal : Refusal) × (outcome s text ≡ Err refusal))

-- the pattern of a text, or why there is none
abbrev pub IsPattern : Settings → List ℕ → Result Meaning Reason → Type 0
IsPattern s text (Ok m) = IsUtf8 text × (outcome s text ≡ Ok m)
IsPattern s text (Err reasons.Refused) = IsNoPattern s text
IsPattern s text (Err reasons.OutOfMemory) = Unit {0}
IsPattern s text (Err other) = ⊥
