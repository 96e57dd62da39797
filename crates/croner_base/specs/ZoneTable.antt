-- The table of what a zone of jiff shows in a window: its offset at the window's first second, and each change up to the last.
-- Source: this crate's documentation of `ClockTable::of_zone`.
use Rattle.std.specs.Prelude.{◌≡◌, ◌⊎◌, ℕ, zero, suc, IsTrue, if◌then◌else◌, int_lt, ℤ, pos, ◌+ℤ◌, ◌-ℤ◌, ◌≤ℤ◌, unsigned_abs, List, [], ◌∷◌, ◌++◌}
use Rattle.std.specs.Ordering.{int_eq}
use Rattle.jiff_core.specs.Timestamp.{nanos_of_seconds}
use Rattle.jiff_tz.specs.Zone.{offset_at}
use Rattle.jiff_tz.specs.declared.timezone.TimeZone.{TimeZone}
use Rattle.croner_base.specs.declared.errors.CronError.{CronError}
use Rattle.croner_base.specs.declared.errors.CronError.TheVariants.{InvalidTime, OutOfMemory}
use Rattle.croner_base.specs.Table.{is_calm_table}
use Rattle.croner_base.specs.ZonedZone.{first_timestamp, last_timestamp}

-- a first second and a last one that does not lie before it, both of jiff's instants
pub record IsWindow (first last : ℤ) : Type 0 where
  pub held_first : first_timestamp ≤ℤ first
  pub order : first ≤ℤ last
  pub held_last : last ≤ℤ last_timestamp

-- how far a zone's clock is ahead of UTC at a whole second
abbrev pub ahead_at : TimeZone → ℤ → ℤ
ahead_at tz i = offset_at tz (nanos_of_seconds i)

-- the change at a second, if the offset there is not that of the second before
abbrev pub change_at : (ℤ → ℤ) → ℤ → List (ℤ × ℤ)
change_at offset i = if int_eq (offset i) (offset (i -ℤ pos 1)) then [] else (i, offset i) ∷ []

-- the changes at the n seconds after a second
unfoldable pub changes_after : (ℤ → ℤ) → ℤ → ℕ → List (ℤ × ℤ)
changes_after offset first zero = []
changes_after offset first (suc n) = changes_after offset first n ++ change_at offset (first +ℤ pos (suc n))

-- the changes of a zone's clock after the first second of a window, up to its last
abbrev pub window_changes : TimeZone → ℤ → ℤ → List (ℤ × ℤ)
window_changes tz first last = changes_after (ahead_at tz) first (unsigned_abs (last -ℤ first))

-- a window whose table is calm
pub record IsCalmWindow (tz : TimeZone) (first last : ℤ) : Type 0 where
  pub window : IsWindow first last
  pub calm : IsTrue (is_calm_table (ahead_at tz first) (window_changes tz first last))

-- why there is no table: it is not calm, or memory is lacking in a window
abbrev pub IsNoTable : TimeZone → ℤ → ℤ → CronError → Type 0
IsNoTable tz first last e =
    ((e ≡ InvalidTime) × ¬ (IsCalmWindow tz first last)) ⊎ ((e ≡ OutOfMemory) × IsWindow first last)

-- the second of a window that is nearest to an instant
abbrev pub nearest_in : ℤ → ℤ → ℤ → ℤ
nearest_in first last i = if int_lt i first then first else (if int_lt last i then last else i)
