-- The clocks of zones, and why there is none.
use Rattle.std.proofs.Common.{◌≡◌, ◌∙◌, refl, ap, inl, inr, ℕ, ℤ, pos, ◌-ℤ◌, List, map, Option, Some, None, IsSome, Result, Ok, Err}
use Rattle.jiff_core.specs.declared.error.Error.{Error}
use Rattle.jiff_core.specs.declared.error.Error.TheVariants.{Tzif as OfFile}
use Rattle.jiff_core.specs.declared.error.TzifFault.{TzifFault}
use Rattle.jiff_tz.specs.Tzif.{IsParseFailure}
use Rattle.jiff_tz.specs.declared.timezone.TimeZone.{TimeZone}
use Rattle.croner_base.specs.TableZone.{HasParts}
use Rattle.croner_base.specs.ZoneTable.{IsCalmWindow, IsNoTable, ahead_at, window_changes}
use Rattle.croner_base.specs.declared.errors.CronError.{CronError}
use Rattle.croner_base.specs.declared.errors.CronError.TheVariants.{InvalidTime}
use Rattle.croner_base.specs.declared.time.table.ClockTable.{ClockTable}
use Rattle.croner_c.specs.Zones.{margin, change_of, clock_of, IsClockIn, IsNoFile, HasClock}
use Rattle.croner_c.specs.declared.clock.Change.{Change}
use Rattle.croner_c.specs.declared.status.Reason.{Reason}
use Rattle.croner_c.specs.declared.status.Reason.TheVariants as reasons

-- the parts of the table of a zone are its clock
pub clock_in : (first last : ℤ) (tz : TimeZone) (table : ClockTable) (answer : Result (ℤ × List Change) Reason) → IsCalmWindow tz (first -ℤ pos margin) last
    → HasParts (ahead_at tz (first -ℤ pos margin)) (window_changes tz (first -ℤ pos margin) last) table → HasClock (clock_of table) answer → IsClockIn first last tz answer
clock_in first last tz table (Ok found) calm parts is =
    (calm, ap (λ (c : ℤ × List Change). c.0) is ∙ parts.first_is, ap (λ (c : ℤ × List Change). c.1) is ∙ ap (λ (rows : List (ℤ × ℤ)). map change_of rows) parts.changes_are)
clock_in first last tz table (Err reasons.Refused) calm parts is = absurd is
clock_in first last tz table (Err reasons.Limit) calm parts is = absurd is
clock_in first last tz table (Err reasons.OutOfMemory) calm parts is = tt
clock_in first last tz table (Err reasons.Outside) calm parts is = absurd is
clock_in first last tz table (Err reasons.NotCalm) calm parts is = absurd is
clock_in first last tz table (Err reasons.BadZone) calm parts is = absurd is
clock_in first last tz table (Err reasons.TooSmall) calm parts is = absurd is
clock_in first last tz table (Err reasons.BadArgument) calm parts is = absurd is

-- a table that isn't refused for want of memory isn't calm
pub not_calm : (tz : TimeZone) (first last : ℤ) (e : CronError) → e ≡ InvalidTime → IsNoTable tz first last e → ¬ (IsCalmWindow tz first last)
not_calm tz first last e is (inl h) = h.1
not_calm tz first last e is (inr h) = absurd (let lack = h.0 in cc)

-- bytes that the reader refuses for a fault of theirs
pub no_file : (bytes : List ℕ) (fault : TzifFault) (e : Error) → e ≡ OfFile fault → IsParseFailure e bytes → IsNoFile bytes
no_file bytes fault e is (inl (inl lack)) = absurd (cc)
no_file bytes fault e is (inl (inr (found, read, same))) = inl (found, read)
no_file bytes fault e is (inr (inconsistent, bad)) = inr bad

-- nothing, where it isn't something
pub none_of : {X : Type 0} (o : Option X) → (IsSome o → ⊥) → o ≡ None
none_of None lacks = refl
none_of (Some x) lacks = absurd (lacks refl)
