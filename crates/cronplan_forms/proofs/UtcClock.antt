-- The clock of UTC.
use Rattle.std.proofs.Common.{◌≡◌, ℤ, pos, true, [], refl, arith, ap, ◌∙◌}
use Rattle.std.proofs.lemmas.Int.{ints}
use Rattle.croner_base.specs.declared.time.table.ClockTable.{ClockTable}
use Rattle.croner_base.specs.TableZone.{table_zone, clock}
use Rattle.croner_base.specs.Table.{is_calm_table, is_table_second}
use Rattle.croner_base.specs.Civil.{wall_second}
use Rattle.cronplan_forms.specs.declared.clock.ClockTime.{ClockTime}
use Rattle.cronplan_forms.specs.Clocks.{IsClockAt}
use Rattle.cronplan_forms.specs.PlanCalendars.{IsUtcTable}

-- it never changes
pub is_calm : is_calm_table (pos 0) [] ≡ true
unfolding is_calm_table
is_calm = refl

-- it shows the second
pub shows : (table : ClockTable) (second : ℤ) → IsUtcTable table → (table_zone table).reads second ≡ second
unfolding clock
shows table second utc = rw (utc.offset, utc.changes) (omega (arith, ints))

-- what it shows at a second, as a date and time
pub utc_shown : (table : ClockTable) (second : ℤ) (t : ClockTime) → IsUtcTable table → IsClockAt (table_zone table) second t → is_table_second second ≡ true → wall_second t.civil ≡ second
utc_shown table second t utc at inside = (at.shown inside).civil ∙ ap (table_zone table).reads at.second_is ∙ shows table second utc
