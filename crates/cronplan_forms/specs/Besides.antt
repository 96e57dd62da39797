-- What the clock of a second zone shows, beside that of a plan. Source: this crate's documentation.
use Rattle.std.specs.Prelude.{◌≡◌, ℕ, ℤ, List, [], ◌++◌, codes, Option, Some, None, option_copied}
use Rattle.croner_base.specs.declared.time.table.ClockTable.{ClockTable}
use Rattle.croner_base.specs.TableZone.{table_zone}
use Rattle.cronplan_forms.specs.declared.beside.Beside.{Beside}
use Rattle.cronplan_forms.specs.declared.beside.Beside.TheVariants as besides
use Rattle.cronplan_forms.specs.declared.beside.OtherClock.{OtherClock}
use Rattle.cronplan_forms.specs.declared.beside.ShownTime.{ShownTime}
use Rattle.cronplan_forms.specs.declared.clock.ClockTime.{ClockTime}
use Rattle.cronplan_forms.specs.declared.view.View.{View}
use Rattle.cronplan_forms.specs.Clocks.{IsClockAt, clock_time_text}

-- what the clock of a table shows at a second, if there is one: else it isn't followed
abbrev pub IsBesideOn : Option ClockTable → ℤ → Beside → Type 0
IsBesideOn None second b = b ≡ besides.Unfollowed
IsBesideOn (Some table) second b = (t : ClockTime) × (b ≡ besides.Shown t) × IsClockAt (table_zone table) second t

-- the same of the clock of a second zone, if one is shown
abbrev pub IsBeside : Option OtherClock → ℤ → Beside → Type 0
IsBeside None second b = b ≡ besides.Nothing
IsBeside (Some other) second b = IsBesideOn (option_copied other.table) second b

-- what the clock of a view shows at a second, and that of the second zone
pub record IsShownTime (v : View) (second : ℤ) (t : ShownTime) : Type 0 where
  pub own_is : IsClockAt (table_zone v.table.now) second t.own
  pub beside_is : IsBeside v.other second t.beside

-- the same text of that clock after an equals sign; nothing where none is shown or followed
abbrev pub beside_text : Beside → List ℕ
beside_text besides.Nothing = []
beside_text besides.Unfollowed = []
beside_text (besides.Shown t) = codes " = " ++ clock_time_text t

-- both as a text
abbrev pub shown_time_text : ShownTime → List ℕ
shown_time_text t = clock_time_text t.own ++ beside_text t.beside
