-- Lists of what has a time: one element more.
use Rattle.std.proofs.Common.{◌≡◌, ℤ, pos, ◌-ℤ◌, true, List, [], ◌∷◌, ◌++◌, subst, arith, w64}
use Rattle.std.specs.Int.{saturate_signed}
use Rattle.std.proofs.lemmas.Int.{ints, clamps}
use Rattle.croner_base.specs.Table.{is_table_second}
use Rattle.croner_base.specs.Zone.{Zone}
use Rattle.cronplan.specs.declared.changes.ClockChange.{ClockChange}
use Rattle.cronplan.specs.declared.start.JobStart.{JobStart}
use Rattle.cronplan_forms.specs.declared.view.View.{View}
use Rattle.cronplan_forms.specs.Besides.{IsShownTime}
use Rattle.cronplan_forms.specs.Clocks.{IsClockAt}
use Rattle.cronplan_forms.proofs.Gathered.{each_more}
use Rattle.cronplan_forms.proofs.TimedLists.{seen_more}
use Rattle.cronplan_page.specs.declared.timed.TimedChange.{TimedChange}
use Rattle.cronplan_page.specs.declared.timed.TimedStart.{TimedStart}
use Rattle.cronplan_page.specs.Timed.{IsTimedStart, IsTimedChange, AreTimedStarts, AreTimedChanges}

pub starts_more : (v : View) (starts : List JobStart) (old new : List TimedStart) (s : JobStart) (t : TimedStart) → AreTimedStarts v starts old
    → new ≡ old ++ t ∷ [] → t.start ≡ s → IsShownTime v t.start.second t.time → AreTimedStarts v (starts ++ s ∷ []) new
starts_more v starts old new s t h e is at = record {
  starts_are = seen_more (λ (u : TimedStart). u.start) old new t starts s e h.starts_are is;
  times_are = each_more (IsTimedStart v) old new t e h.times_are (record { time_is = at });
}

pub changes_more : (z : Zone) (changes : List ClockChange) (old new : List TimedChange) (c : ClockChange) (t : TimedChange) → AreTimedChanges z changes old
    → new ≡ old ++ t ∷ [] → t.change ≡ c → IsTimedChange z t → AreTimedChanges z (changes ++ c ∷ []) new
changes_more z changes old new c t h e is at = record {
  changes_are = seen_more (λ (u : TimedChange). u.change) old new t changes c e h.changes_are is;
  times_are = each_more (IsTimedChange z) old new t e h.times_are at;
}

-- a second of a table has one before it in 64 bits
pub second_before : (i r : ℤ) → is_table_second i ≡ true → r ≡ saturate_signed w64 (i -ℤ pos 1) → r ≡ i -ℤ pos 1
second_before i r h e = grind (arith, ints, clamps)

-- a change with what the clock shows then, and at the second before
pub change_timed : (z : Zone) (t : TimedChange) (r : ℤ) → IsClockAt z t.change.second t.shown → r ≡ saturate_signed w64 (t.change.second -ℤ pos 1)
    → IsClockAt z r t.before → IsTimedChange z t
change_timed z t r shown e before = record {
  shown_is = shown;
  before_is = λ held. subst (λ (i : ℤ). IsClockAt z i t.before) (second_before t.change.second r held e) before;
}
