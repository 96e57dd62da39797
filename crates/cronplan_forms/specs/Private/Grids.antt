-- The grids of months, one below the other.
use Rattle.std.specs.Prelude.{◌≡◌, ◌||◌, ℕ, ℤ, List, string_bytes}
use Rattle.std.specs.List.{list_any}
use Rattle.cronplan.specs.declared.job_dates.DateRange.{DateRange}
use Rattle.cronplan_forms.specs.declared.month.Month.{Month}
use Rattle.cronplan_forms.specs.declared.month.Titled.{Titled}
use Rattle.cronplan_forms.specs.declared.month.of_plan.Grids.{Grids}
use Rattle.cronplan_forms.specs.Apart.{set_apart}
use Rattle.cronplan_forms.specs.Months.{grids_text, has_marks, month_text}
use Rattle.cronplan_forms.specs.PlanMonths.{AreMonths, IsMonth}

-- the grids of so many months from one on
pub record HasMonths (dates : DateRange) (titles : List Titled) (first : ℤ) (count : ℕ) (grids : Grids) : Type 0 where
  pub months : List Month
  pub are_months : AreMonths dates titles first count months
  pub text_is : string_bytes grids.text ≡ grids_text months
  pub mark_is : grids.is_marked ≡ list_any has_marks months

-- a month more
pub record AddsMonth (dates : DateRange) (titles : List Titled) (month : ℤ) (old new : Grids) : Type 0 where
  pub shown : Month
  pub is_month : IsMonth dates titles month shown
  pub text_is : string_bytes new.text ≡ set_apart (string_bytes old.text) (month_text shown)
  pub mark_is : new.is_marked ≡ (old.is_marked || has_marks shown)
