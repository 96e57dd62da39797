-- Titles by their dates, and the numbers of months.
use Rattle.std.specs.Prelude.{◌≡◌, ℤ, pos, neg_ℤ, ◌≤ℤ◌, ◌<ℤ◌, Bool, List, filter}
use Rattle.std.specs.List.Sorted.{IsSortedByKey}
use Rattle.std.specs.Ordering.{int_cmp, int_eq}
use Rattle.cronplan_forms.specs.declared.month.Titled.{Titled}

-- a title stands on a date
abbrev pub is_on : ℤ → Titled → Bool
is_on date t = int_eq t.date date

-- titles in order of their dates
abbrev pub AreByDate : List Titled → Type 0
AreByDate titles = IsSortedByKey (λ t. t.date) int_cmp titles

-- each date has the same titles in the same order
abbrev pub HaveSameDates : List Titled → List Titled → Type 0
HaveSameDates titles others = (date : ℤ) → filter (is_on date) others ≡ filter (is_on date) titles

-- a month of a year of 32 bits
pub record IsMonthNumber (month : ℤ) : Type 0 where
  pub low : neg_ℤ (pos 25_769_803_776) ≤ℤ month
  pub high : month <ℤ pos 25_769_803_776
