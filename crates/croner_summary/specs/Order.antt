-- How the pieces of a phrase stand: each lies in its field, they name no value twice, and they rise.
use Rattle.std.specs.Prelude.{◌≡◌, ℕ, ◌+◌, ◌-◌, ◌≤◌, nat_lt, nat_le, Bool, true, ◌&&◌, ◌==◌, List, [], ◌∷◌, count_by, if◌then◌else◌, ⊤}
use Rattle.std.specs.List.{list_all}
use Rattle.croner_summary.specs.declared.days.Days.{Days}
use Rattle.croner_summary.specs.declared.days.Days.TheVariants.{Every as EveryDay, OfMonth, OfWeek, Either, Both}
use Rattle.croner_summary.specs.declared.days.MonthDays.{MonthDays}
use Rattle.croner_summary.specs.declared.days.Weekdays.{Weekdays}
use Rattle.croner_summary.specs.declared.phrase.Phrase.{Phrase}
use Rattle.croner_summary.specs.declared.phrase.Piece.{Piece}
use Rattle.croner_summary.specs.declared.phrase.Piece.TheVariants.{Every, EveryNth, One, Range, RangeNth}
use Rattle.croner_summary.specs.declared.summary.Summary.{Summary}
use Rattle.croner_summary.specs.Says.{is_in, is_stepwise, is_within}

-- a range of the field has two values at least
abbrev pub is_range_of : ℕ → ℕ → ℕ → ℕ → Bool
is_range_of least greatest first last = nat_le least first && (nat_lt first last && nat_le last greatest)

-- a piece lies in its field: each number in it is a value of the field, a step is one of two at least, and a range's last value is reached
abbrev pub is_of_field : ℕ → ℕ → Piece → Bool
is_of_field least greatest Every = true
is_of_field least greatest (EveryNth n) = nat_lt 1 n && (nat_lt n ((greatest + 1) - least) && is_stepwise n ((greatest + 1) - least))
is_of_field least greatest (One value) = is_within least greatest value
is_of_field least greatest (Range first last) = is_range_of least greatest first last
is_of_field least greatest (RangeNth first last n) = is_range_of least greatest first last && (nat_lt 1 n && is_stepwise n (last - first))

-- how many pieces name a value
abbrev pub times_named : ℕ → ℕ → List Piece → ℕ → ℕ
times_named least greatest pieces value = count_by (λ piece. is_in least greatest piece value) pieces

-- the place of a value by itself in a list. Sunday comes after Saturday, with which no other field ends
abbrev pub place_of : ℕ → ℕ → ℕ
place_of greatest value = if greatest == 6 && value == 0 then 7 else value

-- where a piece begins in a list
abbrev pub start_of : ℕ → ℕ → Piece → ℕ
start_of least greatest Every = least
start_of least greatest (EveryNth n) = least
start_of least greatest (One value) = place_of greatest value
start_of least greatest (Range first last) = first
start_of least greatest (RangeNth first last n) = first

-- where it ends
abbrev pub end_of : ℕ → ℕ → Piece → ℕ
end_of least greatest Every = greatest
end_of least greatest (EveryNth n) = greatest
end_of least greatest (One value) = place_of greatest value
end_of least greatest (Range first last) = last
end_of least greatest (RangeNth first last n) = last

-- pieces rise from a place on: each begins after the one before it ends
abbrev pub rise_from : ℕ → ℕ → ℕ → List Piece → Bool
rise_from least greatest from [] = true
rise_from least greatest from (piece ∷ more) = nat_le from (start_of least greatest piece) && rise_from least greatest (end_of least greatest piece + 1) more

-- the pieces beside a step of the whole field, which comes first
abbrev pub beside_step : List Piece → List Piece
beside_step [] = []
beside_step (EveryNth n ∷ more) = more
beside_step (Every ∷ more) = Every ∷ more
beside_step (One value ∷ more) = One value ∷ more
beside_step (Range first last ∷ more) = Range first last ∷ more
beside_step (RangeNth first last n ∷ more) = RangeNth first last n ∷ more

-- the pieces of a field stand in order
pub record AreInOrder (least greatest : ℕ) (pieces : List Piece) : Type 0 where
  pub within : list_all (λ piece. is_of_field least greatest piece) pieces ≡ true
  pub once : (value : ℕ) → least ≤ value → value ≤ greatest → times_named least greatest pieces value ≤ 1
  pub rising : rise_from least greatest least (beside_step pieces) ≡ true

abbrev pub IsInOrder : ℕ → ℕ → Phrase → Type 0
IsInOrder least greatest phrase = AreInOrder least greatest phrase.pieces.items

pub record AreMonthDaysInOrder (d : MonthDays) : Type 0 where
  pub numbers : IsInOrder 1 31 d.numbers
  pub nearest : IsInOrder 1 31 d.nearest

pub record AreWeekdaysInOrder (w : Weekdays) : Type 0 where
  pub each : IsInOrder 0 6 w.each
  pub first : IsInOrder 0 6 w.first
  pub second : IsInOrder 0 6 w.second
  pub third : IsInOrder 0 6 w.third
  pub fourth : IsInOrder 0 6 w.fourth
  pub fifth : IsInOrder 0 6 w.fifth
  pub last : IsInOrder 0 6 w.last

abbrev pub AreDaysInOrder : Days → Type 0
AreDaysInOrder EveryDay = ⊤
AreDaysInOrder (OfMonth d) = AreMonthDaysInOrder d
AreDaysInOrder (OfWeek w) = AreWeekdaysInOrder w
AreDaysInOrder (Either d w) = AreMonthDaysInOrder d × AreWeekdaysInOrder w
AreDaysInOrder (Both d w) = AreMonthDaysInOrder d × AreWeekdaysInOrder w

-- each phrase of a summary has its pieces in order
pub record IsWrittenInOrder (s : Summary) : Type 0 where
  pub seconds : IsInOrder 0 59 s.seconds
  pub minutes : IsInOrder 0 59 s.minutes
  pub hours : IsInOrder 0 23 s.hours
  pub days : AreDaysInOrder s.days
  pub months : IsInOrder 1 12 s.months
  pub years : IsInOrder 1 5000 s.years
