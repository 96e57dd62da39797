-- Worked values of the definitions of the search over the wall clock.
use Rattle.std.proofs.Common.{◌≡◌, ◌+◌, ◌-◌, true, false, refl, arith, pos, negsuc, neg_ℤ}
use Rattle.std.specs.Int.{bit_at}
use Rattle.croner_base.specs.declared.time.Direction.TheVariants.{Forward, Backward}
use Rattle.croner_base.specs.Limits.{first_year, last_year}
use Rattle.croner_pattern.specs.Private.Cursor.{one_on, has_room, month_kind, kind_of, HasDay}

before_last_year : has_room Forward (pos (last_year - 1)) ≡ true
before_last_year = refl

at_last_year : has_room Forward (pos last_year) ≡ false
at_last_year = refl

after_first_year : has_room Backward (pos (first_year + 1)) ≡ true
after_first_year = refl

at_first_year : has_room Backward (pos first_year) ≡ false
at_first_year = refl

far_past : has_room Forward (neg_ℤ (pos 9999)) ≡ true
far_past = refl

far_future : has_room Backward (pos 9999) ≡ true
far_future = refl

before_zero : one_on Backward (pos 0) ≡ negsuc 0
before_zero = refl

shortest_month_from_sunday : month_kind 28 0 ≡ 0
shortest_month_from_sunday = refl

longest_month_from_saturday : month_kind 31 6 ≡ 27
longest_month_from_saturday = refl

common_year_from_monday : kind_of false 1 ≡ 1
common_year_from_monday = refl

leap_year_from_saturday : kind_of true 6 ≡ 13
leap_year_from_saturday = refl

third_day : HasDay 4 3
third_day = record { low = omega arith; bit = refl }

not_the_second : bit_at 4 (2 - 1) ≡ 0
not_the_second = refl
