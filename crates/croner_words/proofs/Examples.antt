-- Texts of the two languages, computed from the definitions and held against plain letters.
use Rattle.std.proofs.Common.{◌≡◌, ℕ, List, [], ◌∷◌, map, refl, None, Some}
use Rattle.std.specs.Prelude.{codes, encode_utf8_all}
use Rattle.std.specs.Fmt.{digits}
use lib.Utf8.{encode}
use Rattle.croner_words.specs.English.{english}
use Rattle.croner_words.specs.Swedish.{swedish}

-- the bytes of a text
abbrev text : List ℕ → List ℕ
text letters = encode_utf8_all letters

at_noon : english.time_of_day 12 5 None ≡ text (codes "12:05")
unfolding digits encode
at_noon = refl

at_midnight : english.time_of_day 0 0 (Some 7) ≡ text (codes "00:00:07")
unfolding digits encode
at_midnight = refl

-- the suffix goes by the number, and not by its last digit
the_third : english.the_nth_weekday_of_the_month 3 (codes "Tuesday") ≡ text (codes "the 3rd Tuesday of the month")
unfolding digits encode
the_third = refl

the_eleventh : english.the_nth_weekday_of_the_month 11 (codes "Tuesday") ≡ text (codes "the 11th Tuesday of the month")
unfolding digits encode
the_eleventh = refl

the_twenty_first : english.the_nth_weekday_of_the_month 21 (codes "Tuesday") ≡ text (codes "the 21th Tuesday of the month")
unfolding digits encode
the_twenty_first = refl

every_two_years : english.every_x_years 2 ≡ text (codes "year every 2")
unfolding digits encode
every_two_years = refl

-- each Swedish text that has letters past ASCII
on_seconds : swedish.at_time_at_second (codes "14:00") (codes "5") ≡ text (codes "Klockan 14:00, på sekund 5")
unfolding encode
on_seconds = refl

on_days : swedish.on_phrase (codes "dag 1") ≡ text (codes "på dag 1")
unfolding encode
on_days = refl

past_each_hour : swedish.minute_past_every_hour_phrase (codes "minut 5") ≡ text (codes "minut 5 över varje heltimme")
unfolding encode
past_each_hour = refl

years : swedish.year_phrase (codes "2025") ≡ text (codes "år 2025")
unfolding encode
years = refl

last_day : swedish.the_last_day_of_the_month ≡ text (codes "sista dagen i månaden")
unfolding encode
last_day = refl

nearest_weekday : swedish.the_weekday_nearest_day (codes "15") ≡ text (codes "veckodagen närmast dag 15")
unfolding encode
nearest_weekday = refl

last_weekday : swedish.the_last_weekday_of_the_month (codes "fredag") ≡ text (codes "sista fredag i månaden")
unfolding encode
last_weekday = refl

first_weekday : swedish.the_nth_weekday_of_the_month 1 (codes "fredag") ≡ text (codes "den första fredag i månaden")
unfolding encode
first_weekday = refl

fourth_weekday : swedish.the_nth_weekday_of_the_month 4 (codes "fredag") ≡ text (codes "den fjärde fredag i månaden")
unfolding encode
fourth_weekday = refl

sixth_weekday : swedish.the_nth_weekday_of_the_month 6 (codes "fredag") ≡ text (codes "den  fredag i månaden")
unfolding encode
sixth_weekday = refl

if_also : swedish.dom_and_dow_if_also (codes "fredag") ≡ text (codes "(om det också är fredag)")
unfolding encode
if_also = refl

if_also_one : swedish.dom_and_dow_if_also_one_of (codes "fredag") ≡ text (codes "(om det också är en av: fredag)")
unfolding encode
if_also_one = refl

weekdays : swedish.day_of_week_names ≡ map text (codes "söndag" ∷ codes "måndag" ∷ codes "tisdag" ∷ codes "onsdag" ∷ codes "torsdag" ∷ codes "fredag" ∷ codes "lördag" ∷ [])
unfolding encode
weekdays = refl

every_two_months : swedish.every_x_months 2 ≡ text (codes "var 2:e månad")
unfolding digits encode
every_two_months = refl

every_two_years_in_swedish : swedish.every_x_years 2 ≡ text (codes "var 2:e år")
unfolding digits encode
every_two_years_in_swedish = refl
