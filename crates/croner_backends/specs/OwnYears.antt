-- A language of the tests: English, with years of its own.
use Rattle.std.specs.Prelude.{ℕ, List, ◌++◌, codes}
use Rattle.croner_words.specs.English.{english, every_years}
use Rattle.croner_words.specs.Swedish.{a_with_ring}
use Rattle.croner_words.specs.Wording.{Wording}

-- the word for a year, and a list of years
abbrev pub own_word : List ℕ
own_word = a_with_ring ++ codes "r"

abbrev pub own_year : List ℕ → List ℕ
own_year years = own_word ++ (codes " " ++ years)

abbrev pub own_years : Wording
own_years = record english { every_minute = own_word; year_phrase = own_year; every_x_years = every_years own_year }
