-- Swedish: the text of each function. Letters past ASCII are written as the bytes of their UTF-8.
use Rattle.std.specs.Prelude.{ℕ, nat_eq, List, [], ◌∷◌, ◌++◌, codes, decimal, if◌then◌else◌}
use Rattle.croner_words.specs.Numbers.{clock_text}
use Rattle.croner_words.specs.Wording.{Wording}

-- å, ä and ö
abbrev pub a_with_ring : List ℕ
a_with_ring = 195 ∷ 165 ∷ []

abbrev pub a_with_dots : List ℕ
a_with_dots = 195 ∷ 164 ∷ []

abbrev pub o_with_dots : List ℕ
o_with_dots = 195 ∷ 182 ∷ []

-- on, year, month and the month
abbrev pub on : List ℕ
on = codes "p" ++ a_with_ring

abbrev pub year : List ℕ
year = a_with_ring ++ codes "r"

abbrev pub month : List ℕ
month = codes "m" ++ (a_with_ring ++ codes "nad")

abbrev pub of_the_month : List ℕ
of_the_month = codes " i " ++ (month ++ codes "en")

-- first to fifth
abbrev pub ordinal : ℕ → List ℕ
ordinal n =
    if nat_eq n 1 then codes "f" ++ (o_with_dots ++ codes "rsta")
    else (if nat_eq n 2 then codes "andra"
    else (if nat_eq n 3 then codes "tredje"
    else (if nat_eq n 4 then codes "fj" ++ (a_with_dots ++ codes "rde")
    else (if nat_eq n 5 then codes "femte" else []))))

-- every so many: the step and a thing
abbrev pub every_so_many : ℕ → List ℕ → List ℕ
every_so_many step thing = codes "var " ++ (decimal step ++ (codes ":e " ++ thing))

-- the words of Swedish
abbrev pub swedish : Wording
swedish = record {
  every_minute = codes "Varje minut";
  every_second_phrase = codes "Varje sekund";
  every_x_minutes = λ step. every_so_many step (codes "minut");
  every_x_seconds = λ step. every_so_many step (codes "sekund");
  every_x_hours = λ step. every_so_many step (codes "timme");
  every_minute_of_every_x_hours = λ step. codes "Varje minut, " ++ every_so_many step (codes "timme");
  at_time = λ time. codes "Klockan " ++ time;
  at_time_and_every_x_seconds = λ time step. codes "Klockan " ++ (time ++ (codes ", " ++ every_so_many step (codes "sekund")));
  at_time_at_second = λ time seconds. codes "Klockan " ++ (time ++ (codes ", " ++ (on ++ (codes " sekund " ++ seconds))));
  at_phrase = λ phrase. codes "Vid " ++ phrase;
  on_phrase = λ phrase. on ++ (codes " " ++ phrase);
  in_phrase = λ phrase. codes "i " ++ phrase;
  second_phrase = λ seconds. codes "sekund " ++ seconds;
  minute_phrase = λ minutes. codes "minut " ++ minutes;
  minute_past_every_hour_phrase = λ minutes. minutes ++ (codes " " ++ (o_with_dots ++ codes "ver varje heltimme"));
  hour_phrase = λ hours. codes "timme " ++ hours;
  year_phrase = λ years. year ++ (codes " " ++ years);
  day_phrase = λ days. codes "dag " ++ days;
  the_last_day_of_the_month = codes "sista dagen" ++ of_the_month;
  the_weekday_nearest_day = λ days. codes "veckodagen n" ++ (a_with_dots ++ (codes "rmast dag " ++ days));
  the_last_weekday_of_the_month = λ names. codes "sista " ++ (names ++ of_the_month);
  the_nth_weekday_of_the_month = λ n names. codes "den " ++ (ordinal n ++ (codes " " ++ (names ++ of_the_month)));
  dom_and_dow_if_also = λ weekdays. codes "(om det ocks" ++ (a_with_ring ++ (codes " " ++ (a_with_dots ++ (codes "r " ++ (weekdays ++ codes ")")))));
  dom_and_dow_if_also_one_of = λ weekdays. codes "(om det ocks" ++ (a_with_ring ++ (codes " " ++ (a_with_dots ++ (codes "r en av: " ++ (weekdays ++ codes ")")))));
  list_conjunction_and = codes "och";
  list_conjunction_or = codes "eller";
  list_conjunction_and_comma = codes "och";
  day_of_week_names = (codes "s" ++ (o_with_dots ++ codes "ndag")) ∷ (codes "m" ++ (a_with_ring ++ codes "ndag")) ∷ codes "tisdag" ∷ codes "onsdag" ∷ codes "torsdag" ∷ codes "fredag" ∷ (codes "l" ++ (o_with_dots ++ codes "rdag")) ∷ [];
  month_names = codes "januari" ∷ codes "februari" ∷ codes "mars" ∷ codes "april" ∷ codes "maj" ∷ codes "juni" ∷ codes "juli" ∷ codes "augusti" ∷ codes "september" ∷ codes "oktober" ∷ codes "november" ∷ codes "december" ∷ [];
  time_of_day = clock_text;
  every_past_phrase = λ every hours. every ++ (codes " under " ++ hours);
  past_hour_phrase = λ hours. codes "timme " ++ hours;
  every_x_months = λ step. every_so_many step month;
  every_x_years = λ step. every_so_many step year;
}
