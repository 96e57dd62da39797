-- What a language means: for each function of `Language` the text that it gives for its arguments.
use Rattle.std.specs.Prelude.{ℕ, List, Option}

-- texts are lists of bytes, and the names of the days begin with Sunday's
pub record Wording : Type 0 where
  pub every_minute : List ℕ
  pub every_second_phrase : List ℕ
  pub every_x_minutes : ℕ → List ℕ
  pub every_x_seconds : ℕ → List ℕ
  pub every_x_hours : ℕ → List ℕ
  pub every_minute_of_every_x_hours : ℕ → List ℕ
  pub at_time : List ℕ → List ℕ
  pub at_time_and_every_x_seconds : List ℕ → ℕ → List ℕ
  pub at_time_at_second : List ℕ → List ℕ → List ℕ
  pub at_phrase : List ℕ → List ℕ
  pub on_phrase : List ℕ → List ℕ
  pub in_phrase : List ℕ → List ℕ
  pub second_phrase : List ℕ → List ℕ
  pub minute_phrase : List ℕ → List ℕ
  pub minute_past_every_hour_phrase : List ℕ → List ℕ
  pub hour_phrase : List ℕ → List ℕ
  pub year_phrase : List ℕ → List ℕ
  pub day_phrase : List ℕ → List ℕ
  pub the_last_day_of_the_month : List ℕ
  pub the_weekday_nearest_day : List ℕ → List ℕ
  pub the_last_weekday_of_the_month : List ℕ → List ℕ
  pub the_nth_weekday_of_the_month : ℕ → List ℕ → List ℕ
  pub dom_and_dow_if_also : List ℕ → List ℕ
  pub dom_and_dow_if_also_one_of : List ℕ → List ℕ
  pub list_conjunction_and : List ℕ
  pub list_conjunction_or : List ℕ
  pub list_conjunction_and_comma : List ℕ
  pub day_of_week_names : List (List ℕ)
  pub month_names : List (List ℕ)
  pub time_of_day : ℕ → ℕ → Option ℕ → List ℕ
  pub every_past_phrase : List ℕ → List ℕ → List ℕ
  pub past_hour_phrase : List ℕ → List ℕ
  pub every_x_months : ℕ → List ℕ
  pub every_x_years : ℕ → List ℕ
