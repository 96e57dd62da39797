-- Worked rows of what comments allow, computed from the definitions.
use Rattle.std.proofs.Common.{◌≡◌, ℕ, List, [], ◌∷◌, true, false, Some, None, refl}
use Rattle.std.specs.Prelude.{codes}
use Rattle.crontab.specs.Line.{blank, comment, setting, refused}
use Rattle.crontab.specs.declared.line.Fault.TheVariants as faults
use Rattle.croncheck_report.specs.Allowed.{list_in, names_in, unknown_name_in, allowed_after, is_listed, allowable, hangs_on_clock}

-- ---- comments

a_list : list_in (codes "# croncheck: allow percent") ≡ Some (codes "percent")
a_list = refl

blanks_between : list_in (codes "  #croncheck: \t allow  percent, gap") ≡ Some (codes "percent, gap")
blanks_between = refl

another_word : list_in (codes "# croncheck: allowed percent") ≡ None
another_word = refl

a_comment_for_people : list_in (codes "# cron: allow percent") ≡ None
a_comment_for_people = refl

an_empty_list : list_in (codes "# croncheck: allow") ≡ Some []
an_empty_list = refl

-- ---- names

-- the names stand in the order of the table, each once, whatever stands between them
some_names : names_in (codes "percent,either-day, percent\r") ≡ codes "either-day" ∷ codes "percent" ∷ []
some_names = refl

-- one letter less
no_name : names_in (codes "percen") ≡ []
no_name = refl

a_missing_feed_is_never_allowed : is_listed allowable (codes "no-newline") ≡ false
a_missing_feed_is_never_allowed = refl

known : unknown_name_in (codes "# croncheck: allow percent, gap") ≡ None
known = refl

unknown : unknown_name_in (codes "# croncheck: allow percent, eiter-day, x") ≡ Some (codes "eiter-day")
unknown = refl

unknown_elsewhere : unknown_name_in (codes "# allow eiter-day") ≡ None
unknown_elsewhere = refl

-- ---- to whom

abbrev the_percent_sign : List (List ℕ)
the_percent_sign = codes "percent" ∷ []

after_a_blank_line : allowed_after blank [] the_percent_sign ≡ the_percent_sign
after_a_blank_line = refl

after_a_comment : allowed_after comment (codes "# each night") the_percent_sign ≡ the_percent_sign
after_a_comment = refl

the_last_comment_counts : allowed_after comment (codes "# croncheck: allow gap") the_percent_sign ≡ codes "gap" ∷ []
the_last_comment_counts = refl

after_a_setting : allowed_after (setting false) (codes "A=1") the_percent_sign ≡ []
after_a_setting = refl

after_a_refused_line : allowed_after (refused faults.Minutes) (codes "x") the_percent_sign ≡ []
after_a_refused_line = refl

-- ---- what hangs on zone and date

a_gap : hangs_on_clock (codes "gap") ≡ true
a_gap = refl

a_percent_sign : hangs_on_clock (codes "percent") ≡ false
a_percent_sign = refl
