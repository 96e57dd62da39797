use Rattle.std.proofs.Common.{pos, ◌∙◌, rules, FitsSigned, w32}
use Rattle.std.specs.Int.{IsInRange}
use Rattle.std.proofs.lemmas.Int.{to_z-of_z}
use Rattle.croner_base.specs.Civil.{HasYmd}
use Rattle.croner_pattern.specs.Private.Cursor.{one_on, first_year, last_year, IsMatchingDate}
use Rattle.croner_pattern.proofs.civil.CivilOrder.{dates, date_start}
use Rattle.croner_pattern.proofs.civil.DateSearch.{days, years, date_at}
use Rattle.croner_pattern.proofs.civil.Foremost.{found, ended, skipped, in_low, in_middle, in_high}
use Rattle.croner_pattern.proofs.cursor.dates.next_date.Goals as goal

pub returns-in-Some : goal.returns-in-Some
returns-in-Some g c =
    let m = g.P.PatternWords.meaning c.args.pattern.now in
    let dir = c.args.direction in
    let date = c.args.date in
    let f : FitsSigned w32 c.year.result = search rules in
    let near = c.in-Some.ensures in
    let h = simp to_z-of_z at c.from_parts_unchecked.ensures in
    let ymd : HasYmd date.year date.month c.in-Some.day c.from_parts_unchecked.result = record {
      year_is = h.year_is ∙ c.year.ensures;
      month_is = h.month_is ∙ c.month.ensures;
      day_is = h.day_is;
    } in
    in_low (dates dir) (IsMatchingDate m) (date_start dir date) c.from_parts_unchecked.result
    (found (days m dir date.year date.month c.args.days c.requires.days) (one_on dir (pos date.day)) c.in-Some.day c.from_parts_unchecked.result near
    (date_at m dir _ _ _ _ c.from_parts_unchecked.result c.requires.days near.is ymd))

pub returns-in-Some-in_rest_of_year : goal.returns-in-Some-in_rest_of_year
returns-in-Some-in_rest_of_year g c =
    let m = g.P.PatternWords.meaning c.args.pattern.now in
    let dir = c.args.direction in
    let date = c.args.date in
    in_middle (dates dir) (IsMatchingDate m) (date_start dir date) c.in-Some-in_rest_of_year.found
    (ended (days m dir date.year date.month c.args.days c.requires.days) (one_on dir (pos date.day)) c.in_default.ensures) c.in-Some-in_rest_of_year.ensures

pub returns : goal.returns
returns g c =
    let m = g.P.PatternWords.meaning c.args.pattern.now in
    let dir = c.args.direction in
    let date = c.args.date in
    in_high (dates dir) (IsMatchingDate m) (date_start dir date) c.in_years.result
    (ended (days m dir date.year date.month c.args.days c.requires.days) (one_on dir (pos date.day)) c.in_default.ensures) c.in_default-in_rest_of_year.ensures
    (skipped (years m dir) (IsInRange first_year last_year) (λ n p. (p.low, p.high)) (one_on dir date.year) c.year_beyond.result c.year_beyond.ensures c.in_years.result c.in_years.ensures)
