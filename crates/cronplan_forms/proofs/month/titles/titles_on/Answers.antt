use Rattle.std.proofs.Common.{◌∙◌, rules, of_calls, ap, filter, int_le, int_lt, List, w64, ℤ}
use Rattle.std.proofs.lemmas.Fn.{always_returns_same}
use Rattle.std.proofs.lemmas.Int.{to_z-of_z}
use Rattle.cronplan_forms.specs.declared.month.Titled.{Titled}
use Rattle.cronplan_forms.proofs.TitleDates.{earlier_first, last_part, titles_upto}
use Rattle.cronplan_forms.proofs.month.titles.titles_on.Goals as goal

pub returns : goal.returns
returns c =
    let date = c.args.date in
    let titles = c.args.titles.now in
    let point = c.partition_point-earlier.ensures.partitioned (λ (t : Titled). int_lt t.date date) (always_returns_same _ _ _ (λ a r f k. search (rules, of_calls, to_z-of_z)))
    (earlier_first date titles c.requires) in
    c.titles_first.ensures ∙ ap (λ (i : ℤ). filter (λ (t : Titled). int_le t.date i) c.split_at.result.1.now) (to_z-of_z w64 date c.ranges.date)
    ∙ ap (λ (xs : List Titled). filter (λ (t : Titled). int_le t.date date) xs)
    (c.split_at.ensures.back ∙ last_part (λ (t : Titled). int_lt t.date date) titles c.partition_point-earlier.result c.partition_point-earlier.ensures.bound point)
    ∙ titles_upto date titles
