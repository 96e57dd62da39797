use Rattle.std.proofs.Common.{◌∙◌, rules, of_calls, int_le}
use Rattle.std.proofs.lemmas.Fn.{always_returns_same}
use Rattle.std.proofs.lemmas.Int.{to_z-of_z}
use Rattle.cronplan_forms.specs.declared.month.Titled.{Titled}
use Rattle.cronplan_forms.proofs.TitleDates.{first_part, upto_first}
use Rattle.cronplan_forms.proofs.month.titles.titles_first.Goals as goal

pub returns : goal.returns
returns c =
    let date = c.args.date in
    let titles = c.args.titles.now in
    let point = c.partition_point-count.ensures.partitioned (λ (t : Titled). int_le t.date date) (always_returns_same _ _ _ (λ a r f k. search (rules, of_calls, to_z-of_z)))
    (upto_first date titles c.requires.order) in
    c.split_at.ensures.front ∙ first_part (λ (t : Titled). int_le t.date date) titles c.partition_point-count.result c.partition_point-count.ensures.bound point
