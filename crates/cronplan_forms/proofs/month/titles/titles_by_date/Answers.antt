use Rattle.std.proofs.Common.{◌≡◌, length, rules}
use Rattle.std.proofs.lemmas.List.Sorted.{answers_always}
use Rattle.cronplan_forms.specs.declared.month.Titled.{Titled}
use Rattle.cronplan_forms.proofs.TitleDates.{same_dates}
use Rattle.cronplan_forms.proofs.month.titles.titles_by_date.Goals as goal

pub returns-clause-order : goal.returns-clause-order
returns-clause-order c = c.in_ok-sort_by_key.ensures.sorted (λ (t : Titled). t.date) (answers_always _ _ _ (λ f a r g h. search rules))

pub returns-clause-same : goal.returns-clause-same
returns-clause-same c =
    let len : length c.sort_by_key.new.self.items ≡ length c.args.titles.items = search rules in
    same_dates c.args.titles.items c.sort_by_key.new.self.items (c.in_ok-sort_by_key.ensures.stable (λ (t : Titled). t.date) (answers_always _ _ _ (λ f a r g h. search rules)))
    len
