use Rattle.std.proofs.Common.{rules}
use Rattle.std.proofs.lemmas.List.Sorted.{answers_always}
use Rattle.croner_base.specs.TableZone.{table_zone}
use Rattle.cronplan.specs.Windows.{seconds_in}
use Rattle.cronplan_forms.specs.Answers.{IsQuiet}
use Rattle.cronplan_forms.specs.WindowRuns.{shown_second}
use Rattle.cronplan_forms.proofs.ToldOrder.{strictly}
use Rattle.cronplan_forms.proofs.answers.runs.told_windows.Goals as goal

pub returns : goal.returns
returns c =
    let shown = c.in_ok-told.told.items in
    let z = table_zone c.args.view.table.now in
    let p = c.args.view.plan.now in
    let quiet : IsQuiet z p c.args.least shown = search rules in
    record {
      shown = shown;
      are_quiet = quiet;
      same = c.sort_unstable_by_key.ensures.permutation;
      order = strictly z p c.args.least shown c.sort_unstable_by_key.new.self.items quiet c.sort_unstable_by_key.ensures.permutation
          (c.sort_unstable_by_key.ensures.sorted (λ s. (record { 0 = seconds_in s.window }, shown_second s.from, s.window.from.second)) (answers_always _ _ _ (λ f a r g h. search rules)));
    }
