use Rattle.std.proofs.Common.{◌∙◌, arith}
use Rattle.croner_base.specs.TableZone.{table_zone}
use Rattle.cronplan_forms.specs.declared.answers.together.ShownSet.{ShownSet}
use Rattle.cronplan_forms.specs.Answers.{IsShownSet}
use Rattle.cronplan_forms.proofs.Gathered.{of_more, each_more}
use Rattle.cronplan_forms.proofs.answers.together.shown_sets.Goals as goal

pub loop-set-preserved : goal.loop-set-preserved
loop-set-preserved c = record {
  of_them = of_more (λ (s : ShownSet). s.set.now) c.loop-set.shown.items c.push.new.self.items c.shown_set.result _ c.loop-set.set-index _ c.in_ok-push.ensures.items c.loop-set.invariant.of_them
      (omega (arith, c.loop-set-test.true)) (c.shown_set.ensures.set ∙ c.set-item.is);
  each = each_more (IsShownSet (table_zone c.args.table.now)) c.loop-set.shown.items c.push.new.self.items c.shown_set.result c.in_ok-push.ensures.items c.loop-set.invariant.each c.shown_set.ensures.shown;
}
