use Rattle.std.proofs.Common.{◌∙◌, List, ap, map, subst}
use Rattle.std.specs.List.Sorted.{IsPermutation}
use Rattle.croner_base.specs.TableZone.{table_zone}
use Rattle.croner_base.specs.Zone.{Zone}
use Rattle.cronplan.specs.declared.start.JobStart.{JobStart}
use Rattle.cronplan.specs.OtherClock.{shown_on}
use Rattle.cronplan.proofs.OtherClocks.{shown_within, shown_few}
use Rattle.cronplan.proofs.plan.Plan.on_clock.Goals as goal

pub invariant_of-result : goal.invariant_of-result
invariant_of-result c =
    let p = c.args.self.now in
    let z : Zone = table_zone c.args.table.now in
    let same : IsPermutation (map (shown_on z) p.starts.items) c.sort_unstable.new.self.items =
    subst (λ (xs : List JobStart). IsPermutation xs c.sort_unstable.new.self.items) (c.in_ok-starts.ensures ∙ ap (map (shown_on z)) c.as_slice.ensures.value) c.sort_unstable.ensures.permutation in
    record {
      order = c.sort_unstable.ensures.sorted;
      within = shown_within z p.span.first p.starts.items c.sort_unstable.new.self.items same p.within;
      few = shown_few z 100_000 p.starts.items c.sort_unstable.new.self.items same p.few;
    }
