use Rattle.std.proofs.Common.{◌∙◌, w64}
use Rattle.std.proofs.lemmas.Int.{to_z-of_z}
use Rattle.serde_json.proofs.Views.{view-Object}
use Rattle.serde_json.specs.View.{members_view, view}
use Rattle.cronplan_json.specs.PlanJson.{Told}
use Rattle.cronplan_json.proofs.SpanSides.{first_fits, end_fits}
use Rattle.cronplan_json.proofs.Whole.{with_lists}
use Rattle.cronplan_json.proofs.document.plan_object.Goals as goal

pub returns : goal.returns
returns c =
    let span = c.args.view.plan.now.span in
    let days = c.in_ok-days.ensures in
    let hours = c.in_ok-hours.ensures in
    let moments = c.in_ok-moments.ensures in
    let quiet = c.in_ok-quiet.ensures in
    let told : Told = record { first = c.at-first.result; end = c.at-end.result; moments = moments.0; quiet = quiet.0; days = days.0; hours = hours.0 } in
    record {
      told = told;
      is_told = record {
        first_is = rw (to_z-of_z w64 span.first (first_fits span.first span.end span.held)) at c.at-first.ensures;
        end_is = rw (to_z-of_z w64 span.end (end_fits span.first span.end span.held)) at c.at-end.ensures;
        moments_are = moments.1;
        quiet_are = quiet.1;
        days_are = days.1;
        hours_are = hours.1;
      };
      data_is = view-Object c.put_zone.new.members ∙ with_lists c.args.view c.args.read_first.now told (members_view c.in_ok-members.members.entries) (members_view c.put.new.map.entries) (members_view c.put-2.new.map.entries)
          (members_view c.put-3.new.map.entries) (members_view c.put-4.new.map.entries) (members_view c.put_zone.new.members.entries) (view c.in_ok-days.days) (view c.in_ok-hours.hours)
          (view c.in_ok-moments.moments) (view c.in_ok-quiet.quiet) c.in_ok-members.ensures c.in_ok-put.ensures.ok c.in_ok-put-2.ensures.ok c.in_ok-put-3.ensures.ok c.in_ok-put-4.ensures.ok
          c.in_ok-put_zone.ensures days.2 hours.2 moments.2 quiet.2;
    }
