use Rattle.std.proofs.Common.{refl, string_bytes, w64}
use Rattle.std.proofs.lemmas.Int.{to_z-of_z}
use Rattle.cronplan_page.proofs.PageTexts.{page_text_is}
use Rattle.cronplan_page.proofs.SpanLengths.{first_fits, end_fits}
use Rattle.cronplan_page.proofs.plan_page.page_of.Goals as goal

pub returns : goal.returns
returns c =
    let span = c.args.view.plan.now.span in
    let told = c.in_ok-told.ensures in
    page_text_is c.args.view c.args.about _ (string_bytes c.in_ok-text.text) c.in_ok-text.ensures (record {
      view_is = refl;
      about_is = refl;
      first_is = rw (to_z-of_z w64 span.first (first_fits span.first span.end span.held)) at c.at.ensures;
      end_is = rw (to_z-of_z w64 span.end (end_fits span.first span.end span.held)) at c.at-2.ensures;
      quiet_are = rw c.as_slice-2.ensures.value told.quiet;
      fullest_are = rw c.as_slice-3.ensures.value told.fullest;
      starts_are = rw c.as_slice-4.ensures.value told.starts;
      days_are = record {
        changes = c.in_ok-told.told.days.changes.items;
        are_days = rw c.as_slice-5.ensures.value (rw (c.in_ok-days.ensures.days, c.as_slice.ensures.value) told.days);
        names = rw c.as_slice-5.ensures.value c.in_ok-days.ensures.names;
        are_timed = rw c.as_slice-6.ensures.value told.changes;
      };
    })
