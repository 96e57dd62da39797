use Rattle.std.proofs.Common.{◌∙◌, List, ap, filter}
use Rattle.std.specs.List.{flat_map}
use Rattle.cronplan_forms.specs.declared.month.Titled.{Titled}
use Rattle.cronplan_forms.specs.PlanMonths.{titled, told_at, told_of}
use Rattle.cronplan_forms.specs.Private.DatedTitles.{HaveSameDates, is_on}
use Rattle.cronplan_forms.proofs.MonthGrids.{below, moved}
use Rattle.cronplan_forms.proofs.month.of_plan.months_text.Goals as goal

pub returns : goal.returns
returns c =
    let told = told_of c.args.view.jobs.now in
    let g = c.in_ok-grids.ensures in
    let titles : List Titled = c.in_ok-titles.titles.items in
    let sorted : List Titled = c.as_slice-3.result.now in
    let same : HaveSameDates titles sorted = λ date. ap (λ (xs : List Titled). filter (is_on date) xs) c.as_slice-3.ensures.value ∙ c.in_ok-titles-2.ensures.same date in (
      g.4.months,
      c.in_ok-daily.daily.items,
      record {
        jobs = c.in_ok-jobs.jobs;
        are_jobs = c.in_ok-jobs.ensures;
        titles = titles;
        titles_are = c.in_ok-titles.ensures ∙ ap (flat_map (titled told)) c.as_slice.ensures.value;
        first = g.0;
        first_is = g.2;
        last = g.1;
        last_is = g.3;
        are_months = moved c.in_ok-jobs.jobs.dates titles sorted same _ _ g.4.months g.4.are_months;
        daily_are = c.in_ok-daily.ensures ∙ ap (flat_map (told_at told)) c.as_slice-2.ensures.value;
      },
      below g.4.months c.in_ok-daily.daily.items c.as_slice-4.result.now c.in_ok-grids.grids _ _ g.4.text_is g.4.mark_is c.in_ok-push_mark.ensures c.in_ok-push_daily.ensures
          c.as_slice-4.ensures.value,
    )
