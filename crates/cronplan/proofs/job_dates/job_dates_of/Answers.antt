use Rattle.std.proofs.Common.{◌≡◌, ◌∙◌, ℕ, Bool, List, ap, filter, map, not, unwrap_or}
use Rattle.std.specs.BTreeMap.{get}
use Rattle.std.specs.Ordering.{nat_cmp}
use Rattle.std.specs.Prelude.{count_by}
use Rattle.croner_base.specs.TableZone.{table_zone}
use Rattle.cronplan.specs.declared.job_dates.DateRange.{DateRange}
use Rattle.cronplan.specs.declared.start.JobStart.{JobStart}
use Rattle.cronplan.specs.JobDates.{are_all, count_of_dates, dates_with, first_ones, is_daily, is_of_job, is_same_day, is_same_job, whole_dates}
use Rattle.cronplan.proofs.job_dates.job_dates_of.Goals as goal

pub returns : goal.returns
returns c =
    let z = table_zone c.args.table.now in
    let span = c.args.span in
    let starts : List JobStart = c.args.starts.now in
    let whole : DateRange = whole_dates z span in
    let firsts : c.in_ok-firsts.firsts.items ≡ first_ones is_same_day starts = c.in_ok-firsts.ensures in
    let jobs : c.in_ok-jobs.jobs.items ≡ first_ones is_same_job starts = c.in_ok-jobs.ensures in
    let counted : (job : ℕ) → unwrap_or (get nat_cmp c.in_ok-counts.counts job) 0 ≡ dates_with whole job starts = λ job.
    c.in_ok-counts.ensures job ∙ ap (λ (dates : DateRange). count_by (is_of_job dates job) c.as_slice.result.now) c.whole_dates-whole.ensures.dates
    ∙ ap (λ (xs : List JobStart). count_by (is_of_job whole job) xs) (c.as_slice.ensures.value ∙ firsts) in
    let all : c.count_of_dates.result ≡ count_of_dates whole = c.count_of_dates.ensures ∙ ap count_of_dates c.whole_dates-whole.ensures.dates in
    let all-2 : c.count_of_dates-2.result ≡ count_of_dates whole = c.count_of_dates-2.ensures ∙ ap count_of_dates c.whole_dates-whole.ensures.dates in
    let test : (λ (s : JobStart). are_all c.count_of_dates.result (unwrap_or (get nat_cmp c.in_ok-counts.counts s.job) 0)) ≡ (λ (s : JobStart). is_daily whole starts s.job) =
    λ i s. are_all (all i) (counted s.job i) in
    let fails : (λ (s : JobStart). not (are_all c.count_of_dates-2.result (unwrap_or (get nat_cmp c.in_ok-counts.counts s.job) 0))) ≡ (λ (s : JobStart). not (is_daily whole starts s.job)) =
    λ i s. not (are_all (all-2 i) (counted s.job i)) in
    record {
      dates_are = c.dates_of-dates.ensures;
      daily_are = c.in_ok-daily.ensures ∙ ap (λ (p : JobStart → Bool). map (λ (s : JobStart). s.job) (filter p c.as_slice-2.result.now)) test
          ∙ ap (λ (xs : List JobStart). map (λ (s : JobStart). s.job) (filter (λ (s : JobStart). is_daily whole starts s.job) xs)) (c.as_slice-2.ensures.value ∙ jobs);
      rarer_are = c.in_ok-rarer.ensures ∙ ap (λ (p : JobStart → Bool). filter p c.as_slice-3.result.now) fails
          ∙ ap (λ (xs : List JobStart). filter (λ (s : JobStart). not (is_daily whole starts s.job)) xs) (c.as_slice-3.ensures.value ∙ firsts);
    }
