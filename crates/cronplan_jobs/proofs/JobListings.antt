-- The listings of a job's starts and of a pattern's runs as those of a plan.
use Rattle.std.proofs.Common.{◌≡◌, ◌∙◌, ℕ, ℤ, pos, zero, suc, ◌-◌, ◌<◌, ◌<ℤ◌, ◌≤ℤ◌, ◌-ℤ◌, ◌⊎◌, inl, inr, true, false, List, [], ◌∷◌, ◌++◌, length, get_or, map, refl, sym, ap, subst, lit<, arith, Option, Some}
use Rattle.std.specs.Prelude.{slice_get}
use Rattle.std.proofs.lemmas.Bool.{false≢true}
use Rattle.std.proofs.lemmas.Int.{ints, by_lt_z}
use Rattle.std.proofs.lemmas.List.{length-map}
use Rattle.std.proofs.lemmas.List.Elements.{All-map, All-contains, Contains-push, Contains-push_cases, Contains-append_right}
use Rattle.std.specs.List.{All, AllPairs, Contains}
use Rattle.croner_base.specs.declared.time.Direction.TheVariants.{Forward}
use Rattle.croner_base.specs.declared.time.table.TableTime.{TableTime}
use Rattle.croner_base.specs.Table.{is_table_second}
use Rattle.croner_base.specs.TableZone.{table_moment, table_zone}
use Rattle.croner_base.specs.Zone.{Zone, Moment}
use Rattle.croner.specs.declared.job.Cron.{Cron}
use Rattle.croner.specs.declared.laws.listing.ListingEnd.{ListingEnd}
use Rattle.croner.specs.declared.laws.listing.ListingEnd.TheVariants as listing
use Rattle.croner.specs.iterator.Listing.{Standing, new_standing, IsLeft as IsLeftOfRuns}
use Rattle.croner.specs.laws.Until.{ListsUntil}
use Rattle.croner.specs.search.Limit.{InSpan}
use Rattle.croner.specs.search.PatternJob.{pattern_job}
use Rattle.croner.specs.search.Runs.{Run}
use Rattle.croner.specs.Views.{job_of}
use Rattle.crontab_runs.specs.declared.job.CrontabJob.{CrontabJob}
use Rattle.crontab_runs.specs.declared.job.Start.{Start}
use Rattle.crontab_runs.specs.declared.listing.StartsEnd.{StartsEnd}
use Rattle.crontab_runs.specs.declared.listing.StartsEnd.TheVariants as ends
use Rattle.crontab_runs.specs.Listing.{ListsStarts, IsLeft}
use Rattle.crontab_runs.specs.Starts.{Starts}
use Rattle.crontab_runs.specs.Views.{cron_job_of}
use Rattle.cronplan_jobs.specs.declared.listing.Schedule.TheVariants as schedules
use Rattle.cronplan.specs.declared.span.Span.{Span}
use Rattle.cronplan.specs.declared.start.JobStart.{JobStart}
use Rattle.cronplan_jobs.specs.Listed.{IsStartIn, ListsJob}
use Rattle.cronplan_jobs.specs.Private.Placed.{placed, placed_run, IsCronEnd, IsPatternEnd}
use Rattle.cronplan.specs.Starts.{seconds_of, second_at, most_starts}
use Rattle.cronplan.proofs.FilteredLists.{All-from_map}
use Rattle.cronplan.proofs.SpanSeconds.{Spans, held_in}

-- the second of what stands at a place
pub at_place : {X : Type 0} (f : X → ℤ) (xs : List X) (k : ℕ) (x : X) → slice_get xs k ≡ Some x → slice_get (map f xs) k ≡ Some (f x)
at_place f [] k x e = cc
at_place f (y ∷ ys) zero x e = let same : y ≡ x = cc in ap (λ z. Some (f z)) same
at_place f (y ∷ ys) (suc k) x e = at_place f ys k x e

-- of starts that have the seconds of others, the one at a place
second_placed : {X : Type 0} (f : X → JobStart) (g : X → ℤ) → ((x : X) → (f x).second ≡ g x) → (xs : List X) (k : ℕ) → second_at (map f xs) k ≡ slice_get (map g xs) k
second_placed f g same [] k = refl
second_placed f g same (x ∷ xs) zero = ap Some (same x)
second_placed f g same (x ∷ xs) (suc k) = second_placed f g same xs k

-- a second at a place is among them
has_place : (is : List ℤ) (k : ℕ) (i : ℤ) → slice_get is k ≡ Some i → Contains is i
has_place [] k i e = cc
has_place (j ∷ js) zero i e = let same : j ≡ i = cc in (0, omega arith, same)
has_place (j ∷ js) (suc k) i e = Contains-append_right (j ∷ []) js i (has_place js k i e)

module _ (job : CrontabJob) (time : Moment) (span : Span) (place : ℕ) (after : time.instant ≡ span.first -ℤ pos 1) where
  abbrev until : Option ℤ
  until = Some (span.end -ℤ pos 1)

  abbrev seconds : List Start → List ℤ
  seconds starts = map (λ (s : Start). s.second) starts

  seconds-placed : (starts : List Start) → seconds_of (map (placed time.zone place) starts) ≡ seconds starts
  seconds-placed [] = refl
  seconds-placed (s ∷ ss) = ap (λ is. s.second ∷ is) (seconds-placed ss)

  each-start : (starts : List Start) (end : StartsEnd) (limit : ℕ) → ListsStarts (cron_job_of job) time until limit starts end
      → All (IsStartIn (schedules.Crontab job) time.zone span place) (map (placed time.zone place) starts)
  each-start starts end limit h =
      let left : All (λ (s : Start). IsLeft (cron_job_of job) time s.second) starts = All-from_map (λ (s : Start). s.second) (IsLeft (cron_job_of job) time) starts h.begins.counts in
      All-map (IsStartIn (schedules.Crontab job) time.zone span place) (placed time.zone place) starts
      (λ k d inside.
      let by : (get_or starts k d).second ≤ℤ (span.end -ℤ pos 1) = h.by k d inside in
      let past : time.instant <ℤ (get_or starts k d).second = (left k d inside).0 in
      record {
        some = (h.each k d inside).some;
        times = (h.each k d inside).times;
        job = refl;
        wall = refl;
        first = omega (arith, ints, after, past);
        before = omega (arith, ints, by);
      })

  pub starts_held : (starts : List Start) (end : StartsEnd) (limit : ℕ) → Spans span.first span.end → ListsStarts (cron_job_of job) time until limit starts end
      → All (λ (s : Start). is_table_second s.second ≡ true) starts
  starts_held starts end limit w h =
      let left : All (λ (s : Start). IsLeft (cron_job_of job) time s.second) starts = All-from_map (λ (s : Start). s.second) (IsLeft (cron_job_of job) time) starts h.begins.counts in
      λ k d inside.
      let by : (get_or starts k d).second ≤ℤ (span.end -ℤ pos 1) = h.by k d inside in
      let past : time.instant <ℤ (get_or starts k d).second = (left k d inside).0 in
      held_in span.first span.end (get_or starts k d).second w (omega (arith, ints, after, past)) (omega (arith, ints, by))

  none-left-out : (starts : List Start) (end : StartsEnd) (limit : ℕ) (kept : ℤ) → 0 < limit → ListsStarts (cron_job_of job) time until limit starts end → IsCronEnd starts end span kept
      → (i : ℤ) → span.first ≤ℤ i → i <ℤ kept → Starts (cron_job_of job) time.zone i → InSpan Forward time.zone.reads i → Contains (seconds starts) i
  none-left-out starts ends.Full limit kept some h is i from before at in_span =
      elim is [
        | inl none ↦ absurd (omega (arith, none, h.ended, some))
        | inr last_is ↦ h.begins.complete i kept (omega (arith, ints, after, from), at) (has_place (seconds starts) (length starts - 1) kept last_is) (omega (arith, ints, before))
      ]
  none-left-out starts (ends.Past next) limit kept some h is i from before at in_span =
      let to : i <ℤ span.end = subst (λ (e : ℤ). i <ℤ e) is before in
      let past : (span.end -ℤ pos 1) <ℤ next.second = by_lt_z (span.end -ℤ pos 1) next.second (λ lt. lt) (λ le. absurd (h.ended.1 le)) in
      elim (Contains-push_cases (seconds starts) next.second i
      (h.ended.2.complete i next.second (omega (arith, ints, after, from), at) (Contains-push (seconds starts) next.second) (omega (arith, ints, to, past)))) [
        | inl has ↦ has
        | inr same ↦ absurd (let e : next.second ≡ i = same in omega (arith, ints, to, past, e))
      ]
  none-left-out starts ends.Over limit kept some h is i from before at in_span = h.ended i (omega (arith, ints, after, from), at) in_span

  kept-within : (starts : List Start) (end : StartsEnd) (limit : ℕ) (kept : ℤ) → 0 < limit → ListsStarts (cron_job_of job) time until limit starts end → IsCronEnd starts end span kept → kept ≤ℤ span.end
  kept-within starts ends.Full limit kept some h is =
      elim is [
        | inl none ↦ absurd (omega (arith, none, h.ended, some))
        | inr last_is ↦ let has : Contains (seconds starts) kept = has_place (seconds starts) (length starts - 1) kept last_is in
            let by : kept ≤ℤ (span.end -ℤ pos 1) = All-contains (λ t. t ≤ℤ (span.end -ℤ pos 1)) (seconds starts) kept (All-map (λ t. t ≤ℤ (span.end -ℤ pos 1)) (λ (s : Start). s.second) starts h.by) has in
            omega (arith, ints, by)
      ]
  kept-within starts (ends.Past next) limit kept some h is = omega (arith, ints, is)
  kept-within starts ends.Over limit kept some h is = omega (arith, ints, is)

  kept-from : (starts : List Start) (end : StartsEnd) (limit : ℕ) (kept : ℤ) → 0 < limit → span.first ≤ℤ span.end → ListsStarts (cron_job_of job) time until limit starts end → IsCronEnd starts end span kept → span.first ≤ℤ kept
  kept-from starts ends.Full limit kept some order h is =
      elim is [
        | inl none ↦ absurd (omega (arith, none, h.ended, some))
        | inr last_is ↦ let has : Contains (seconds starts) kept = has_place (seconds starts) (length starts - 1) kept last_is in
            let past : time.instant <ℤ kept = (All-contains (IsLeft (cron_job_of job) time) (seconds starts) kept h.begins.counts has).0 in omega (arith, ints, after, past)
      ]
  kept-from starts (ends.Past next) limit kept some order h is = omega (arith, ints, is, order)
  kept-from starts ends.Over limit kept some order h is = omega (arith, ints, is, order)

  is-cut : (starts : List Start) (end : StartsEnd) (kept : ℤ) → ListsStarts (cron_job_of job) time until 100_001 starts end → IsCronEnd starts end span kept
      → (kept ≡ span.end) ⊎ (second_at (map (placed time.zone place) starts) most_starts ≡ Some kept)
  is-cut starts ends.Full kept h is =
      elim is [
        | inl none ↦ absurd (omega (arith, none, h.ended))
        | inr last_is ↦ let at : length starts - 1 ≡ most_starts = omega (arith, h.ended) in
            inr (second_placed (placed time.zone place) (λ (s : Start). s.second) (λ s. refl) starts most_starts
            ∙ subst (λ (k : ℕ). slice_get (seconds starts) k ≡ Some kept) at last_is)
      ]
  is-cut starts (ends.Past next) kept h is = inl is
  is-cut starts ends.Over kept h is = inl is

  pub cron_lists : (starts : List Start) (end : StartsEnd) (kept : ℤ) → span.first ≤ℤ span.end → ListsStarts (cron_job_of job) time until 100_001 starts end → IsCronEnd starts end span kept
      → ListsJob (schedules.Crontab job) time.zone span place (map (placed time.zone place) starts) kept
  cron_lists starts end kept order h is = record {
    each = each-start starts end 100_001 h;
    once = subst (AllPairs (λ i j. i <ℤ j)) (sym (seconds-placed starts)) h.begins.ordered;
    complete = λ i n from before some at in_span. subst (λ (is : List ℤ). Contains is i) (sym (seconds-placed starts))
        (none-left-out starts end 100_001 kept (lit< tt) h is i from before (n, some, at) in_span);
    from = kept-from starts end 100_001 kept (lit< tt) order h is;
    within = kept-within starts end 100_001 kept (lit< tt) h is;
    cut = is-cut starts end kept h is;
    most = omega (arith, h.most, length-map starts (placed time.zone place));
  }

module _ (cron : Cron) (after : TableTime) (span : Span) (place : ℕ) (at : after.second ≡ span.first -ℤ pos 1) where
  abbrev begin : Standing
  begin = new_standing (job_of cron) (table_moment after) false Forward

  abbrev zone : Zone
  zone = table_zone after.table.now

  abbrev last : Option ℤ
  last = Some (span.end -ℤ pos 1)

  abbrev run_seconds : List TableTime → List ℤ
  run_seconds times = map (λ (t : TableTime). t.second) times

  run-left : (i : ℤ) → IsLeftOfRuns begin i → (after.second <ℤ i) × Run (pattern_job (job_of cron) zone) i
  run-left i left = elim left [ inl own ↦ own | inr here ↦ absurd (false≢true here.0) ]

  left-run : (i : ℤ) → span.first ≤ℤ i → Run (pattern_job (job_of cron) zone) i → IsLeftOfRuns begin i
  left-run i from run = inl (omega (arith, ints, at, from), run)

  runs-placed : (times : List TableTime) → seconds_of (map (placed_run place) times) ≡ run_seconds times
  runs-placed [] = refl
  runs-placed (t ∷ ts) = ap (λ is. t.second ∷ is) (runs-placed ts)

  each-run : (times : List TableTime) (end : ListingEnd) (new : Standing) (limit : ℕ) → ListsUntil begin new last limit times end
      → All (IsStartIn (schedules.Pattern cron) zone span place) (map (placed_run place) times)
  each-run times end new limit h =
      let left : All (λ (t : TableTime). IsLeftOfRuns begin t.second) times = All-from_map (λ (t : TableTime). t.second) (IsLeftOfRuns begin) times h.begins.counts in
      let by : All (λ (t : TableTime). t.second ≤ℤ (span.end -ℤ pos 1)) times = All-from_map (λ (t : TableTime). t.second) (λ i. i ≤ℤ (span.end -ℤ pos 1)) times h.by in
      All-map (IsStartIn (schedules.Pattern cron) zone span place) (placed_run place) times
      (λ k d inside.
      let run : (after.second <ℤ (get_or times k d).second) × Run (pattern_job (job_of cron) zone) (get_or times k d).second = run-left (get_or times k d).second (left k d inside) in
      let past : after.second <ℤ (get_or times k d).second = run.0 in
      let upto : (get_or times k d).second ≤ℤ (span.end -ℤ pos 1) = by k d inside in
      record {
        some = lit< tt;
        times = (run.1, refl);
        job = refl;
        wall = ap (λ (z : Zone). z.reads (get_or times k d).second) (h.whole k d inside).zone;
        first = omega (arith, ints, at, past);
        before = omega (arith, ints, upto);
      })

  no-run-left-out : (times : List TableTime) (end : ListingEnd) (new : Standing) (limit : ℕ) (kept : ℤ) → 0 < limit → ListsUntil begin new last limit times end → ¬ (end ≡ listing.Refused)
      → IsPatternEnd times end span kept → (i : ℤ) → span.first ≤ℤ i → i <ℤ kept → Run (pattern_job (job_of cron) zone) i → InSpan Forward zone.reads i → Contains (run_seconds times) i
  no-run-left-out times listing.Full new limit kept some h not is i from before run in_span =
      elim is [
        | inl none ↦ absurd (omega (arith, none, h.ended, some, length-map times (λ (t : TableTime). t.second)))
        | inr last_is ↦ h.begins.complete i kept (left-run i from run) (has_place (run_seconds times) (length times - 1) kept last_is) (omega (arith, ints, before))
      ]
  no-run-left-out times (listing.Past next) new limit kept some h not is i from before run in_span =
      let to : i <ℤ span.end = subst (λ (e : ℤ). i <ℤ e) is before in
      let past : (span.end -ℤ pos 1) <ℤ next = by_lt_z (span.end -ℤ pos 1) next (λ lt. lt) (λ le. absurd (h.ended le)) in
      elim (h.rest.either i (left-run i from run)) [
        | inl had ↦ elim (Contains-push_cases (run_seconds times) next i had) [
          | inl has ↦ has
          | inr same ↦ absurd (let e : next ≡ i = same in omega (arith, ints, to, past, e))
        ]
        | inr on ↦ absurd (let lt : next <ℤ i = All-contains (λ x. x <ℤ i) (run_seconds times ++ next ∷ []) next (h.rest.later i on) (Contains-push (run_seconds times) next) in omega (arith, ints, lt, to, past))
      ]
  no-run-left-out times listing.Over new limit kept some h not is i from before run in_span = h.ended.0 i (left-run i from run) in_span
  no-run-left-out times listing.Refused new limit kept some h not is i from before run in_span = absurd (not refl)

  run-kept-within : (times : List TableTime) (end : ListingEnd) (new : Standing) (limit : ℕ) (kept : ℤ) → 0 < limit → ListsUntil begin new last limit times end → IsPatternEnd times end span kept → kept ≤ℤ span.end
  run-kept-within times listing.Full new limit kept some h is =
      elim is [
        | inl none ↦ absurd (omega (arith, none, h.ended, some, length-map times (λ (t : TableTime). t.second)))
        | inr last_is ↦ let by : kept ≤ℤ (span.end -ℤ pos 1) = All-contains (λ t. t ≤ℤ (span.end -ℤ pos 1)) (run_seconds times) kept h.by (has_place (run_seconds times) (length times - 1) kept last_is) in
            omega (arith, ints, by)
      ]
  run-kept-within times (listing.Past next) new limit kept some h is = omega (arith, ints, is)
  run-kept-within times listing.Over new limit kept some h is = omega (arith, ints, is)
  run-kept-within times listing.Refused new limit kept some h is = omega (arith, ints, is)

  run-kept-from : (times : List TableTime) (end : ListingEnd) (new : Standing) (limit : ℕ) (kept : ℤ) → 0 < limit → span.first ≤ℤ span.end → ListsUntil begin new last limit times end → IsPatternEnd times end span kept → span.first ≤ℤ kept
  run-kept-from times listing.Full new limit kept some order h is =
      elim is [
        | inl none ↦ absurd (omega (arith, none, h.ended, some, length-map times (λ (t : TableTime). t.second)))
        | inr last_is ↦ let has : Contains (run_seconds times) kept = has_place (run_seconds times) (length times - 1) kept last_is in
            let past : after.second <ℤ kept = (run-left kept (All-contains (IsLeftOfRuns begin) (run_seconds times) kept h.begins.counts has)).0 in omega (arith, ints, at, past)
      ]
  run-kept-from times (listing.Past next) new limit kept some order h is = omega (arith, ints, is, order)
  run-kept-from times listing.Over new limit kept some order h is = omega (arith, ints, is, order)
  run-kept-from times listing.Refused new limit kept some order h is = omega (arith, ints, is, order)

  runs-cut : (times : List TableTime) (end : ListingEnd) (new : Standing) (kept : ℤ) → ListsUntil begin new last 100_001 times end → IsPatternEnd times end span kept
      → (kept ≡ span.end) ⊎ (second_at (map (placed_run place) times) most_starts ≡ Some kept)
  runs-cut times listing.Full new kept h is =
      elim is [
        | inl none ↦ absurd (omega (arith, none, h.ended, length-map times (λ (t : TableTime). t.second)))
        | inr last_is ↦ let at : length times - 1 ≡ most_starts = omega (arith, h.ended, length-map times (λ (t : TableTime). t.second)) in
            inr (second_placed (placed_run place) (λ (t : TableTime). t.second) (λ t. refl) times most_starts
            ∙ subst (λ (k : ℕ). slice_get (run_seconds times) k ≡ Some kept) at last_is)
      ]
  runs-cut times (listing.Past next) new kept h is = inl is
  runs-cut times listing.Over new kept h is = inl is
  runs-cut times listing.Refused new kept h is = inl is

  pub pattern_lists : (times : List TableTime) (end : ListingEnd) (new : Standing) (kept : ℤ) → span.first ≤ℤ span.end → ListsUntil begin new last 100_001 times end → ¬ (end ≡ listing.Refused) → IsPatternEnd times end span kept
      → ListsJob (schedules.Pattern cron) zone span place (map (placed_run place) times) kept
  pattern_lists times end new kept order h not is = record {
    each = each-run times end new 100_001 h;
    once = subst (AllPairs (λ i j. i <ℤ j)) (sym (runs-placed times)) h.begins.ordered;
    complete = λ i n from before some runs in_span. subst (λ (is : List ℤ). Contains is i) (sym (runs-placed times))
        (no-run-left-out times end new 100_001 kept (lit< tt) h not is i from before runs.0 in_span);
    from = run-kept-from times end new 100_001 kept (lit< tt) order h is;
    within = run-kept-within times end new 100_001 kept (lit< tt) h is;
    cut = runs-cut times end new kept h is;
    most = omega (arith, h.most, length-map times (placed_run place));
  }
