-- What an iterator gave of a job's starts up to a second, call by call, and how their listing ends.
use Rattle.std.proofs.Common.{◌≡◌, ◌≤◌, ◌+◌, ◌∙◌, inl, inr, ◌⊎◌, rules, get_or, ℕ, ℤ, List, [], ◌∷◌, ◌++◌, Option, Some, None, length, refl, sym, ap, subst, arith}
use Rattle.std.proofs.lemmas.Int.{ints, by_lt_z}
use Rattle.std.proofs.lemmas.List.{map_push, length_push}
use Rattle.std.proofs.lemmas.List.Elements.{All-nil, All-push, All-contains, Contains-push, Contains-append_left}
use Rattle.std.proofs.lemmas.List.Quantifiers.{all_pairs_push}
use Rattle.std.specs.List.{All, AllPairs, Contains}
use Rattle.croner_base.specs.declared.time.Direction.{Direction}
use Rattle.croner_base.specs.declared.time.Direction.TheVariants.{Forward, Backward}
use Rattle.croner_base.specs.declared.time.table.ClockTable.{ClockTable}
use Rattle.croner_base.specs.declared.time.table.TableTime.{TableTime}
use Rattle.croner_base.specs.TableZone.{table_zone, table_moment}
use Rattle.croner_base.specs.Zone.{Zone, Moment}
use Rattle.croner.specs.iterator.Listing.{BeginsWhere}
use Rattle.croner.specs.laws.Until.{ComesBy}
use Rattle.croner.specs.Recurring.{CountsFrom}
use Rattle.croner.specs.search.Runs.{NearestWhere, Precedes, Reaches}
use Rattle.crontab_runs.specs.declared.job.CrontabJob.{CrontabJob}
use Rattle.crontab_runs.specs.declared.job.Start.{Start}
use Rattle.crontab_runs.specs.declared.listing.StartIterator.{StartIterator}
use Rattle.crontab_runs.specs.declared.listing.StartsEnd.{StartsEnd}
use Rattle.crontab_runs.specs.declared.listing.StartsEnd.TheVariants as ends
use Rattle.crontab_runs.specs.Listing.{onward_from, seconds_of, ListsStartsIn}
use Rattle.crontab_runs.specs.Private.Listings.{TakesUntil}
use Rattle.crontab_runs.specs.Searches.{IsStartOf, IsStartFound, NoStartLeft}
use Rattle.crontab_runs.specs.Starts.{CronJob, Starts}
use Rattle.crontab_runs.specs.Views.{cron_job_of}

-- ---- what is left from a second on, in a direction

-- after one that is left, all that is left was left before
left_before : (d : Direction) (runs : ℤ → Type 0) (s t i : ℤ) → CountsFrom d runs s t → CountsFrom d runs (onward_from d t) i → CountsFrom d runs s i
left_before Forward runs s t i at on = (omega (arith, ints, at.0, on.0), on.1)
left_before Backward runs s t i at on = (omega (arith, ints, at.0, on.0), on.1)

-- it comes after that one
comes_after : (d : Direction) (runs : ℤ → Type 0) (t i : ℤ) → CountsFrom d runs (onward_from d t) i → Precedes d t i
comes_after Forward runs t i on = on.0
comes_after Backward runs t i on = omega (arith, ints, on.0)

-- what comes no earlier than that one is it, or is left after it
it_or_after : (d : Direction) (runs : ℤ → Type 0) (t i : ℤ) → runs i → Reaches d t i → (t ≡ i) ⊎ CountsFrom d runs (onward_from d t) i
it_or_after Forward runs t i is reaches = by_lt_z t i (λ lt. inr (lt, is)) (λ le. inl (omega (arith, ints, le, reaches)))
it_or_after Backward runs t i is reaches = by_lt_z i t (λ lt. inr (omega (arith, ints, lt), is)) (λ le. inl (omega (arith, ints, le, reaches)))

run_of : (d : Direction) (runs : ℤ → Type 0) (s i : ℤ) → CountsFrom d runs s i → runs i
run_of Forward runs s i on = on.1
run_of Backward runs s i on = on.1

-- nothing comes after another one, and no later than it
not_both : (d : Direction) (x i : ℤ) → Precedes d x i → Reaches d i x → ⊥
not_both Forward x i later by = omega (arith, ints, later, by)
not_both Backward x i later by = omega (arith, ints, later, by)

-- ---- a listing and what is left after it

-- the seconds come first among those that are left, and what is left after them is the second
pub record Splits (d : Direction) (left rest : ℤ → Type 0) (items : List ℤ) : Type 0 where
  pub ordered : AllPairs (Precedes d) items
  pub counts : All left items
  pub either : (i : ℤ) → left i → Contains items i ⊎ rest i
  pub later : (i : ℤ) → rest i → All (λ x. Precedes d x i) items
  pub within : (i : ℤ) → rest i → left i

splits_none : (d : Direction) (left : ℤ → Type 0) → Splits d left left []
splits_none d left = record {
  ordered = λ k j e before within. absurd (omega (arith, within));
  counts = All-nil left;
  either = λ i is. inr is;
  later = λ i is. All-nil (λ x. Precedes d x i);
  within = λ i is. is;
}

-- the nearest start is one more of them, and after it are those that are left from there
splits_next : (d : Direction) (job : CronJob) (z : Zone) (left : ℤ → Type 0) (s t : ℤ) (items : List ℤ)
    → Splits d left (CountsFrom d (Starts job z) s) items → NearestWhere d (CountsFrom d (Starts job z) s) t
    → Splits d left (CountsFrom d (Starts job z) (onward_from d t)) (items ++ t ∷ [])
splits_next d job z left s t items h near =
    let runs = Starts job z in
    record {
      ordered = all_pairs_push (Precedes d) items t h.ordered (λ k e within. All-contains (λ x. Precedes d x t) items (get_or items k e) (h.later t near.counts) (k, within, Prim.search rules));
      counts = All-push left items t h.counts (h.within t near.counts);
      either = λ i is.
          elim (h.either i is) [
            | inl had ↦ inl (Contains-append_left items (t ∷ []) i had)
            | inr on ↦ elim (it_or_after d runs t i (run_of d runs s i on) (near.nearest i on)) [
              | inl same ↦ inl (subst (Contains (items ++ t ∷ [])) same (Contains-push items t))
              | inr more ↦ inr more
            ]
          ];
      later = λ i is. All-push (λ x. Precedes d x i) items t (h.later i (left_before d runs s t i near.counts is)) (comes_after d runs t i is);
      within = λ i is. h.within i (left_before d runs s t i near.counts is);
    }

-- such seconds begin the listing
begins : (d : Direction) (left rest : ℤ → Type 0) (items : List ℤ) → Splits d left rest items → BeginsWhere d left items
begins d left rest items h = record {
  ordered = h.ordered;
  counts = h.counts;
  complete = λ i last counts has reaches.
      elim (h.either i counts) [
        | inl had ↦ had
        | inr on ↦ absurd (not_both d last i (All-contains (λ x. Precedes d x i) items last (h.later i on) has) reaches)
      ];
}

module _ (direction : Direction) (job : CrontabJob) (time : TableTime) (until : Option ℤ) where
  abbrev zone : Zone
  zone = table_zone time.table.now

  abbrev rest : ℤ → ℤ → Type 0
  rest s = CountsFrom direction (Starts (cron_job_of job) zone) s

  abbrev moment_at : ℤ → Moment
  moment_at i = record { zone = zone; instant = i; fraction = 0 }

  -- after so many calls, each with a start
  pub record GivesUntil (cur : StartIterator) (starts : List Start) : Type 0 where
    pub job_is : cur.job.now ≡ job
    pub table_is : cur.position.table.now ≡ time.table.now
    pub direction_is : cur.direction ≡ direction
    pub splits : Splits direction (rest time.second) (rest cur.position.second) (seconds_of starts)
    pub each : All (IsStartOf (cron_job_of job) zone) starts
    pub by : All (λ s. ComesBy direction until s.second) starts

  -- before the first call
  pub gives_none : (cur : StartIterator) → cur.job.now ≡ job → cur.position ≡ time → cur.direction ≡ direction → GivesUntil cur []
  gives_none cur e f g = record {
    job_is = e;
    table_is = subst (λ (x : TableTime). x.table.now ≡ time.table.now) (sym f) refl;
    direction_is = g;
    splits = subst (λ (x : TableTime). Splits direction (rest time.second) (rest x.second) []) (sym f) (splits_none direction (rest time.second));
    each = All-nil (IsStartOf (cron_job_of job) zone);
    by = All-nil (λ s. ComesBy direction until s.second);
  }

  module _ (cur new : StartIterator) (before after : List Start) (g : GivesUntil cur before) where
    -- what its search answers is said of the job and the clock
    own_found : (s : Start) → IsStartFound cur.direction (cron_job_of cur.job.now) (table_moment cur.position) s → IsStartFound direction (cron_job_of job) (moment_at cur.position.second) s
    own_found s found =
        subst (λ (x : ClockTable). IsStartFound direction (cron_job_of job) (record { zone = table_zone x; instant = cur.position.second; fraction = 0 }) s) g.table_is
        (subst (λ (x : CrontabJob). IsStartFound direction (cron_job_of x) (table_moment cur.position) s) g.job_is
        (subst (λ (x : Direction). IsStartFound x (cron_job_of cur.job.now) (table_moment cur.position) s) g.direction_is found))

    own_none : NoStartLeft cur.direction (cron_job_of cur.job.now) (table_moment cur.position) → NoStartLeft direction (cron_job_of job) (moment_at cur.position.second)
    own_none none =
        subst (λ (x : ClockTable). NoStartLeft direction (cron_job_of job) (record { zone = table_zone x; instant = cur.position.second; fraction = 0 })) g.table_is
        (subst (λ (x : CrontabJob). NoStartLeft direction (cron_job_of x) (table_moment cur.position)) g.job_is
        (subst (λ (x : Direction). NoStartLeft x (cron_job_of cur.job.now) (table_moment cur.position)) g.direction_is none))

    own_by : (i : ℤ) → ComesBy cur.direction until i → ComesBy direction until i
    own_by i by = subst (λ (x : Direction). ComesBy x until i) g.direction_is by

    own_past : (i : ℤ) → ¬ (ComesBy cur.direction until i) → ¬ (ComesBy direction until i)
    own_past i past = subst (λ (x : Direction). ¬ (ComesBy x until i)) g.direction_is past

    splits_more : (s : Start) → IsStartFound cur.direction (cron_job_of cur.job.now) (table_moment cur.position) s
        → Splits direction (rest time.second) (rest (onward_from direction s.second)) (seconds_of before ++ s.second ∷ [])
    splits_more s found =
        splits_next direction (cron_job_of job) zone (rest time.second) cur.position.second s.second (seconds_of before) g.splits (own_found s found).nearest

    -- one call more
    pub one_more : TakesUntil until cur new before after None → GivesUntil new after
    one_more (s, (found, goes), by, e) =
        let pushed : seconds_of (before ++ s ∷ []) ≡ seconds_of before ++ s.second ∷ [] = map_push (λ (x : Start). x.second) before s in
        subst (λ (xs : List Start). GivesUntil new xs) (sym e) (record {
          job_is = goes.job ∙ g.job_is;
          table_is = goes.table ∙ g.table_is;
          direction_is = goes.direction ∙ g.direction_is;
          splits =
              subst (λ (is : List ℤ). Splits direction (rest time.second) (rest new.position.second) is) (sym pushed)
              (subst (λ (i : ℤ). Splits direction (rest time.second) (rest i) (seconds_of before ++ s.second ∷ [])) (sym (goes.at ∙ ap (λ (d : Direction). onward_from d s.second) g.direction_is)) (splits_more s found));
          each = All-push (IsStartOf (cron_job_of job) zone) before s g.each (own_found s found).is;
          by = All-push (λ x. ComesBy direction until x.second) before s g.by (own_by s.second by);
        })

    pub one_longer : TakesUntil until cur new before after None → length after ≡ length before + 1
    one_longer (s, steps, by, e) = subst (λ (xs : List Start). length xs ≡ length before + 1) (sym e) (length_push before s)

    -- the call that ends the listing
    pub ends_listing : (most : ℕ) (end : StartsEnd) → length before ≤ most → TakesUntil until cur new before after (Some end)
        → ListsStartsIn direction (cron_job_of job) (table_moment time) until most after end
    ends_listing most ends.Full fits takes = absurd takes
    ends_listing most (ends.Past next) fits ((found, goes), past, e) =
        subst (λ (xs : List Start). ListsStartsIn direction (cron_job_of job) (table_moment time) until most xs (ends.Past next)) (sym e) (record {
          begins = begins direction (rest time.second) (rest cur.position.second) (seconds_of before) g.splits;
          each = g.each;
          by = g.by;
          most = fits;
          ended = ((own_found next found).is, own_past next.second past, begins direction (rest time.second) (rest (onward_from direction next.second)) (seconds_of before ++ next.second ∷ []) (splits_more next found));
        })
    ends_listing most ends.Over fits ((none, goes), e) =
        subst (λ (xs : List Start). ListsStartsIn direction (cron_job_of job) (table_moment time) until most xs ends.Over) (sym e) (record {
          begins = begins direction (rest time.second) (rest cur.position.second) (seconds_of before) g.splits;
          each = g.each;
          by = g.by;
          most = fits;
          ended = λ i left span. elim (g.splits.either i left) [ inl had ↦ had | inr on ↦ absurd (own_none none i span on) ];
        })

    -- a listing that ended with its last start
    pub lists_full : (most : ℕ) → length before ≡ most → ListsStartsIn direction (cron_job_of job) (table_moment time) until most before ends.Full
    lists_full most full = record {
      begins = begins direction (rest time.second) (rest cur.position.second) (seconds_of before) g.splits;
      each = g.each;
      by = g.by;
      most = omega (arith, full);
      ended = full;
    }
