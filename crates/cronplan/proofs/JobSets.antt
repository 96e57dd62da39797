-- The moments at which several jobs start, and the sets of these jobs.
use Rattle.std.proofs.Common.{◌≡◌, ◌≢◌, ◌∙◌, ℕ, ℤ, ◌+◌, ◌-◌, ◌<◌, ◌≤◌, Bool, true, false, not, ◌&&◌, cond, nat_lt, nat_eq, List, [], ◌∷◌, ◌++◌, length, get_or, take, drop, map, filter, slice_get, Some, refl, sym, ap, subst, arith}
use Rattle.std.proofs.lemmas.Bool.{false≢true, cond-true, cond-false, lt-ltb, ltb-true}
use Rattle.std.proofs.lemmas.Bool.Decides.{Decides-int_eq}
use Rattle.std.proofs.lemmas.Cmp.{nat_list_cmp_total, int_cmp_total, tied_itself}
use Rattle.std.proofs.lemmas.List.{append-nil, map-id, map-append, map_push, map_more, length-map, get_or-map, get_or-take, get_or_read, drop_more, length-take-le, take_all}
use Rattle.std.proofs.lemmas.List.Elements.{All-nil, All-same, All-map, All-weaker, All-push, All-more, All-contains, All-get_or, Contains-append_left, Contains-push, Contains-get_or, filter-append, filter_agree, filter_passes}
use Rattle.std.proofs.lemmas.List.Kept.{IsSortedBy-filter}
use Rattle.std.proofs.lemmas.List.Quantifiers.{all_pairs_push}
use Rattle.std.proofs.lemmas.List.Sorted.{ranks_by, All-permutation, Contains-permutation, IsPermutation-map}
use Rattle.std.proofs.lemmas.Map.Keys.{IsStrictlyIncreasing-dedup}
use Rattle.std.specs.Cmp.{IsStrictWeakOrder}
use Rattle.std.specs.Cmp.Lexicographic.{pointwise, as_long, bytes_decides, slice_cmp, texts_ties}
use Rattle.std.specs.List.{All, Contains}
use Rattle.std.specs.List.Sorted.{IsPermutation, IsSorted, IsSortedBy, IsStrictlyIncreasing, ties}
use Rattle.std.specs.Ordering.{int_cmp, int_eq, is_eq, is_lt, nat_cmp, ordering_reverse, ordering_then}
use Rattle.std.specs.declared.cmp.Ordering.{Ordering}
use Rattle.std.specs.declared.cmp.Ordering.TheVariants.{Less, Equal, Greater}
use Rattle.cronplan.specs.declared.moments.Moment.{Moment}
use Rattle.cronplan.specs.declared.start.JobStart.{JobStart}
use Rattle.cronplan.specs.declared.together.Meeting.{Meeting}
use Rattle.cronplan.specs.declared.together.Together.{Together}
use Rattle.cronplan.specs.Moments.{at_second}
use Rattle.cronplan.specs.Private.Meetings.{seen_of, seen_at, seen_if_several, is_lower, meetings_with_jobs, jobs_in, sets_in, AreMeetings, AreMeetingsUntil, AreByJobs, IsNewGroup, IsSetOf, AreSetsUntil, AreSets}
use Rattle.cronplan.specs.Starts.{start_cmp}
use Rattle.cronplan.specs.Together.{jobs_at, has_several, moments_with, together_cmp, IsTogether, AreTogether}
use Rattle.cronplan.proofs.AlikeElements.{all_less_before, tied_to_last, alike_from, first_alike}
use Rattle.cronplan.proofs.FilteredLists.{kept, filter_within, map-map, map-filter, Contains-map, All-from_map, AllPairs-permutation}
use Rattle.cronplan.proofs.MomentStarts.{none_start, none_until, all_until}
use Rattle.cronplan.proofs.StartOrder.{start_weak}

-- ---- the order of meetings

pub lower_weak : IsStrictWeakOrder is_lower
lower_weak = ranks_by nat_list_cmp_total (λ (m : Meeting). m.jobs.items)

-- of two lists neither is lower where they are equal
neither_lower : (xs ys : List ℕ) → (not (is_lt (slice_cmp nat_cmp xs ys)) && not (is_lt (slice_cmp nat_cmp ys xs))) ≡ pointwise nat_eq ys xs
neither_lower xs ys =
    ap (λ (o : Ordering). not (is_lt o) && not (is_lt (slice_cmp nat_cmp ys xs))) (nat_list_cmp_total.antisymm xs ys) ∙ at (slice_cmp nat_cmp ys xs) ∙ sym (texts_ties ys xs) where
      at : (o : Ordering) → (not (is_lt (ordering_reverse o)) && not (is_lt o)) ≡ is_eq o
      at Less = refl
      at Equal = refl
      at Greater = refl

-- so those that tie have the same jobs
pub same_jobs : (x y : Meeting) → ties is_lower x y ≡ true → y.jobs.items ≡ x.jobs.items
same_jobs x y e = (bytes_decides y.jobs.items x.jobs.items).0 (sym (neither_lower x.jobs.items y.jobs.items) ∙ e)

-- ---- the jobs at a second

-- of starts at one second the order is that of the jobs
job_order : (x y : JobStart) → x.second ≡ y.second → is_lt (start_cmp x y) ≡ false → is_lt (nat_cmp x.job y.job) ≡ false
job_order x y e h =
    at (nat_cmp x.job y.job) (ordering_then (nat_cmp x.count y.count) (int_cmp x.wall y.wall))
    (subst (λ (o : Ordering). is_lt (ordering_then o (ordering_then (nat_cmp x.job y.job) (ordering_then (nat_cmp x.count y.count) (int_cmp x.wall y.wall)))) ≡ false)
    (ap (λ (i : ℤ). int_cmp i y.second) e ∙ tied_itself int_cmp_total y.second) h) where
      at : (o r : Ordering) → is_lt (ordering_then o r) ≡ false → is_lt o ≡ false
      at Less r less = less
      at Equal r less = refl
      at Greater r less = refl

jobs_sorted : (i : ℤ) (starts : List JobStart) → IsSorted start_cmp starts → IsSorted nat_cmp (map (λ (s : JobStart). s.job) (at_second i starts))
jobs_sorted i starts up = λ k d low h.
    let there : List JobStart = at_second i starts in
    let size = length-map there (λ (s : JobStart). s.job) in
    let sorted : IsSorted start_cmp there = IsSortedBy-filter (λ (x y : JobStart). is_lt (start_cmp x y)) start_weak (λ (s : JobStart). int_eq s.second i) starts up in
    let passes : All (λ (s : JobStart). int_eq s.second i ≡ true) there = filter_passes (λ (s : JobStart). int_eq s.second i) starts in
    let x : JobStart = get_or there (k + 1) none_start in
    let y : JobStart = get_or there k none_start in
    let x_at : x.second ≡ i = (Decides-int_eq x.second i).0 (passes (k + 1) none_start (omega (arith, h, size))) in
    let y_at : y.second ≡ i = (Decides-int_eq y.second i).0 (passes k none_start (omega (arith, h, size))) in
    let x_is : get_or (map (λ (s : JobStart). s.job) there) (k + 1) d ≡ x.job = get_or-map (λ (s : JobStart). s.job) there (k + 1) none_start d (omega (arith, h, size)) in
    let y_is : get_or (map (λ (s : JobStart). s.job) there) k d ≡ y.job = get_or-map (λ (s : JobStart). s.job) there k none_start d (omega (arith, h, size)) in
    ap (λ (n : ℕ). is_lt (nat_cmp n (get_or (map (λ (s : JobStart). s.job) there) k d))) x_is ∙ ap (λ (n : ℕ). is_lt (nat_cmp x.job n)) y_is
    ∙ job_order x y (x_at ∙ sym y_at) (sorted k none_start (omega arith) (omega (arith, h, size)))

jobs_rise : (i : ℤ) (starts : List JobStart) → IsSorted start_cmp starts → IsStrictlyIncreasing (jobs_at i starts)
jobs_rise i starts up = IsStrictlyIncreasing-dedup (map (λ (s : JobStart). s.job) (at_second i starts)) (jobs_sorted i starts up)

-- ---- meetings one by one

-- a meeting is put after the others, or it isn't
pub seen_more : (old new : List Meeting) (m : Meeting) (jobs : List ℕ) (moment : Moment) → new ≡ old ++ m ∷ [] → m.jobs.items ≡ jobs → m.moment ≡ moment
    → nat_lt 1 (length m.jobs.items) ≡ true → map seen_of new ≡ map seen_of old ++ seen_if_several jobs moment
seen_more old new m jobs moment e f g several =
    ap (map seen_of) e ∙ map_push seen_of old m
    ∙ ap (λ (v : List ℕ × Moment). map seen_of old ++ v ∷ []) (ap (λ (js : List ℕ). (js, m.moment)) f ∙ ap (λ (x : Moment). (jobs, x)) g)
    ∙ ap (λ (vs : List (List ℕ × Moment)). map seen_of old ++ vs)
    (sym (cond-true (nat_lt 1 (length jobs)) ((jobs, moment) ∷ []) [] (sym (ap (λ (js : List ℕ). nat_lt 1 (length js)) f) ∙ several)))

pub seen_same : (old new : List Meeting) (m : Meeting) (jobs : List ℕ) (moment : Moment) → new ≡ old → m.jobs.items ≡ jobs
    → nat_lt 1 (length m.jobs.items) ≡ false → map seen_of new ≡ map seen_of old ++ seen_if_several jobs moment
seen_same old new m jobs moment e f few =
    ap (map seen_of) e ∙ sym (append-nil (map seen_of old))
    ∙ ap (λ (vs : List (List ℕ × Moment)). map seen_of old ++ vs)
    (sym (cond-false (nat_lt 1 (length jobs)) ((jobs, moment) ∷ []) [] (sym (ap (λ (js : List ℕ). nat_lt 1 (length js)) f) ∙ few)))

-- so are those of one moment more
pub seen_moments : (starts : List JobStart) (moments : List Moment) (old new : List Meeting) (m : Moment) → map seen_of old ≡ map (seen_at starts) (filter (has_several starts) moments)
    → map seen_of new ≡ map seen_of old ++ seen_if_several (jobs_at m.second starts) m
    → map seen_of new ≡ map (seen_at starts) (filter (has_several starts) (moments ++ m ∷ []))
seen_moments starts moments old new m had more =
    more ∙ ap (λ (vs : List (List ℕ × Moment)). vs ++ seen_if_several (jobs_at m.second starts) m) had
    ∙ ap (λ (vs : List (List ℕ × Moment)). map (seen_at starts) (filter (has_several starts) moments) ++ vs) (at (has_several starts m))
    ∙ sym (ap (map (seen_at starts)) (filter-append (has_several starts) moments (m ∷ [])) ∙ map-append (seen_at starts) (filter (has_several starts) moments) (filter (has_several starts) (m ∷ []))) where
      at : (b : Bool) → cond b ((jobs_at m.second starts, m) ∷ []) [] ≡ map (seen_at starts) (cond b (m ∷ []) [])
      at true = refl
      at false = refl

pub no_meetings : (starts : List JobStart) → AreMeetingsUntil 0 starts []
no_meetings starts = record { moments = []; until = none_until starts; seen = refl }

pub all_meetings : (starts : List JobStart) (ms : List Meeting) (k : ℕ) → length starts ≤ k → AreMeetingsUntil k starts ms → AreMeetings starts ms
all_meetings starts ms k le h = record { moments = h.moments; are_moments = all_until starts h.moments k le h.until; seen = h.seen }

-- ---- what is known of the meetings of starts

module _ (starts : List JobStart) (moments : List Moment) (ms : List Meeting) (seen : map seen_of ms ≡ map (seen_at starts) (filter (has_several starts) moments)) where
  -- what holds of the jobs of a moment, where they are several, holds of those of a meeting
  of_each : (P : List ℕ → Type 0) → ((m : Moment) → has_several starts m ≡ true → P (jobs_at m.second starts)) → All (λ x. P x.jobs.items) ms
  of_each P holds =
      let those : List Moment = filter (has_several starts) moments in
      All-from_map seen_of (λ (v : List ℕ × Moment). P v.0) ms
      (All-same (λ (v : List ℕ × Moment). P v.0) (map seen_of ms) (map (seen_at starts) those) seen
      (All-map (λ (v : List ℕ × Moment). P v.0) (seen_at starts) those
      (All-weaker (λ m. has_several starts m ≡ true) (λ m. P (jobs_at m.second starts)) holds those (filter_passes (has_several starts) moments))))

  -- the moments of those with the jobs of one are all at which just these start
  moments_alike : (x : Meeting) → 1 < length x.jobs.items → map (λ m. m.moment) (meetings_with_jobs x ms) ≡ moments_with starts x.jobs.items moments
  moments_alike x several =
      let q : List ℕ × Moment → Bool = λ v. not (is_lt (slice_cmp nat_cmp x.jobs.items v.0)) && not (is_lt (slice_cmp nat_cmp v.0 x.jobs.items)) in
      let those : List Moment = filter (has_several starts) moments in
      let wide : (m : Moment) → q (seen_at starts m) ≡ true → has_several starts m ≡ true = λ m e.
      lt-ltb 1 (length (jobs_at m.second starts))
      (omega (arith, several, as_long nat_eq (jobs_at m.second starts) x.jobs.items (sym (neither_lower x.jobs.items (jobs_at m.second starts)) ∙ e))) in
      sym (map-map (λ (v : List ℕ × Moment). v.1) seen_of (meetings_with_jobs x ms))
      ∙ ap (map (λ (v : List ℕ × Moment). v.1)) (map-filter seen_of q ms ∙ ap (filter q) seen ∙ sym (map-filter (seen_at starts) q those))
      ∙ map-map (λ (v : List ℕ × Moment). v.1) (seen_at starts) (filter (λ m. q (seen_at starts m)) those)
      ∙ map-id (filter (λ m. q (seen_at starts m)) those)
      ∙ filter_within (λ m. q (seen_at starts m)) (has_several starts) wide moments
      ∙ filter_agree (λ m. q (seen_at starts m)) (λ m. pointwise nat_eq (jobs_at m.second starts) x.jobs.items) (λ m. neither_lower x.jobs.items (jobs_at m.second starts)) moments

  -- a moment at which several jobs start is that of a meeting
  has_jobs : (m : Moment) → Contains moments m → has_several starts m ≡ true → Contains (jobs_in ms) (jobs_at m.second starts)
  has_jobs m has several =
      let those : List Moment = filter (has_several starts) moments in
      let one : Contains (map (seen_at starts) those) (seen_at starts m) = Contains-map (seen_at starts) those m (kept (has_several starts) moments m has several) in
      let two : Contains (map seen_of ms) (seen_at starts m) = subst (λ (vs : List (List ℕ × Moment)). Contains vs (seen_at starts m)) (sym seen) one in
      subst (λ (js : List (List ℕ)). Contains js (jobs_at m.second starts)) (map-map (λ (v : List ℕ × Moment). v.0) seen_of ms)
      (Contains-map (λ (v : List ℕ × Moment). v.0) (map seen_of ms) (seen_at starts m) two)

-- ---- the meetings with the same jobs

-- where the meeting before one has lower jobs, all before it have
pub first_lower : (ms : List Meeting) → IsSortedBy is_lower ms → (k : ℕ) (d a b : Meeting) → 0 < k → k < length ms → a ≡ get_or ms (k - 1) a → b ≡ get_or ms k b → is_lower a b ≡ true
    → All (λ m. is_lower m (get_or ms k d) ≡ true) (take k ms)
first_lower ms up k d a b some inside a_is b_is less =
    all_less_before is_lower lower_weak ms up k d some inside
    (subst (λ (x : Meeting). is_lower x (get_or ms k d) ≡ true) (get_or_read ms (k - 1) a (omega arith) a_is d)
    (subst (λ (y : Meeting). is_lower a y ≡ true) (get_or_read ms k b inside b_is d) less))

-- and where it hasn't, it has the same
pub had_lower : (ms : List Meeting) → IsSortedBy is_lower ms → (k : ℕ) (d a b : Meeting) → 0 < k → k < length ms → a ≡ get_or ms (k - 1) a → b ≡ get_or ms k b → is_lower a b ≡ false
    → Contains (jobs_in (take k ms)) (get_or ms k d).jobs.items
had_lower ms up k d a b some inside a_is b_is not_less =
    let x : Meeting = get_or ms (k - 1) d in
    let y : Meeting = get_or ms k d in
    let e : is_lower x y ≡ false =
    subst (λ (z : Meeting). is_lower z y ≡ false) (get_or_read ms (k - 1) a (omega arith) a_is d) (subst (λ (z : Meeting). is_lower a z ≡ false) (get_or_read ms k b inside b_is d) not_less) in
    let same : x.jobs.items ≡ y.jobs.items = same_jobs y x (tied_to_last is_lower lower_weak ms up k d some inside e) in
    let there : get_or (take k ms) (k - 1) d ≡ x = get_or-take k ms (k - 1) d (omega arith) in
    subst (Contains (jobs_in (take k ms))) (ap (λ (m : Meeting). m.jobs.items) there ∙ same)
    (Contains-map (λ (m : Meeting). m.jobs.items) (take k ms) (get_or (take k ms) (k - 1) d)
    (Contains-get_or (take k ms) (k - 1) d (omega (arith, inside, length-take-le k ms (omega arith)))))

-- those from it on with its jobs are all with them
pub new_group : (ms group : List Meeting) (k : ℕ) (d x : Meeting) → k < length ms → x ≡ get_or ms k x → All (λ m. is_lower m (get_or ms k d) ≡ true) (take k ms)
    → group ≡ meetings_with_jobs x (drop k ms) → IsNewGroup ms k (get_or ms k d) group
new_group ms group k d x inside x_is lower e =
    let y : Meeting = get_or ms k d in
    let is : group ≡ meetings_with_jobs y (drop k ms) = e ∙ ap (λ (z : Meeting). meetings_with_jobs z (drop k ms)) (get_or_read ms k x inside x_is d) in
    record {
      group_is = is ∙ alike_from is_lower lower_weak y ms k lower;
      first_is = ap (λ (zs : List Meeting). slice_get zs 0) (is ∙ ap (meetings_with_jobs y) (drop_more ms k d inside)) ∙ first_alike is_lower lower_weak y (drop (k + 1) ms);
      lower = lower;
    }

-- ---- sets one by one

pub no_sets : (ms : List Meeting) → AreSetsUntil 0 ms []
no_sets ms = record {
  each = All-nil (IsSetOf ms);
  once = λ i j d lt inside. absurd (omega arith);
  complete = All-nil (λ m. Contains [] m.jobs.items);
  had = All-nil (λ t. Contains [] t.jobs.items);
}

pub all_sets : (ms : List Meeting) (sets : List Together) (k : ℕ) → length ms ≤ k → AreSetsUntil k ms sets → AreSets ms sets
all_sets ms sets k le h = record {
  each = h.each;
  once = h.once;
  complete = subst (All (λ m. Contains (sets_in sets) m.jobs.items)) (take_all k ms le) h.complete;
}

more_jobs : (ms : List Meeting) (k : ℕ) (d : Meeting) (jobs : List ℕ) → k < length ms → Contains (jobs_in (take k ms)) jobs → Contains (jobs_in (take (k + 1) ms)) jobs
more_jobs ms k d jobs inside has =
    subst (λ (js : List (List ℕ)). Contains js jobs) (sym (map_more (λ (m : Meeting). m.jobs.items) ms k d inside))
    (Contains-append_left (jobs_in (take k ms)) ((get_or ms k d).jobs.items ∷ []) jobs has)

-- where there is a place there is a meeting
pub some_meeting : (ms : List Meeting) (k : ℕ) → k < length ms → Meeting
some_meeting [] k inside = absurd (omega arith)
some_meeting (m ∷ ms) k inside = m

-- a meeting whose jobs one before it has
pub same_sets : (ms : List Meeting) (sets : List Together) (k : ℕ) (d : Meeting) → k < length ms → Contains (jobs_in (take k ms)) (get_or ms k d).jobs.items
    → AreSetsUntil k ms sets → AreSetsUntil (k + 1) ms sets
same_sets ms sets k d inside met h = record {
  each = h.each;
  once = h.once;
  complete = All-more (λ m. Contains (sets_in sets) m.jobs.items) ms k d inside h.complete
      (All-contains (λ js. Contains (sets_in sets) js) (jobs_in (take k ms)) (get_or ms k d).jobs.items
      (All-map (λ js. Contains (sets_in sets) js) (λ (m : Meeting). m.jobs.items) (take k ms) h.complete) met);
  had = All-weaker (λ (t : Together). Contains (jobs_in (take k ms)) t.jobs.items) (λ t. Contains (jobs_in (take (k + 1) ms)) t.jobs.items)
      (λ t has. more_jobs ms k d t.jobs.items inside has) sets h.had;
}

-- a meeting that is the first with its jobs
pub next_sets : (ms : List Meeting) (sets : List Together) (k : ℕ) (d : Meeting) (t : Together) → k < length ms → All (λ x. is_lower x (get_or ms k d) ≡ true) (take k ms)
    → t.jobs.items ≡ (get_or ms k d).jobs.items → IsSetOf ms t → AreSetsUntil k ms sets → AreSetsUntil (k + 1) ms (sets ++ t ∷ [])
next_sets ms sets k d t inside lower jobs one h = record {
  each = All-push (IsSetOf ms) sets t h.each one;
  once = all_pairs_push (λ (a b : Together). a.jobs.items ≢ b.jobs.items) sets t h.once (λ i e below. other i e below);
  complete = All-more (λ m. Contains (sets_in (sets ++ t ∷ [])) m.jobs.items) ms k d inside
      (All-weaker (λ (m : Meeting). Contains (sets_in sets) m.jobs.items) (λ m. Contains (sets_in (sets ++ t ∷ [])) m.jobs.items)
      (λ m has. subst (λ (js : List (List ℕ)). Contains js m.jobs.items) (sym pushed) (Contains-append_left (sets_in sets) (t.jobs.items ∷ []) m.jobs.items has)) (take k ms) h.complete)
      (subst (λ (js : List (List ℕ)). Contains js (get_or ms k d).jobs.items) (sym pushed)
      (subst (Contains (sets_in sets ++ t.jobs.items ∷ [])) jobs (Contains-push (sets_in sets) t.jobs.items)));
  had = All-push (λ (s : Together). Contains (jobs_in (take (k + 1) ms)) s.jobs.items) sets t
      (All-weaker (λ (s : Together). Contains (jobs_in (take k ms)) s.jobs.items) (λ s. Contains (jobs_in (take (k + 1) ms)) s.jobs.items)
      (λ s has. more_jobs ms k d s.jobs.items inside has) sets h.had)
      (subst (Contains (jobs_in (take (k + 1) ms))) (sym jobs)
      (subst (λ (js : List (List ℕ)). Contains js (get_or ms k d).jobs.items) (sym (map_more (λ (m : Meeting). m.jobs.items) ms k d inside))
      (Contains-push (jobs_in (take k ms)) (get_or ms k d).jobs.items)));
} where
  pushed : sets_in (sets ++ t ∷ []) ≡ sets_in sets ++ t.jobs.items ∷ []
  pushed = map_push (λ (s : Together). s.jobs.items) sets t

  other : (i : ℕ) (e : Together) → i < length sets → (get_or sets i e).jobs.items ≢ t.jobs.items
  other i e below = λ same.
      let new : List ℕ = (get_or ms k d).jobs.items in
      let had : Contains (jobs_in (take k ms)) new =
      subst (Contains (jobs_in (take k ms))) (same ∙ jobs) (All-get_or (λ (s : Together). Contains (jobs_in (take k ms)) s.jobs.items) sets i e below h.had) in
      let less : is_lt (slice_cmp nat_cmp new new) ≡ true =
      All-contains (λ js. is_lt (slice_cmp nat_cmp js new) ≡ true) (jobs_in (take k ms)) new
      (All-map (λ js. is_lt (slice_cmp nat_cmp js new) ≡ true) (λ (m : Meeting). m.jobs.items) (take k ms) lower) had in
      false≢true (sym (ap is_lt (tied_itself nat_list_cmp_total new)) ∙ less)

-- the set of a meeting that is the first of its group
pub set_is : (ms group : List Meeting) (x : Meeting) (t : Together) → Contains ms x → group ≡ meetings_with_jobs x ms → slice_get group 0 ≡ Some x → t.jobs.items ≡ x.jobs.items → t.moments ≡ length group
    → t.first ≡ x.moment → IsSetOf ms t
set_is ms group x t has is first jobs count moment = record {
  meeting = x;
  has = has;
  jobs_are = jobs;
  count_is = count ∙ ap (λ (ys : List Meeting). length ys) is;
  first_is = ap (λ (ys : List Meeting). slice_get (map (λ m. m.moment) ys) 0) (sym is) ∙ of_first group first ∙ ap (λ (m : Moment). Some m) (sym moment);
} where
  of_first : (ys : List Meeting) → slice_get ys 0 ≡ Some x → slice_get (map (λ m. m.moment) ys) 0 ≡ Some x.moment
  of_first [] e = cc
  of_first (y ∷ ys) e = let same : y ≡ x = cc in ap (λ (m : Meeting). Some m.moment) same

-- ---- the sets of starts

pub are_together : (starts : List JobStart) (ms : List Meeting) (sets ordered : List Together) → IsSorted start_cmp starts → AreByJobs starts ms → AreSets ms sets
    → IsPermutation sets ordered → IsSorted together_cmp ordered → AreTogether starts ordered
are_together starts ms sets ordered up by all same order = record {
  moments = held;
  are_moments = by.are_meetings.are_moments;
  each = All-permutation (IsTogether starts held) sets ordered same (All-weaker (IsSetOf ms) (IsTogether starts held) (λ t h. together t h) sets all.each);
  once = AllPairs-permutation (λ (a b : Together). a.jobs.items ≢ b.jobs.items) (λ a b ne e. ne (sym e)) sets ordered same all.once;
  complete = λ k d inside several. found (get_or held k d) (Contains-get_or held k d inside) several;
  order = order;
} where
  held : List Moment
  held = by.are_meetings.moments

  of_meetings : (P : List ℕ → Type 0) → ((m : Moment) → has_several starts m ≡ true → P (jobs_at m.second starts)) → All (λ (x : Meeting). P x.jobs.items) ms
  of_meetings P holds = All-permutation (λ (x : Meeting). P x.jobs.items) by.first ms by.same (of_each starts held by.first by.are_meetings.seen P holds)

  together : (t : Together) → IsSetOf ms t → IsTogether starts held t
  together t h =
      let x : Meeting = h.meeting in
      let several : 1 < length x.jobs.items =
      All-contains (λ (m : Meeting). 1 < length m.jobs.items) ms x (of_meetings (λ js. 1 < length js) (λ m e. ltb-true 1 (length (jobs_at m.second starts)) e)) h.has in
      let rise : IsStrictlyIncreasing x.jobs.items =
      All-contains (λ (m : Meeting). IsStrictlyIncreasing m.jobs.items) ms x (of_meetings IsStrictlyIncreasing (λ m e. jobs_rise m.second starts up)) h.has in
      let those : map (λ m. m.moment) (meetings_with_jobs x ms) ≡ moments_with starts x.jobs.items held =
      ap (map (λ (m : Meeting). m.moment)) (by.stable x) ∙ moments_alike starts held by.first by.are_meetings.seen x several in
      record {
        several = subst (λ (js : List ℕ). 1 < length js) (sym h.jobs_are) several;
        rise = subst IsStrictlyIncreasing (sym h.jobs_are) rise;
        count = h.count_is ∙ sym (length-map (meetings_with_jobs x ms) (λ (m : Meeting). m.moment)) ∙ ap (λ (xs : List Moment). length xs) those
            ∙ ap (λ (js : List ℕ). length (moments_with starts js held)) (sym h.jobs_are);
        first = ap (λ (js : List ℕ). slice_get (moments_with starts js held) 0) h.jobs_are ∙ ap (λ (xs : List Moment). slice_get xs 0) (sym those) ∙ h.first_is;
      }

  found : (m : Moment) → Contains held m → 1 < length (jobs_at m.second starts) → Contains (sets_in ordered) (jobs_at m.second starts)
  found m has several =
      let jobs : List ℕ = jobs_at m.second starts in
      let one : Contains (jobs_in by.first) jobs = has_jobs starts held by.first by.are_meetings.seen m has (lt-ltb 1 (length jobs) several) in
      let two : Contains (jobs_in ms) jobs =
      Contains-permutation (jobs_in by.first) (jobs_in ms) jobs (IsPermutation-map (λ (x : Meeting). x.jobs.items) by.first ms by.same) one in
      let three : Contains (sets_in sets) jobs =
      All-contains (λ js. Contains (sets_in sets) js) (jobs_in ms) jobs (All-map (λ js. Contains (sets_in sets) js) (λ (x : Meeting). x.jobs.items) ms all.complete) two in
      Contains-permutation (sets_in sets) (sets_in ordered) jobs (IsPermutation-map (λ (t : Together). t.jobs.items) sets ordered same) three
